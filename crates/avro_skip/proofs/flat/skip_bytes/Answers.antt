use Rattle.avro_reference.proofs.Counting.{drop_moves}
use Rattle.avro_skip.proofs.flat.skip_bytes.Goals as goal

pub returns-then-jump-clause-moves : goal.returns-then-jump-clause-moves
returns-then-jump-clause-moves g c =
    let e = c.if-jump.ensures in
    drop_moves _ _ _ _ c.args.count e.read.0 e.read.1 e.calls
