-- A fixed type is found where its name and its size are.
use Rattle.std.proofs.Common.{sym}
use Rattle.avro_file.proofs.Parts.{fixed_unnamed, fixed_without, fixed_is}
use Rattle.avro_file.proofs.read.read_fixed.Goals as goal

pub returns-in_default : goal.returns-in_default
returns-in_default c = fixed_unnamed c.args.object.now c.in_default.ensures

pub returns-in_default-count_at : goal.returns-in_default-count_at
returns-in_default-count_at c = fixed_without c.args.object.now c.in-Some.name.now c.in-Some.ensures (sym c.in_default-count_at.ensures)

pub returns : goal.returns
returns c =
    let name = c.in_ok-copy_of.ensures.copy in
    let namespace = c.in_ok-copy_at.ensures.copy in
    let doc = c.in_ok-copy_at-2.ensures.copy in
    rw (name, namespace, doc, c.fixed_logical.ensures) (fixed_is c.args.object.now c.in-Some.name.now c.in-Some-count_at.size c.in-Some.ensures (sym c.in-Some-count_at.ensures))
