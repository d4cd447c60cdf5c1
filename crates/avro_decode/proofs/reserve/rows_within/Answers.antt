use Rattle.std.proofs.Common.{◌∙◌, ℕ, ◌/◌, min, List, length, ap}
use Rattle.avro_decode.proofs.Reserved.{rows_backed}
use Rattle.avro_decode.proofs.reserve.rows_within.Goals as goal

pub returns-clause-backed : goal.returns-clause-backed
returns-clause-backed c =
    let rows = c.args.block.now.number_of_rows in
    let read = ap (λ (bytes : List ℕ). min rows (length bytes / c.args.columns)) c.as_slice.ensures in
    rows_backed c.min.result rows (length c.args.block.now.bytes) c.args.columns (c.min.ensures ∙ read)
