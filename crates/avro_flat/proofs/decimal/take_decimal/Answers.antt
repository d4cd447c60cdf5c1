use Rattle.std.proofs.Common.{◌≡◌, ◌∙◌, to_z, of_z, arith}
use Rattle.std.specs.Int.{w128}
use Rattle.std.proofs.lemmas.Int.{ints}
use Rattle.avro_reference.proofs.Counting.{drop_moves}
use Rattle.avro_flat.proofs.Decimals.{decimal_short, decimal_long, decimal_taken}
use Rattle.avro_flat.proofs.decimal.take_decimal.Goals as goal

pub returns-then-size-gt-MAX_LEN-clause-reads : goal.returns-then-size-gt-MAX_LEN-clause-reads
returns-then-size-gt-MAX_LEN-clause-reads g c = decimal_long _ _ c.if-size-gt-MAX_LEN.true

pub returns-in_default-clause-reads : goal.returns-in_default-clause-reads
returns-in_default-clause-reads g c = decimal_short _ _ c.in_default.ensures.read.0

pub returns-clause-moves : goal.returns-clause-moves
returns-clause-moves g c =
    let t = c.in-Some.ensures in
    drop_moves _ _ _ _ _ t.read.0 t.read.2 t.calls

pub returns-clause-reads : goal.returns-clause-reads
returns-clause-reads g c =
    let t = c.in-Some.ensures.read in
    let e : to_z w128 (of_z w128 c.decimal_of.result) ≡ c.decimal_of.result = omega (arith, ints, c.decimal_of.type_inv) in
    decimal_taken _ _ c.as_slice.result.now _ _ (omega (arith, c.if-size-gt-MAX_LEN.false)) (t.0, c.as_slice.ensures ∙ t.1, t.2) (e ∙ c.decimal_of.ensures)
