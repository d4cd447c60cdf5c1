use Rattle.std.proofs.Common.{rules, ◌≡◌, ◌∙◌, Some, to_z, of_z, sym, ap}
use Rattle.std.specs.Int.{w128}
use Rattle.std.proofs.lemmas.Int.{to_z-of_z}
use Rattle.arrow_core.specs.declared.slot.Slot.TheVariants as slot
use Rattle.avro_reference.specs.Read.{push_one}
use Rattle.avro_reference.proofs.Counting.{number_first}
use Rattle.avro_flat.proofs.Counted.{value_pushed}
use Rattle.avro_flat.proofs.Decimals.{counted_decimal}
use Rattle.avro_flat.proofs.Unfolded.{push_none}
use Rattle.avro_flat.proofs.decimal.decode_decimal.Goals as goal

pub returns-in_default-take_decimal-clause-moves : goal.returns-in_default-take_decimal-clause-moves
returns-in_default-take_decimal-clause-moves g c =
    let n = c.in-Some.ensures in
    number_first _ _ _ _ _ _ n.costs n.moves c.in_default-take_decimal.ensures.moves

pub returns-in_default-take_decimal-clause-reads : goal.returns-in_default-take_decimal-clause-reads
returns-in_default-take_decimal-clause-reads g c =
    ap (push_one _) (counted_decimal _ _ _ c.in-Some.ensures.reads ∙ c.in_default-take_decimal.ensures.reads) ∙ push_none _

pub returns-clause-moves : goal.returns-clause-moves
returns-clause-moves g c =
    let n = c.in-Some.ensures in
    number_first _ _ _ _ _ _ n.costs n.moves c.in-Some-take_decimal.ensures.moves

pub returns-clause-reads : goal.returns-clause-reads
returns-clause-reads g c =
    let v = c.in-Some-take_decimal in
    let f : to_z w128 (of_z w128 v.value) ≡ v.value = to_z-of_z w128 v.value (search rules) in
    let read = counted_decimal _ _ _ c.in-Some.ensures.reads ∙ v.ensures.reads in
    value_pushed c.push.result c.pushed.result _ _ _ _ _ (read ∙ ap (λ z. Some (slot.Integer z, g.C.ByteReader.rest c.take_decimal.new.cursor)) (sym f)) c.push.ensures.ok c.pushed.ensures.ok c.pushed.ensures.err
