-- A column that shows no flaw pairs with the schema in all of its slots.
use Rattle.std.proofs.Common.{◌∙◌, refl, sym, subst}
use Rattle.arrow_array.specs.Arrays.{array_slots, array_type}
use Rattle.avro_encode.specs.PairTypes.{PairsType}
use Rattle.avro_write.proofs.Paired.{all_pair}
use Rattle.avro_write.proofs.serializer.new_serializer.Goals as goal

pub new-requires-clause-slots : goal.new-requires-clause-slots
new-requires-clause-slots c =
    let s = c.args.schema.now in
    let array = c.args.array.now in
    let p : PairsType s (array_type array) = subst (PairsType s) c.data_type.ensures.data_type (c.if-not-pairs.ensures.0 refl) in
    all_pair s (array_type array) (array_slots array) p c.slots_are_typed.ensures (sym c.column_shows.ensures ∙ c.if-column_shows.false) (sym c.column_shows-2.ensures ∙ c.if-column_shows-2.false)

pub returns-clause-pairs : goal.returns-clause-pairs
returns-clause-pairs c =
    let s = c.args.schema.now in
    let array = c.args.array.now in
    let p : PairsType s (array_type array) = subst (PairsType s) c.data_type.ensures.data_type (c.if-not-pairs.ensures.0 refl) in
    all_pair s (array_type array) (array_slots array) p c.slots_are_typed.ensures (sym c.column_shows.ensures ∙ c.if-column_shows.false) (sym c.column_shows-2.ensures ∙ c.if-column_shows-2.false)
