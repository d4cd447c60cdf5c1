use Rattle.std.proofs.Common.{◌≡◌, ◌∙◌, List, All, drop, map, refl, sym, subst}
use Rattle.arrow_core.specs.declared.slot.Slot.{Slot}
use Rattle.arrow_array.specs.declared.array.Array.{Array}
use Rattle.arrow_builders.specs.NormalizedArrays.{IsNormalized}
use Rattle.avro_reference.proofs.Counting.{on_ok}
use Rattle.avro_schema.specs.Columns.{AreColumns}
use Rattle.avro_decode.specs.Symbols.{dictionary_values, kept_symbols}
use Rattle.avro_decode.proofs.Capacity.{fits_stay, types_stay}
use Rattle.avro_decode.proofs.Fields.{suit_same}
use Rattle.avro_decode.proofs.Symbols.{decoded_symbols, of_chunk}
use Rattle.avro_decode.proofs.Valid.{decoded_is_valid}
use Rattle.avro_decode.proofs.Wholes.{same_lengths, never_refused}
use Rattle.avro_decode.proofs.blocks.decode_into.Goals as goal

pub deserialize_into-requires : goal.deserialize_into-requires
deserialize_into-requires c κs =
    let r = c.requires.ready in
    let reserved = c.reserve_rows.ensures in
    let l = r.together.lengths in
    let data_types = reserved.data_types ∙ r.data_types in
    let suits = suit_same _ _ _ reserved.shapes r.suits in
    let types_fit = fits_stay _ _ reserved.shapes r.types_fit in
    ((refl, tt), (sym l.0 ∙ l.1, (r.together.carried, (r.together.fits, (data_types, (suits, (types_fit, (reserved.tight, reserved.empty))))))))

pub freeze-requires-clause-types_fit : goal.freeze-requires-clause-types_fit
freeze-requires-clause-types_fit c =
    fits_stay _ _ (c.in_ok-deserialize_into.ensures.shapes ∙ c.reserve_rows.ensures.shapes) c.requires.ready.types_fit

pub returns-clause-ready : goal.returns-clause-ready
returns-clause-ready c =
    let r = c.requires.ready in
    let shapes = c.in_ok-freeze.ensures.shapes ∙ c.in_ok-deserialize_into.ensures.shapes ∙ c.reserve_rows.ensures.shapes in
    on_ok c.try_new.result (record {
      together = r.together;
      suits = suit_same _ _ _ shapes r.suits;
      data_types = types_stay _ _ shapes ∙ r.data_types;
      types_fit = fits_stay _ _ shapes r.types_fit;
      tight = c.in_ok-freeze.ensures.tight;
      empty = c.in_ok-freeze.ensures.emptied;
    })

pub returns-clause-err : goal.returns-clause-err
returns-clause-err c =
    let e = c.in_ok-deserialize_into.ensures.columns in
    let slots = sym c.in_ok-freeze.ensures.slots in
    let wide = subst (λ (cs : List (List Slot)). AreColumns c.args.block.now.number_of_rows c.args.avro_fields.now c.args.projection.now (drop c.new-cursor.result.at c.new-cursor.result.bytes.now) cs) slots e in
    never_refused _ _ c.try_new.result _ (same_lengths _ _ _ _ c.in_ok-freeze.field-0.items wide) c.try_new.ensures.err

pub returns-clause-valid : goal.returns-clause-valid
returns-clause-valid c =
    let decoded = c.in_ok-deserialize_into.ensures in
    on_ok c.try_new.result (decoded_is_valid _ _ _ _ _ _ _ (c.new-cursor.ensures.rest ∙ c.as_slice.ensures) c.requires.ready.together decoded.counted decoded.columns)

pub returns-clause-dictionaries : goal.returns-clause-dictionaries
returns-clause-dictionaries c =
    let shapes = c.in_ok-deserialize_into.ensures.shapes ∙ c.reserve_rows.ensures.shapes in
    let suits = suit_same _ _ _ shapes c.requires.ready.suits in
    of_chunk (λ (chunk : List Array). map dictionary_values chunk ≡ kept_symbols c.args.avro_fields.now c.args.projection.now) c.try_new.result _ c.try_new.ensures.arrays
    (decoded_symbols c.args.avro_fields.now c.args.projection.now _ _ suits c.in_ok-freeze.ensures.dictionaries)

pub returns-clause-normalized : goal.returns-clause-normalized
returns-clause-normalized c = of_chunk (All IsNormalized) c.try_new.result _ c.try_new.ensures.arrays c.in_ok-freeze.ensures.normalized
