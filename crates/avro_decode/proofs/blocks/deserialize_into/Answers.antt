use Rattle.std.proofs.Common.{◌∙◌, false, true, length, arith, refl, sym}
use Rattle.avro_schema.specs.Types.{HasColumnType}
use Rattle.avro_schema.specs.ValidBlock.{kept}
use Rattle.avro_types.proofs.ColumnTypes.{zip_length}
use Rattle.avro_reference.proofs.Counting.{forward_none}
use Rattle.avro_decode.proofs.Capacity.{empty_reach, slots_empty, few_slots_left, few_slots_passed, few_content_left, few_content_passed, capacity_left, capacity_kept, all_spare, types_stay}
use Rattle.avro_decode.proofs.Large.{bytes_counted, bytes_fit, bytes_do_not_fit}
use Rattle.avro_decode.proofs.Valid.{decoded_is_valid}
use Rattle.avro_decode.proofs.Wholes.{a_column_each, block_columns, bytes_refused, not_memory, shows_at_most, calls_at_most}
use Rattle.avro_decode.proofs.blocks.deserialize_into.Goals as goal

pub offsets_fit-requires : goal.offsets_fit-requires
offsets_fit-requires g c = record { lengths = zip_length (λ f a. HasColumnType true a.schema f) c.args.fields.now c.args.avro_fields.now c.requires.fits ∙ c.requires.lengths }

pub returns-then-not-offsets_fit-clause-err : goal.returns-then-not-offsets_fit-clause-err
returns-then-not-offsets_fit-clause-err g c =
    bytes_do_not_fit false _ (g.C.Cursor.rest c.args.cursor.now) c.args.fields.now c.args.projection.now c.left.ensures.length c.if-not-offsets_fit.ensures refl

pub returns-then-rows-left-clause-err : goal.returns-then-rows-left-clause-err
returns-then-rows-left-clause-err g c =
    (bytes_fit true _ (g.C.Cursor.rest c.args.cursor.now) c.args.fields.now c.args.projection.now c.left.ensures.length c.if-not-offsets_fit.ensures refl, omega (arith, c.left-2.ensures.length, c.if-rows-left.true))

pub decode_lent-requires : goal.decode_lent-requires
decode_lent-requires g c κs =
    let n = length (g.C.Cursor.rest c.args.cursor.now) in
    let fit = bytes_fit true _ (g.C.Cursor.rest c.args.cursor.now) c.args.fields.now c.args.projection.now c.left.ensures.length c.if-not-offsets_fit.ensures refl in
    let counted = bytes_counted n (kept c.args.avro_fields.now c.args.projection.now) (kept c.args.fields.now c.args.projection.now) c.args.builders.now c.left.ensures.limit c.requires.suits c.requires.types_fit c.requires.data_types fit in
    let few = empty_reach n (kept c.args.avro_fields.now c.args.projection.now) _ counted c.requires.empty in (
      (refl, tt),
      (
        record {
          lengths = c.requires.lengths;
          carried = c.requires.carried;
          suits = c.requires.suits;
          tight = c.requires.tight;
          offsets = few;
        },
        omega (arith, c.left-2.ensures.length, c.if-rows-left.false),
      ),
    )

pub returns-in-Ok-clause-counted : goal.returns-in-Ok-clause-counted
returns-in-Ok-clause-counted g c =
    (bytes_fit true _ (g.C.Cursor.rest c.args.cursor.now) c.args.fields.now c.args.projection.now c.left.ensures.length c.if-not-offsets_fit.ensures refl, omega (arith, c.left-2.ensures.length, c.if-rows-left.false))

pub returns-in-Ok-clause-columns : goal.returns-in-Ok-clause-columns
returns-in-Ok-clause-columns g c =
    let r = c.in-Ok.ensures.reads in
    block_columns _ _ _ _ _ _ (a_column_each _ _ _ c.requires.suits c.in-Ok.ensures.shapes) (slots_empty _ c.requires.empty) (r.1, r.2, r.3, r.4)

pub returns-in-Ok-clause-valid : goal.returns-in-Ok-clause-valid
returns-in-Ok-clause-valid g c =
    λ together. decoded_is_valid _ _ _ _ _ _ _ refl together (returns-in-Ok-clause-counted g c) (returns-in-Ok-clause-columns g c)

pub returns-in-Ok-clause-shown : goal.returns-in-Ok-clause-shown
returns-in-Ok-clause-shown g c =
    let r = c.in-Ok.ensures.reads in
    shows_at_most _ _ _ _ _ _ _ _ _ (omega (arith, c.left-2.ensures.length, c.if-rows-left.false)) r.2 r.5

pub returns-in-Ok-clause-few_calls : goal.returns-in-Ok-clause-few_calls
returns-in-Ok-clause-few_calls g c =
    let r = c.in-Ok.ensures.reads in
    calls_at_most _ _ _ _ _ _ _ _ _ (omega (arith, c.left-2.ensures.length, c.if-rows-left.false)) r.2 r.5

pub returns-in-Ok-clause-data_types : goal.returns-in-Ok-clause-data_types
returns-in-Ok-clause-data_types g c = types_stay _ _ c.in-Ok.ensures.shapes

pub returns-in-Ok-clause-forward : goal.returns-in-Ok-clause-forward
returns-in-Ok-clause-forward g c = c.in-Ok.ensures.moves.forward

pub returns-in-Ok-clause-calls : goal.returns-in-Ok-clause-calls
returns-in-Ok-clause-calls g c = omega (arith, c.in-Ok.ensures.moves.few)

pub returns-in-Ok-clause-slots : goal.returns-in-Ok-clause-slots
returns-in-Ok-clause-slots g c =
    few_slots_passed (g.C.Cursor.rest c.args.cursor.now) (g.C.Cursor.rest c.decode_lent.new.cursor) _ _ _ c.in-Ok.ensures.grows c.requires.empty

pub returns-in-Ok-clause-content : goal.returns-in-Ok-clause-content
returns-in-Ok-clause-content g c =
    few_content_passed (g.C.Cursor.rest c.args.cursor.now) (g.C.Cursor.rest c.decode_lent.new.cursor) _ _ _ c.in-Ok.ensures.grows c.requires.empty

pub returns-in-Ok-clause-capacity : goal.returns-in-Ok-clause-capacity
returns-in-Ok-clause-capacity g c = capacity_kept _ _ _ _ c.in-Ok.ensures.grows

pub returns-in-Ok-clause-fixed_content : goal.returns-in-Ok-clause-fixed_content
returns-in-Ok-clause-fixed_content g c = c.in-Ok.ensures.fixed_content

pub returns-in-Err-clause-data_types : goal.returns-in-Err-clause-data_types
returns-in-Err-clause-data_types g c = types_stay _ _ c.in-Err.ensures.shapes

pub returns-in-Err-clause-forward : goal.returns-in-Err-clause-forward
returns-in-Err-clause-forward g c = c.in-Err.ensures.moves.forward

pub returns-in-Err-clause-calls : goal.returns-in-Err-clause-calls
returns-in-Err-clause-calls g c = omega (arith, c.in-Err.ensures.moves.few)

pub returns-in-Err-clause-slots : goal.returns-in-Err-clause-slots
returns-in-Err-clause-slots g c =
    few_slots_passed (g.C.Cursor.rest c.args.cursor.now) (g.C.Cursor.rest c.decode_lent.new.cursor) _ _ _ c.in-Err.ensures.grows c.requires.empty

pub returns-in-Err-clause-content : goal.returns-in-Err-clause-content
returns-in-Err-clause-content g c =
    few_content_passed (g.C.Cursor.rest c.args.cursor.now) (g.C.Cursor.rest c.decode_lent.new.cursor) _ _ _ c.in-Err.ensures.grows c.requires.empty

pub returns-in-Err-clause-capacity : goal.returns-in-Err-clause-capacity
returns-in-Err-clause-capacity g c = capacity_kept _ _ _ _ c.in-Err.ensures.grows

pub returns-in-Err-clause-fixed_content : goal.returns-in-Err-clause-fixed_content
returns-in-Err-clause-fixed_content g c = c.in-Err.ensures.fixed_content

pub returns-in-Err-clause-err : goal.returns-in-Err-clause-err
returns-in-Err-clause-err g c =
    let start = g.C.Cursor.rest c.args.cursor.now in
    let fit = bytes_fit true _ start c.args.fields.now c.args.projection.now c.left.ensures.length c.if-not-offsets_fit.ensures refl in
    rw c.error_of.ensures (bytes_refused c.args.rows c.args.fields.now c.args.avro_fields.now c.args.projection.now start c.in-Err.fault (fit, omega (arith, c.left-2.ensures.length, c.if-rows-left.false)) c.in-Err.ensures.reads)

pub returns-in-Err-clause-has_capacity : goal.returns-in-Err-clause-has_capacity
returns-in-Err-clause-has_capacity g c =
    let n = length (g.C.Cursor.rest c.args.cursor.now) in
    λ spare bounded e. not_memory c.in-Err.fault (c.in-Err.ensures.has_capacity (all_spare n (kept c.args.avro_fields.now c.args.projection.now) c.args.builders.now spare bounded)) (sym c.error_of.ensures ∙ e)

-- ---- nothing was read

pub returns-then-not-offsets_fit-clause-forward : goal.returns-then-not-offsets_fit-clause-forward
returns-then-not-offsets_fit-clause-forward g c = forward_none (g.C.Cursor.rest c.args.cursor.now)

pub returns-then-not-offsets_fit-clause-slots : goal.returns-then-not-offsets_fit-clause-slots
returns-then-not-offsets_fit-clause-slots g c =
    few_slots_left (g.C.Cursor.rest c.args.cursor.now) c.args.builders.now c.requires.empty

pub returns-then-not-offsets_fit-clause-content : goal.returns-then-not-offsets_fit-clause-content
returns-then-not-offsets_fit-clause-content g c =
    few_content_left (g.C.Cursor.rest c.args.cursor.now) (kept c.args.avro_fields.now c.args.projection.now) c.args.builders.now c.requires.empty

pub returns-then-not-offsets_fit-clause-capacity : goal.returns-then-not-offsets_fit-clause-capacity
returns-then-not-offsets_fit-clause-capacity g c = capacity_left c.args.builders.now

pub returns-then-not-offsets_fit-clause-has_capacity : goal.returns-then-not-offsets_fit-clause-has_capacity
returns-then-not-offsets_fit-clause-has_capacity g c = λ spare bounded e. cc

pub returns-then-rows-left-clause-forward : goal.returns-then-rows-left-clause-forward
returns-then-rows-left-clause-forward g c = forward_none (g.C.Cursor.rest c.args.cursor.now)

pub returns-then-rows-left-clause-slots : goal.returns-then-rows-left-clause-slots
returns-then-rows-left-clause-slots g c = few_slots_left (g.C.Cursor.rest c.args.cursor.now) c.args.builders.now c.requires.empty

pub returns-then-rows-left-clause-content : goal.returns-then-rows-left-clause-content
returns-then-rows-left-clause-content g c =
    few_content_left (g.C.Cursor.rest c.args.cursor.now) (kept c.args.avro_fields.now c.args.projection.now) c.args.builders.now c.requires.empty

pub returns-then-rows-left-clause-capacity : goal.returns-then-rows-left-clause-capacity
returns-then-rows-left-clause-capacity g c = capacity_left c.args.builders.now

pub returns-then-rows-left-clause-has_capacity : goal.returns-then-rows-left-clause-has_capacity
returns-then-rows-left-clause-has_capacity g c = λ spare bounded e. cc
