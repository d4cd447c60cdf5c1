use Rattle.std.proofs.Common.{◌≡◌, ◌∙◌, ℕ, List, [], ◌∷◌, length, map, Bool, true, false, ap, sym, subst, arith}
use Rattle.arrow_core.specs.declared.slot.Slot.{Slot}
use Rattle.arrow_array.specs.Arrays.{array_slots}
use Rattle.avro_schema.specs.declared.schema.AvroField.{AvroField}
use Rattle.avro_schema.specs.Rows.{Rows, column}
use Rattle.avro_schema.specs.ValidBlock.{kept}
use Rattle.avro_schema.specs.Columns.{columns}
use Rattle.sample_rows.specs.Fields.{row_fields}
use Rattle.sample_rows.specs.Totals.{total}
use Rattle.sample_rows.specs.declared.totals.Measure.TheVariants as measure
use Rattle.sample_rows.proofs.Reading.{all_are_kept, all_columns, part, some_columns}
use Rattle.sample_rows.proofs.read.read_kept.Goals as goal

pub returns-clause-totals : goal.returns-clause-totals
returns-clause-totals c = λ table rows.
    let n = c.args.block.now.number_of_rows in
    let bytes = c.args.block.now.bytes in
    let keeps : List Bool = true ∷ false ∷ false ∷ true ∷ [] in
    let given : Rows n c.args.fields.now keeps bytes table = subst (λ (fs : List AvroField). Rows n fs keeps bytes table) (sym c.requires.fields) (rows) in
    let read = c.in_ok-chunk.ensures.columns table given ∙ (λ i. columns (length (kept (c.requires.fields i) keeps)) table) ∙ some_columns table in
    let arrays = ap (map array_slots) c.arrays.ensures.arrays ∙ read in
    (c.in_ok-total.ensures.sum ∙ ap (total measure.Number) (part c.arrays.result.now _ 0 c.ids-item.result arrays (omega (arith, c.in-len2.len_at_least)) c.ids-item.is), c.in_ok-total-2.ensures.sum ∙ ap (total measure.Trues) (part c.arrays.result.now _ 1 c.oks-item.result arrays (omega (arith, c.in-len2.len_at_least)) c.oks-item.is))
