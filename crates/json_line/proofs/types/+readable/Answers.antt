-- The type of lists is tested by that of its items, and a struct's by its fields'.
use Rattle.std.proofs.Common.{ap, sym, ◌∙◌}
use Rattle.arrow_core.specs.declared.types.DataType.TheVariants as types
use Rattle.arrow_core.specs.declared.types.Field.{Field}
use Rattle.json_line.specs.Lines.{are_sized_items}
use Rattle.json_line.specs.Types.{has_line_reading}
use Rattle.json_flat.proofs.DistinctNames.{same_answer}
use Rattle.json_line.proofs.Shapes.{list_readable, large_list_readable, sized_readable, struct_readable}
use Rattle.json_line.proofs.types.+readable.Goals as goal

pub has_line_reading-returns-in-Struct-clause-ok : goal.has_line_reading-returns-in-Struct-clause-ok
has_line_reading-returns-in-Struct-clause-ok t c = same_answer c.are_struct_fields.result (sym (ap has_line_reading (c.in-Struct.is ∙ ap types.Struct (sym c.as_slice.ensures)) ∙ struct_readable c.as_slice.result.now)) c.are_struct_fields.ensures.ok

pub has_line_reading-returns-in-List-clause-ok : goal.has_line_reading-returns-in-List-clause-ok
has_line_reading-returns-in-List-clause-ok t c = same_answer c.has_line_reading.result (ap (λ (f : Field). has_line_reading f.data_type) c.get.ensures ∙ sym (ap has_line_reading c.in-List.is ∙ list_readable c.in-List.item)) c.has_line_reading.ensures.ok

pub has_line_reading-returns-in-LargeList-clause-ok : goal.has_line_reading-returns-in-LargeList-clause-ok
has_line_reading-returns-in-LargeList-clause-ok t c = same_answer c.has_line_reading-in-LargeList.result (ap (λ (f : Field). has_line_reading f.data_type) c.get-in-LargeList.ensures ∙ sym (ap has_line_reading c.in-LargeList.is ∙ large_list_readable c.in-LargeList.item)) c.has_line_reading-in-LargeList.ensures.ok

pub has_line_reading-returns-in-FixedSizeList-clause-ok : goal.has_line_reading-returns-in-FixedSizeList-clause-ok
has_line_reading-returns-in-FixedSizeList-clause-ok t c = same_answer c.are_sized_items.result (ap (λ (f : Field). are_sized_items c.in-FixedSizeList.size f) c.get-in-FixedSizeList.ensures ∙ sym (ap has_line_reading c.in-FixedSizeList.is ∙ sized_readable c.in-FixedSizeList.item c.in-FixedSizeList.size)) c.are_sized_items.ensures.ok
