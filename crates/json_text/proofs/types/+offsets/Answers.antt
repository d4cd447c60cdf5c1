-- The type of a list is tested by that of its items, and a struct's by its fields'.
use Rattle.std.proofs.Common.{ap, sym, ◌∙◌}
use Rattle.arrow_core.specs.declared.types.DataType.TheVariants as types
use Rattle.arrow_core.specs.declared.types.Field.{Field}
use Rattle.json_text.specs.Refusals.{has_offsets}
use Rattle.json_text.proofs.Beneath.{list_offsets, large_list_offsets, fixed_type_offsets, struct_offsets}
use Rattle.json_text.proofs.types.+offsets.Goals as goal

pub has_offsets-returns-in-Struct : goal.has_offsets-returns-in-Struct
has_offsets-returns-in-Struct t c = c.have_offsets.ensures ∙ sym (ap has_offsets (c.in-Struct.is ∙ ap types.Struct (sym c.as_slice.ensures)) ∙ struct_offsets c.as_slice.result.now)

pub has_offsets-returns-in-List : goal.has_offsets-returns-in-List
has_offsets-returns-in-List t c = c.has_offsets.ensures ∙ ap (λ (f : Field). has_offsets f.data_type) c.get.ensures ∙ sym (ap has_offsets c.in-List.is ∙ list_offsets c.in-List.field)

pub has_offsets-returns-in-LargeList : goal.has_offsets-returns-in-LargeList
has_offsets-returns-in-LargeList t c = c.has_offsets-in-LargeList.ensures ∙ ap (λ (f : Field). has_offsets f.data_type) c.get-in-LargeList.ensures ∙ sym (ap has_offsets c.in-LargeList.is ∙ large_list_offsets c.in-LargeList.field)

pub has_offsets-returns-in-FixedSizeList : goal.has_offsets-returns-in-FixedSizeList
has_offsets-returns-in-FixedSizeList t c = c.has_offsets-in-FixedSizeList.ensures ∙ ap (λ (f : Field). has_offsets f.data_type) c.get-in-FixedSizeList.ensures ∙ sym (fixed_type_offsets _ _ _ c.in-FixedSizeList.is)
