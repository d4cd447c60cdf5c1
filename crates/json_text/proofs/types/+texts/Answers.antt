-- The type of a list is tested by that of its items, and a struct's by its fields'.
use Rattle.std.proofs.Common.{ap, sym, ◌∙◌}
use Rattle.arrow_core.specs.declared.types.DataType.TheVariants as types
use Rattle.arrow_core.specs.declared.types.Field.{Field}
use Rattle.json_text.specs.Refusals.{has_text, is_string_type}
use Rattle.json_text.proofs.Beneath.{list_text, large_list_text, fixed_type_text, struct_text, dictionary_type_text}
use Rattle.json_text.proofs.types.+texts.Goals as goal

pub has_text-returns-in-Struct : goal.has_text-returns-in-Struct
has_text-returns-in-Struct t c = c.have_texts.ensures ∙ sym (ap has_text (c.in-Struct.is ∙ ap types.Struct (sym c.as_slice.ensures)) ∙ struct_text c.as_slice.result.now)

pub has_text-returns-in-List : goal.has_text-returns-in-List
has_text-returns-in-List t c = c.has_text.ensures ∙ ap (λ (f : Field). has_text f.data_type) c.get.ensures ∙ sym (ap has_text c.in-List.is ∙ list_text c.in-List.field)

pub has_text-returns-in-LargeList : goal.has_text-returns-in-LargeList
has_text-returns-in-LargeList t c = c.has_text-in-LargeList.ensures ∙ ap (λ (f : Field). has_text f.data_type) c.get-in-LargeList.ensures ∙ sym (ap has_text c.in-LargeList.is ∙ large_list_text c.in-LargeList.field)

pub has_text-returns-in-FixedSizeList : goal.has_text-returns-in-FixedSizeList
has_text-returns-in-FixedSizeList t c = c.has_text-in-FixedSizeList.ensures ∙ ap (λ (f : Field). has_text f.data_type) c.get-in-FixedSizeList.ensures ∙ sym (fixed_type_text _ _ _ c.in-FixedSizeList.is)

pub has_text-returns-in-Dictionary : goal.has_text-returns-in-Dictionary
has_text-returns-in-Dictionary t c = c.is_string_type.ensures ∙ ap is_string_type c.get-in-Dictionary.ensures ∙ sym (dictionary_type_text _ _ _ _ c.in-Dictionary.is)
