-- The type of a list is tested by that of its items, and a struct's by its fields'.
use Rattle.std.proofs.Common.{ap, sym, ◌∙◌}
use Rattle.arrow_core.specs.declared.types.DataType.TheVariants as types
use Rattle.arrow_core.specs.declared.types.Field.{Field}
use Rattle.json_columns.specs.Gathered.{sized_list_has_reading}
use Rattle.json_flat.specs.Reading.{has_reading, is_value_type}
use Rattle.json_columns.proofs.ByFields.{list_readable, large_list_readable, sized_readable, struct_readable, dictionary_readable}
use Rattle.json_columns.proofs.types.+readable.Goals as goal

pub has_json_reading-returns-in-Struct : goal.has_json_reading-returns-in-Struct
has_json_reading-returns-in-Struct t c = c.struct_has_reading.ensures ∙ sym (ap has_reading (c.in-Struct.is ∙ ap types.Struct (sym c.as_slice.ensures)) ∙ struct_readable c.as_slice.result.now)

pub has_json_reading-returns-in-List : goal.has_json_reading-returns-in-List
has_json_reading-returns-in-List t c = c.has_json_reading.ensures ∙ ap (λ (f : Field). has_reading f.data_type) c.get.ensures ∙ sym (ap has_reading c.in-List.is ∙ list_readable c.in-List.item)

pub has_json_reading-returns-in-LargeList : goal.has_json_reading-returns-in-LargeList
has_json_reading-returns-in-LargeList t c = c.has_json_reading-in-LargeList.ensures ∙ ap (λ (f : Field). has_reading f.data_type) c.get-in-LargeList.ensures ∙ sym (ap has_reading c.in-LargeList.is ∙ large_list_readable c.in-LargeList.item)

pub has_json_reading-returns-in-Dictionary : goal.has_json_reading-returns-in-Dictionary
has_json_reading-returns-in-Dictionary t c =
    c.is_value_type.ensures ∙ ap is_value_type c.get-in-Dictionary.ensures ∙ sym (ap has_reading c.in-Dictionary.is ∙ dictionary_readable c.in-Dictionary.field-0 c.in-Dictionary.value c.in-Dictionary.field-2)

pub has_json_reading-returns-in-FixedSizeList : goal.has_json_reading-returns-in-FixedSizeList
has_json_reading-returns-in-FixedSizeList t c =
    c.sized_list_has_reading.ensures ∙ ap (λ (f : Field). sized_list_has_reading c.in-FixedSizeList.size f) c.get-in-FixedSizeList.ensures
    ∙ sym (ap has_reading c.in-FixedSizeList.is ∙ sized_readable c.in-FixedSizeList.item c.in-FixedSizeList.size)
