-- The type of lists is tested by that of its items, and a struct's by its fields'.
use Rattle.std.proofs.Common.{ap, sym, ◌∙◌}
use Rattle.arrow_core.specs.declared.types.DataType.TheVariants as types
use Rattle.arrow_core.specs.declared.types.Field.{Field}
use Rattle.json_flat.specs.Names.{names_twice}
use Rattle.json_flat.proofs.DistinctNames.{same_answer}
use Rattle.json_columns.proofs.FieldNames.{list_names, large_list_names, fixed_list_names, map_names, struct_names, union_names, dictionary_names, extension_names}
use Rattle.json_columns.proofs.names.+names.Goals as goal

pub names_twice-returns-in-List-clause-ok : goal.names_twice-returns-in-List-clause-ok
names_twice-returns-in-List-clause-ok t c = same_answer c.names_twice.result (ap (λ (f : Field). names_twice f.data_type) c.get.ensures ∙ sym (ap names_twice c.in-List.is ∙ list_names c.in-List.item)) c.names_twice.ensures.ok

pub names_twice-returns-in-LargeList-clause-ok : goal.names_twice-returns-in-LargeList-clause-ok
names_twice-returns-in-LargeList-clause-ok t c = same_answer c.names_twice-in-LargeList.result (ap (λ (f : Field). names_twice f.data_type) c.get-in-LargeList.ensures ∙ sym (ap names_twice c.in-LargeList.is ∙ large_list_names c.in-LargeList.item)) c.names_twice-in-LargeList.ensures.ok

pub names_twice-returns-in-FixedSizeList-clause-ok : goal.names_twice-returns-in-FixedSizeList-clause-ok
names_twice-returns-in-FixedSizeList-clause-ok t c = same_answer c.names_twice-in-FixedSizeList.result (ap (λ (f : Field). names_twice f.data_type) c.get-in-FixedSizeList.ensures ∙ sym (ap names_twice c.in-FixedSizeList.is ∙ fixed_list_names c.in-FixedSizeList.item c.in-FixedSizeList.field-1)) c.names_twice-in-FixedSizeList.ensures.ok

pub names_twice-returns-in-Map-clause-ok : goal.names_twice-returns-in-Map-clause-ok
names_twice-returns-in-Map-clause-ok t c = same_answer c.names_twice-in-Map.result (ap (λ (f : Field). names_twice f.data_type) c.get-in-Map.ensures ∙ sym (ap names_twice c.in-Map.is ∙ map_names c.in-Map.entries c.in-Map.field-1)) c.names_twice-in-Map.ensures.ok

pub names_twice-returns-in-Struct-clause-ok : goal.names_twice-returns-in-Struct-clause-ok
names_twice-returns-in-Struct-clause-ok t c = same_answer c.struct_names_twice.result (sym (ap names_twice (c.in-Struct.is ∙ ap types.Struct (sym c.as_slice.ensures)) ∙ struct_names c.as_slice.result.now)) c.struct_names_twice.ensures.ok

pub names_twice-returns-in-Union-clause-ok : goal.names_twice-returns-in-Union-clause-ok
names_twice-returns-in-Union-clause-ok t c = same_answer c.any_names_twice.result (sym (ap names_twice (c.in-Union.is ∙ ap (λ fs. types.Union fs c.in-Union.field-1 c.in-Union.field-2) (sym c.as_slice-in-Union.ensures)) ∙ union_names c.as_slice-in-Union.result.now c.in-Union.field-1 c.in-Union.field-2)) c.any_names_twice.ensures.ok

pub names_twice-returns-in-Dictionary-clause-ok : goal.names_twice-returns-in-Dictionary-clause-ok
names_twice-returns-in-Dictionary-clause-ok t c = same_answer c.names_twice-in-Dictionary.result (ap names_twice c.get-in-Dictionary.ensures ∙ sym (ap names_twice c.in-Dictionary.is ∙ dictionary_names c.in-Dictionary.field-0 c.in-Dictionary.value c.in-Dictionary.field-2)) c.names_twice-in-Dictionary.ensures.ok

pub names_twice-returns-in-Extension-clause-ok : goal.names_twice-returns-in-Extension-clause-ok
names_twice-returns-in-Extension-clause-ok t c = same_answer c.names_twice-in-Extension.result (ap names_twice c.get-in-Extension.ensures ∙ sym (ap names_twice c.in-Extension.is ∙ extension_names c.in-Extension.field-0 c.in-Extension.inner c.in-Extension.field-2)) c.names_twice-in-Extension.ensures.ok
