use Rattle.std.proofs.Common.{ap, sym, ◌∙◌}
use Rattle.arrow_core.specs.declared.types.DataType.TheVariants as types
use Rattle.arrow_core.specs.declared.types.Field.{Field}
use Rattle.ndjson_avro.specs.Nulls.{holds_null}
use Rattle.ndjson_avro.proofs.NullTypes.{list_nulls, large_list_nulls, struct_nulls}
use Rattle.ndjson_avro.proofs.nulls.+nulls.Goals as goal

pub holds_null-returns-in-Struct : goal.holds_null-returns-in-Struct
holds_null-returns-in-Struct t c = c.any_holds_null.ensures ∙ sym (ap holds_null (c.in-Struct.is ∙ ap types.Struct (sym c.as_slice.ensures)) ∙ struct_nulls c.as_slice.result.now)

pub holds_null-returns-in-List : goal.holds_null-returns-in-List
holds_null-returns-in-List t c = c.holds_null.ensures ∙ ap (λ (f : Field). holds_null f.data_type) c.get.ensures ∙ sym (ap holds_null c.in-List.is ∙ list_nulls c.in-List.item)

pub holds_null-returns-in-LargeList : goal.holds_null-returns-in-LargeList
holds_null-returns-in-LargeList t c = c.holds_null-in-LargeList.ensures ∙ ap (λ (f : Field). holds_null f.data_type) c.get-in-LargeList.ensures ∙ sym (ap holds_null c.in-LargeList.is ∙ large_list_nulls c.in-LargeList.item)
