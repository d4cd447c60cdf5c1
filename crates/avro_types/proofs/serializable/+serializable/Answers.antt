-- The type of a list is tested by that of its items, and a struct's by its fields'.
use Rattle.std.proofs.Common.{ap, sym, ◌∙◌}
use Rattle.arrow_core.specs.declared.types.DataType.TheVariants as types
use Rattle.arrow_core.specs.declared.types.Field.{Field}
use Rattle.avro_types.specs.Schemas.{can_serialize}
use Rattle.avro_types.proofs.ByFields.{list_serializable, large_list_serializable, struct_serializable}
use Rattle.avro_types.proofs.serializable.+serializable.Goals as goal

pub can_serialize-returns-in-Struct : goal.can_serialize-returns-in-Struct
can_serialize-returns-in-Struct t c = c.can_serialize_struct.ensures ∙ sym (ap can_serialize (c.in-Struct.is ∙ ap types.Struct (sym c.as_slice.ensures)) ∙ struct_serializable c.as_slice.result.now)

pub can_serialize-returns-in-List : goal.can_serialize-returns-in-List
can_serialize-returns-in-List t c = c.can_serialize.ensures ∙ ap (λ (f : Field). can_serialize f.data_type) c.get.ensures ∙ sym (ap can_serialize c.in-List.is ∙ list_serializable c.in-List.item)

pub can_serialize-returns-in-LargeList : goal.can_serialize-returns-in-LargeList
can_serialize-returns-in-LargeList t c = c.can_serialize-in-LargeList.ensures ∙ ap (λ (f : Field). can_serialize f.data_type) c.get-in-LargeList.ensures ∙ sym (ap can_serialize c.in-LargeList.is ∙ large_list_serializable c.in-LargeList.item)
