use Rattle.arrow_array.proofs.Records.{struct_kind}
use Rattle.arrow_array.proofs.structs.is_struct_type.Goals as goal

pub returns-in-Struct : goal.returns-in-Struct
returns-in-Struct c = struct_kind _ _ _ c.in-Struct.fields _ _ c.in-Struct.is c.as_slice.ensures c.are_children.ensures
