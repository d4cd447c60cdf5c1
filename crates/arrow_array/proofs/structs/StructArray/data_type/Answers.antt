use Rattle.std.proofs.Common.{subst}
use Rattle.arrow_array.specs.Kinds.{IsStructType}
use Rattle.arrow_array.proofs.DataTypes.{struct_type}
use Rattle.arrow_array.proofs.Windows.{nested_types_are}
use Rattle.arrow_array.proofs.structs.StructArray.data_type.Goals as goal

pub returns-clause-kind : goal.returns-clause-kind
returns-clause-kind c = subst IsStructType (nested_types_are c.self.view_is) (struct_type _ _ _ _ c.self.invariant)
