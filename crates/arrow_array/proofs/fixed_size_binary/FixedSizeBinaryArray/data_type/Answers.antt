use Rattle.std.proofs.Common.{subst}
use Rattle.arrow_array.specs.Kinds.{IsFixedBinaryType}
use Rattle.arrow_array.proofs.DataTypes.{fixed_binary_type}
use Rattle.arrow_array.proofs.Windows.{types_are}
use Rattle.arrow_array.proofs.fixed_size_binary.FixedSizeBinaryArray.data_type.Goals as goal

pub returns-clause-kind : goal.returns-clause-kind
returns-clause-kind c = subst IsFixedBinaryType (types_are c.self.view_is) (fixed_binary_type _ c.self.invariant.0.kind)
