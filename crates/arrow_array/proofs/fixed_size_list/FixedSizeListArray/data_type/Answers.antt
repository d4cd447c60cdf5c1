use Rattle.std.proofs.Common.{subst}
use Rattle.arrow_array.specs.Kinds.{IsFixedListType}
use Rattle.arrow_array.proofs.DataTypes.{fixed_list_type}
use Rattle.arrow_array.proofs.Windows.{nested_types_are}
use Rattle.arrow_array.proofs.fixed_size_list.FixedSizeListArray.data_type.Goals as goal

pub returns-clause-kind : goal.returns-clause-kind
returns-clause-kind c = subst IsFixedListType (nested_types_are c.self.view_is) (fixed_list_type _ _ _ _ c.self.invariant.fits)
