use Rattle.arrow_array.proofs.DataTypes.{fixed_binary_type}
use Rattle.arrow_array.proofs.Fits.{fixed}
use Rattle.arrow_array.proofs.Typed.{fixed_typed}
use Rattle.arrow_array.proofs.Windows.{slots_are, types_are}
use Rattle.arrow_array.proofs.fixed_size_binary.FixedSizeBinaryArray.slots_are_typed.Goals as goal

pub returns : goal.returns
returns c =
    let kind = fixed_binary_type c.self.inside.data_type c.self.invariant.0.kind in
    rw (← types_are c.self.view_is) (fixed_typed _ _ kind.0 _ (fixed c.self.inside.values c.self.invariant.0) (slots_are c.self.view_is))
