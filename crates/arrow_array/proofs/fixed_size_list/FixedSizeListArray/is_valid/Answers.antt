use Rattle.std.proofs.Common.{arith, ◌∙◌}
use Rattle.arrow_array.specs.Arrays.{array_slots}
use Rattle.arrow_array.proofs.FixedLists.{count_fixed, valid_fixed}
use Rattle.arrow_array.proofs.Windows.{nested_slots_are}
use Rattle.arrow_array.proofs.fixed_size_list.FixedSizeListArray.is_valid.Goals as goal

pub is_valid-requires-clause-fits : goal.is_valid-requires-clause-fits
is_valid-requires-clause-fits c = rw c.self.invariant.count_is c.self.invariant.fits.validity_fits

pub is_valid-requires-clause-within : goal.is_valid-requires-clause-within
is_valid-requires-clause-within c = omega (arith, c.requires, count_fixed (array_slots c.self.inside.values) c.self.invariant (nested_slots_are c.self.view_is))

pub returns : goal.returns
returns c = c.is_valid.ensures ∙ valid_fixed (array_slots c.self.inside.values) c.self.invariant (nested_slots_are c.self.view_is) c.args.i c.requires
