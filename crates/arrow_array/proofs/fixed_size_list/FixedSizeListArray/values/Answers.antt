use Rattle.arrow_array.specs.Arrays.{array_slots}
use Rattle.arrow_array.proofs.FixedLists.{child_count, read_fixed}
use Rattle.arrow_array.proofs.Windows.{nested_slots_are, nested_types_are}
use Rattle.arrow_array.proofs.fixed_size_list.FixedSizeListArray.values.Goals as goal

pub returns-clause-data_type : goal.returns-clause-data_type
returns-clause-data_type c = rw (c.get.ensures, ← nested_types_are c.self.view_is) c.self.invariant.fits.kind

pub returns-clause-count : goal.returns-clause-count
returns-clause-count c = rw (c.get.ensures, ← nested_types_are c.self.view_is) (child_count (array_slots c.self.inside.values) c.self.invariant (nested_slots_are c.self.view_is))

pub returns-clause-slots : goal.returns-clause-slots
returns-clause-slots c = rw (c.get.ensures, ← nested_types_are c.self.view_is) (read_fixed (array_slots c.self.inside.values) c.self.invariant (nested_slots_are c.self.view_is))
