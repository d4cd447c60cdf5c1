use Rattle.std.proofs.Common.{arith, ap, length, ◌∙◌, ◌≡◌, ◌+◌, ◌-◌, ◌*◌}
use Rattle.arrow_array.specs.Arrays.{array_slots}
use Rattle.arrow_array.specs.Columns.{NestedColumn}
use Rattle.arrow_array.specs.FixedLists.{list_size}
use Rattle.arrow_array.proofs.Cuts.{length_cut, slot_within}
use Rattle.arrow_array.proofs.FixedLists.{count_fixed, read_fixed, fixed_part}
use Rattle.arrow_array.proofs.Windows.{nested_slots_are, nested_types_are}
use Rattle.arrow_array.proofs.fixed_size_list.FixedSizeListArray.value.Goals as goal

pub overflow_mul-start : goal.overflow_mul-start
overflow_mul-start c =
    let n = count_fixed (array_slots c.self.inside.values) c.self.invariant (nested_slots_are c.self.view_is) in
    let b = slot_within c.args.i (list_size c.self.inside.data_type) (length (array_slots c.self.inside.values)) (omega (arith, n, c.requires, c.self.invariant.count_is)) in
    rw c.self.invariant.size_is (omega (arith, b, c.self.invariant.bounded))

pub overflow_add-end : goal.overflow_add-end
overflow_add-end c =
    let n = count_fixed (array_slots c.self.inside.values) c.self.invariant (nested_slots_are c.self.view_is) in
    let b = slot_within c.args.i (list_size c.self.inside.data_type) (length (array_slots c.self.inside.values)) (omega (arith, n, c.requires, c.self.invariant.count_is)) in
    rw c.self.invariant.size_is (omega (arith, b, c.self.invariant.bounded))

pub returns-clause-data_type : goal.returns-clause-data_type
returns-clause-data_type c = rw (c.get-array.ensures, ← ap (λ (a : NestedColumn). a.data_type) c.self.view_is) c.self.invariant.fits.kind

pub returns-clause-part : goal.returns-clause-part
returns-clause-part c =
    let n = count_fixed (array_slots c.self.inside.values) c.self.invariant (nested_slots_are c.self.view_is) in
    let b = slot_within c.args.i (list_size c.self.inside.data_type) (length (array_slots c.self.inside.values)) (omega (arith, n, c.requires, c.self.invariant.count_is)) in
    record { order = omega arith; within = rw (c.get-array.ensures, c.self.invariant.size_is) b }

pub returns-clause-size : goal.returns-clause-size
returns-clause-size c =
    let n = count_fixed (array_slots c.self.inside.values) c.self.invariant (nested_slots_are c.self.view_is) in
    let size = list_size c.self.inside.data_type in
    let b = slot_within c.args.i size (length (array_slots c.self.inside.values)) (omega (arith, n, c.requires, c.self.invariant.count_is)) in
    let e : c.args.i * size + size - c.args.i * size ≡ size = omega arith in
    rw (c.get-array.ensures, c.self.invariant.size_is, e, ← nested_types_are c.self.view_is) (length_cut (c.args.i * size) size (array_slots c.self.inside.values) b)

pub returns-clause-slot : goal.returns-clause-slot
returns-clause-slot c = λ h.
    rw (c.get-array.ensures, c.self.invariant.size_is)
    (read_fixed (array_slots c.self.inside.values) c.self.invariant (nested_slots_are c.self.view_is) c.args.i c.requires h ∙ fixed_part (list_size c.self.inside.data_type) c.args.i (array_slots c.self.inside.values))
