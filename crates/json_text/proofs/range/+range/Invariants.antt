-- The slots before this one are in range, and of each struct the fields before this one; and how deep the types beneath are.
use Rattle.std.proofs.Common.{◌≡◌, ℕ, ◌+◌, ◌-◌, ◌*◌, ◌<◌, ◌≤◌, map, take, drop, true}
use Rattle.std.specs.List.{list_all}
use Rattle.arrow_core.specs.declared.types.DataType.{size-DataType}
use Rattle.arrow_array.specs.Arrays.{array_type, array_slots}
use Rattle.arrow_array.specs.Depths.{children_depth}
use Rattle.arrow_array.specs.Slots.{slot_at}
use Rattle.json_text.specs.Refusals.{in_range, all_in_range}
use Rattle.json_text.proofs.range.+range.Given as goal

abbrev pub invariant-slots_in_range-loop-k : goal.invariant-slots_in_range-loop-k
invariant-slots_in_range-loop-k l = list_all (in_range (array_type l.array)) (take l.k (take (l.end - l.start) (drop l.start (array_slots l.array)))) ≡ true

abbrev pub invariant-children_in_range-loop-child : goal.invariant-children_in_range-loop-child
invariant-children_in_range-loop-child l = (i : ℕ) → l.start ≤ i → i < l.end
    → all_in_range (take l.child-index l.fields) (take l.child-index (map (λ slots. slot_at slots i) (map array_slots l.children))) ≡ true

abbrev pub decreases-dates_in_range : goal.decreases-dates_in_range
decreases-dates_in_range l = 5 * size-DataType (array_type l.array.now) + 4

abbrev pub decreases-run_in_range : goal.decreases-run_in_range
decreases-run_in_range l = 5 * size-DataType (array_type l.array.now) + 3

abbrev pub decreases-slots_in_range : goal.decreases-slots_in_range
decreases-slots_in_range l = 5 * size-DataType (array_type l.array.now) + 2

abbrev pub decreases-in_range : goal.decreases-in_range
decreases-in_range l = 5 * size-DataType (array_type l.array.now) + 1

abbrev pub decreases-children_in_range : goal.decreases-children_in_range
decreases-children_in_range l = 5 * children_depth l.children.now
