use Rattle.std.proofs.Common.{◌≡◌, ◌+◌, ◌*◌, take, drop, map}
use Rattle.arrow_core.specs.declared.types.DataType.{size-DataType}
use Rattle.arrow_array.specs.Arrays.{array_type, array_slots}
use Rattle.arrow_array.specs.Depths.{children_depth}
use Rattle.arrow_array.specs.Slots.{slot_at}
use Rattle.arrow_columns.specs.Cells.{cell_depth}
use Rattle.arrow_columns.proofs.equality.+same.Given as goal

abbrev pub invariant-same_parts-loop-k : goal.invariant-same_parts-loop-k
invariant-same_parts-loop-k l = take l.k (drop l.left.start (array_slots l.left.array.now)) ≡ take l.k (drop l.right.start (array_slots l.right.array.now))

abbrev pub invariant-same_structs-loop-k : goal.invariant-same_structs-loop-k
invariant-same_structs-loop-k l = take l.k (map (λ slots. slot_at slots l.i) (map array_slots l.left)) ≡ take l.k (map (λ slots. slot_at slots l.j) (map array_slots l.right))

abbrev pub decreases-same_cells : goal.decreases-same_cells
decreases-same_cells l = 4 * cell_depth l.left.now + 1

abbrev pub decreases-same_parts : goal.decreases-same_parts
decreases-same_parts l = 4 * size-DataType (array_type l.left.now.array.now) + 3

abbrev pub decreases-same_structs : goal.decreases-same_structs
decreases-same_structs l = 4 * children_depth l.left.now

abbrev pub decreases-same_slot : goal.decreases-same_slot
decreases-same_slot l = 4 * size-DataType (array_type l.left.now) + 2
