-- What has been added of a list or a struct, and how deep the types beneath are.
use Rattle.std.proofs.Common.{◌≡◌, ◌+◌, ◌*◌, ◌++◌, map, take, drop, codes}
use Rattle.arrow_core.specs.declared.types.DataType.{size-DataType}
use Rattle.arrow_array.specs.Arrays.{array_type, array_slots}
use Rattle.arrow_array.specs.Depths.{children_depth}
use Rattle.arrow_array.specs.Slots.{slot_at}
use Rattle.arrow_columns.specs.Cells.{cell_depth}
use Rattle.avrocat_commands.specs.Shown.{slot_text, joined}
use Rattle.avrocat_commands.proofs.lines.Lines.+slots.Given as goal

abbrev pub invariant-push_list-loop-k : goal.invariant-push_list-loop-k
invariant-push_list-loop-k l = l.self.text.items ≡ (l.fn.self.text.items ++ codes "[") ++ joined (map slot_text (take l.k (drop l.part.start (array_slots l.part.array.now))))

abbrev pub invariant-push_struct-loop-k : goal.invariant-push_struct-loop-k
invariant-push_struct-loop-k l = l.self.text.items ≡ (l.fn.self.text.items ++ codes "{") ++ joined (map slot_text (take l.k (map (λ slots. slot_at slots l.i) (map array_slots l.children))))

abbrev pub decreases-push_slot : goal.decreases-push_slot
decreases-push_slot l = 4 * size-DataType (array_type l.column.now) + 2

abbrev pub decreases-push_cell : goal.decreases-push_cell
decreases-push_cell l = 4 * cell_depth l.cell.now + 1

abbrev pub decreases-push_list : goal.decreases-push_list
decreases-push_list l = 4 * size-DataType (array_type l.part.now.array.now) + 3

abbrev pub decreases-push_struct : goal.decreases-push_struct
decreases-push_struct l = 4 * children_depth l.children.now
