-- What has been appended of a list's items and of a struct's slots, and how deep the types beneath are.
use Rattle.std.proofs.Common.{◌≡◌, ◌+◌, ◌*◌, ◌++◌, pos, take, flat_map}
use Rattle.arrow_core.specs.declared.types.DataType.{size-DataType}
use Rattle.arrow_array.specs.Arrays.{array_type}
use Rattle.arrow_array.specs.Depths.{children_depth}
use Rattle.arrow_array.specs.Lent.{part_slots}
use Rattle.avro_container.specs.Shortest.{shortest}
use Rattle.avro_encode.specs.Listed.{plain_fields_of, slots_across}
use Rattle.avro_encode.specs.Plain.{plain}
use Rattle.avro_encode.proofs.append.+append.Given as goal

abbrev pub decreases-append_slot : goal.decreases-append_slot
decreases-append_slot l = 6 * size-DataType (array_type l.array.now) + 5

abbrev pub decreases-append_member : goal.decreases-append_member
decreases-append_member l = 6 * size-DataType (array_type l.array.now) + 4

abbrev pub decreases-append_value_after : goal.decreases-append_value_after
decreases-append_value_after l = 6 * size-DataType (array_type l.array.now) + 3

abbrev pub decreases-append_value : goal.decreases-append_value
decreases-append_value l = 6 * size-DataType (array_type l.array.now) + 2

abbrev pub decreases-append_list : goal.decreases-append_list
decreases-append_list l = 6 * size-DataType (array_type l.array.now) + 1

abbrev pub decreases-append_struct : goal.decreases-append_struct
decreases-append_struct l = 6 * size-DataType (array_type l.array.now) + 1

abbrev pub decreases-append_items : goal.decreases-append_items
decreases-append_items l = 6 * size-DataType (array_type l.part.now.array.now) + 6

abbrev pub decreases-append_fields : goal.decreases-append_fields
decreases-append_fields l = 6 * children_depth l.children.now

abbrev pub invariant-append_items-loop-k : goal.invariant-append_items-loop-k
invariant-append_items-loop-k l =
    l.out.items ≡ l.fn.out.items ++ (shortest (pos l.count) ++ flat_map (plain l.item) (take l.k (part_slots l.part)))

abbrev pub invariant-append_fields-loop-k : goal.invariant-append_fields-loop-k
invariant-append_fields-loop-k l =
    l.out.items ≡ l.fn.out.items ++ plain_fields_of (take l.k l.fields) (take l.k (slots_across l.children l.i))
