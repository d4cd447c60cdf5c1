-- What has been added of items or members, that what stood before stays, and how deep the types beneath are.
use Rattle.std.proofs.Common.{◌≡◌, ◌+◌, ◌-◌, ◌*◌, ◌++◌, map, take, drop}
use Rattle.std.specs.Io.{StartsWith}
use Rattle.arrow_core.specs.declared.types.DataType.{size-DataType}
use Rattle.arrow_array.specs.Arrays.{array_type}
use Rattle.arrow_array.specs.Depths.{children_depth}
use Rattle.json_text.specs.Columns.{AreColumns, columns_text}
use Rattle.json_text.specs.JsonText.{text, joined}
use Rattle.json_text.proofs.slots.+slots.Given as goal

abbrev pub invariant-push_lists-loop-k : goal.invariant-push_lists-loop-k
invariant-push_lists-loop-k l = record {
  text : l.out.items ≡ l.fn.out.items ++ joined (take l.k (map (text l.array.data_type) (take (l.end - l.start) (drop l.start l.array.slots))));
  kept : StartsWith l.out.items l.fn.out.items;
}

abbrev pub invariant-push_large_lists-loop-k : goal.invariant-push_large_lists-loop-k
invariant-push_large_lists-loop-k l = record {
  text : l.out.items ≡ l.fn.out.items ++ joined (take l.k (map (text l.array.data_type) (take (l.end - l.start) (drop l.start l.array.slots))));
  kept : StartsWith l.out.items l.fn.out.items;
}

abbrev pub invariant-push_fixed_size_lists-loop-k : goal.invariant-push_fixed_size_lists-loop-k
invariant-push_fixed_size_lists-loop-k l = record {
  text : l.out.items ≡ l.fn.out.items ++ joined (take l.k (map (text l.array.data_type) (take (l.end - l.start) (drop l.start l.array.slots))));
  kept : StartsWith l.out.items l.fn.out.items;
}

abbrev pub invariant-push_dictionaries-loop-k : goal.invariant-push_dictionaries-loop-k
invariant-push_dictionaries-loop-k l = record {
  text : l.out.items ≡ l.fn.out.items ++ joined (take l.k (map (text l.array.data_type) (take (l.end - l.start) (drop l.start l.array.slots))));
  kept : StartsWith l.out.items l.fn.out.items;
}

abbrev pub invariant-push_structs-loop-k : goal.invariant-push_structs-loop-k
invariant-push_structs-loop-k l = record {
  text : l.out.items ≡ l.fn.out.items ++ joined (take l.k (map (text l.array.data_type) (take (l.end - l.start) (drop l.start l.array.slots))));
  kept : StartsWith l.out.items l.fn.out.items;
}

abbrev pub invariant-push_object-loop-array : goal.invariant-push_object-loop-array
invariant-push_object-loop-array l = record {
  columns : AreColumns (drop l.array-index l.arrays) l.rest;
  text : l.out.items ++ columns_text (drop l.array-index l.arrays) l.rest l.i ≡ l.fn.out.items ++ columns_text l.arrays l.columns l.i;
  kept : StartsWith l.out.items l.fn.out.items;
}

abbrev pub decreases-push_value : goal.decreases-push_value
decreases-push_value l = 5 * size-DataType (array_type l.array.now) + 3

abbrev pub decreases-push_list : goal.decreases-push_list
decreases-push_list l = 5 * size-DataType l.array.now.data_type + 2

abbrev pub decreases-push_large_list : goal.decreases-push_large_list
decreases-push_large_list l = 5 * size-DataType l.array.now.data_type + 2

abbrev pub decreases-push_fixed_size_list : goal.decreases-push_fixed_size_list
decreases-push_fixed_size_list l = 5 * size-DataType l.array.now.data_type + 2

abbrev pub decreases-push_dictionary : goal.decreases-push_dictionary
decreases-push_dictionary l = 5 * size-DataType l.array.now.data_type + 2

abbrev pub decreases-push_struct : goal.decreases-push_struct
decreases-push_struct l = 5 * size-DataType l.array.now.data_type + 2

abbrev pub decreases-push_part : goal.decreases-push_part
decreases-push_part l = 5 * size-DataType (array_type l.part.now.array.now) + 6

abbrev pub decreases-push_items : goal.decreases-push_items
decreases-push_items l = 5 * size-DataType (array_type l.array.now) + 5

abbrev pub decreases-push_lists : goal.decreases-push_lists
decreases-push_lists l = 5 * size-DataType l.array.now.data_type + 3

abbrev pub decreases-push_large_lists : goal.decreases-push_large_lists
decreases-push_large_lists l = 5 * size-DataType l.array.now.data_type + 3

abbrev pub decreases-push_fixed_size_lists : goal.decreases-push_fixed_size_lists
decreases-push_fixed_size_lists l = 5 * size-DataType l.array.now.data_type + 3

abbrev pub decreases-push_dictionaries : goal.decreases-push_dictionaries
decreases-push_dictionaries l = 5 * size-DataType l.array.now.data_type + 3

abbrev pub decreases-push_structs : goal.decreases-push_structs
decreases-push_structs l = 5 * size-DataType l.array.now.data_type + 3

abbrev pub decreases-push_object : goal.decreases-push_object
decreases-push_object l = 5 * children_depth l.arrays.now
