use Rattle.std.proofs.Common.{◌≡◌, ◌≤◌, ◌+◌, ◌*◌, map}
use Rattle.arrow_builders.specs.Children.{fields_of}
use Rattle.arrow_builders.specs.MutableArrays.{nodes, slots_at}
use Rattle.arrow_builders.specs.Shapes.{AllTake, AllGetNulls, AllGetBytes, nulls_in, shape}
use Rattle.arrow_builders.specs.declared.array.MutableArray.{MutableArray, FixedSizeList, Struct}
use Rattle.arrow_builders.proofs.Upto.{Upto}
use Rattle.arrow_builders.proofs.Weights.{weight}
use Rattle.arrow_builders.proofs.+nulls.Given as goal

-- a child that was asked to take a null
pub record Asked (c d : MutableArray) : Type 0 where
  pub same_shape : shape d ≡ shape c
  pub takes : AllTake (nulls_in 1 (shape c)) (nodes c) (nodes d)

-- and that took it
pub record Nulled (c d : MutableArray) : Type 0 where
  pub asked : Asked c d
  pub below : AllGetNulls (nulls_in 1 (shape c)) (slots_at c) (slots_at d)
  pub bytes : AllGetBytes (nulls_in 1 (shape c)) (nodes c) (nodes d)

abbrev pub invariant-structs::push_null_all-loop-i : goal.invariant-structs::push_null_all-loop-i
invariant-structs::push_null_all-loop-i l = record {
  kept : goal.unvisited-structs::push_null_all-loop-i l;
  each : Upto Nulled l.i l.fn.children l.children;
}

abbrev pub invariant-fixed_size_list::push_nulls-loop :
    goal.invariant-fixed_size_list::push_nulls-loop
invariant-fixed_size_list::push_nulls-loop l = record {
  within : l.counter ≤ l.fn.count;
  same_shape : shape l.builder ≡ shape l.fn.builder;
  below : AllGetNulls (nulls_in l.counter (shape l.fn.builder)) (slots_at l.fn.builder) (slots_at l.builder);
  bytes : AllGetBytes (nulls_in l.counter (shape l.fn.builder)) (nodes l.fn.builder) (nodes l.builder);
  takes : AllTake (nulls_in l.counter (shape l.fn.builder)) (nodes l.fn.builder) (nodes l.builder);
}

-- nulls go down to a child's children, which are fewer
abbrev pub decreases-array::MutableArray::append_null : goal.decreases-array::MutableArray::append_null
decreases-array::MutableArray::append_null l = 2 * weight (shape l.self.now) + 1

abbrev pub decreases-fixed_size_list::MutableFixedSizeListArray::push_null : goal.decreases-fixed_size_list::MutableFixedSizeListArray::push_null
decreases-fixed_size_list::MutableFixedSizeListArray::push_null l = 2 * weight (shape (FixedSizeList l.self.now))

abbrev pub decreases-fixed_size_list::push_nulls : goal.decreases-fixed_size_list::push_nulls
decreases-fixed_size_list::push_nulls l = 2 * weight (shape l.builder.now) + 2

abbrev pub decreases-structs::DynMutableStructArray::push_null : goal.decreases-structs::DynMutableStructArray::push_null
decreases-structs::DynMutableStructArray::push_null l = 2 * weight (shape (Struct l.self.now))

abbrev pub decreases-structs::push_null_all : goal.decreases-structs::push_null_all
decreases-structs::push_null_all l = 2 * weight (fields_of (map shape l.children.now)) + 1
