use Rattle.std.proofs.Common.{◌≡◌, ◌++◌, drop, map, All}
use Rattle.arrow_array.specs.Arrays.{array_type, array_slots, dictionaries_of}
use Rattle.arrow_builders.specs.Fits.{ChildrenFit}
use Rattle.arrow_builders.specs.MutableArrays.{builder_type, builder_slots, builder_dictionaries, nodes}
use Rattle.arrow_flat.specs.Nodes.{IsEmpty}
use Rattle.arrow_builders.specs.Shapes.{shape}
use Rattle.arrow_builders.specs.declared.array.MutableArray.{MutableArray}
use Rattle.arrow_builders.proofs.Upto.{Upto}
use Rattle.arrow_builders.proofs.+boxes.Given as goal

-- a child that was asked for its array
pub record Asked (c d : MutableArray) : Type 0 where
  pub same_shape : shape d ≡ shape c

-- and that gave it
pub record Boxed (c d : MutableArray) : Type 0 where
  pub asked : Asked c d
  pub emptied : All IsEmpty (nodes d)
  pub fits : ChildrenFit c

abbrev pub invariant-structs::box_all-loop-i : goal.invariant-structs::box_all-loop-i
invariant-structs::box_all-loop-i l = record {
  kept : goal.unvisited-structs::box_all-loop-i l;
  each : Upto Boxed l.i l.fn.children l.children;
  told_types : map array_type l.arrays.items ++ map builder_type (drop l.i l.fn.children) ≡ map builder_type l.fn.children;
  told_slots : map array_slots l.arrays.items ++ map builder_slots (drop l.i l.fn.children) ≡ map builder_slots l.fn.children;
  told_dictionaries : map dictionaries_of l.arrays.items ++ map builder_dictionaries (drop l.i l.fn.children) ≡ map builder_dictionaries l.fn.children;
}
