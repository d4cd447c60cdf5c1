use Rattle.std.proofs.Common.{◌≡◌, ℕ, All}
use Rattle.std.specs.List.{AllZip}
use Rattle.arrow_builders.specs.MutableArrays.{nodes, slots_at}
use Rattle.arrow_flat.specs.Nodes.{NoLessSpare, HasSpare}
use Rattle.arrow_builders.specs.Shapes.{shape}
use Rattle.arrow_builders.specs.declared.array.MutableArray.{MutableArray}
use Rattle.arrow_builders.proofs.Upto.{Upto}
use Rattle.arrow_builders.proofs.+reserves.Given as goal

-- a child that capacity was asked for
pub record Asked (c d : MutableArray) : Type 0 where
  pub same_shape : shape d ≡ shape c
  pub at_nodes : slots_at d ≡ slots_at c
  pub capacity : AllZip NoLessSpare (nodes c) (nodes d)

-- and that got it
pub record Reserved (n : ℕ) (c d : MutableArray) : Type 0 where
  pub asked : Asked c d
  pub has_capacity : All (HasSpare n) (nodes d)

abbrev pub invariant-structs::reserve_all-loop-i : goal.invariant-structs::reserve_all-loop-i
invariant-structs::reserve_all-loop-i l = record {
  kept : goal.unvisited-structs::reserve_all-loop-i l;
  each : Upto (Reserved l.additional) l.i l.fn.children l.children;
}
