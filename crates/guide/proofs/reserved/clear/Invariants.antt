use Rattle.std.proofs.Common.{◌≡◌, ℕ, zero, suc, List, [], ◌∷◌, map}
use Rattle.arrow_builders.specs.declared.array.MutableArray.{MutableArray}
use Rattle.arrow_builders.specs.Nodes.{Emptied}
use Rattle.arrow_builders.specs.Shapes.{shape}
use Rattle.arrow_builders.specs.Tight.{IsTight}
use Rattle.arrow_builders.specs.MutableArrays.{builder_type, nodes}
use Rattle.std.specs.List.{AllZip, AllWithin}
use Rattle.guide.proofs.reserved.clear.Given as goal

-- the first n builders are emptied, and the others as they were
abbrev pub EmptiedSoFar : ℕ → List MutableArray → List MutableArray → Type 0
EmptiedSoFar n [] [] = Unit {0}
EmptiedSoFar zero (b ∷ bs) (c ∷ cs) = (c ≡ b) × EmptiedSoFar zero bs cs
EmptiedSoFar (suc n) (b ∷ bs) (c ∷ cs) = AllZip Emptied (nodes b) (nodes c) × EmptiedSoFar n bs cs
EmptiedSoFar n _ _ = ⊥

abbrev pub invariant-loop-i : goal.invariant-loop-i
invariant-loop-i l = record {
  data_types : map builder_type l.builders ≡ map builder_type l.fn.builders;
  shapes : map shape l.builders ≡ map shape l.fn.builders;
  tight : AllWithin IsTight l.builders 0 l.i;
  capacity : EmptiedSoFar l.i l.fn.builders l.builders;
}
