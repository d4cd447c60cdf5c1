-- Builders that are cleared, and that give their arrays, one after another.
use Rattle.std.proofs.Common.{◌≡◌, ap, ℕ, zero, suc, ◌≤◌, List, [], ◌∷◌, length, All, arith}
use Rattle.std.proofs.lemmas.List.Elements.{All-cons, All-nil}
use Rattle.arrow_builders.specs.MutableArrays.{builder_slots}
use Rattle.arrow_builders.specs.Shapes.{shape}
use Rattle.arrow_builders.specs.Tight.{AllTight, IsTight}
use Rattle.arrow_builders.specs.declared.array.MutableArray.{MutableArray}
use Rattle.arrow_builders.proofs.Upto.{Upto}

-- a builder has no slot, and its shape is the same
pub record Cleared (old new : MutableArray) : Type 0 where
  pub same_shape : shape new ≡ shape old
  pub slots : builder_slots new ≡ []
  pub tight : IsTight new

-- a builder's shape is the same
abbrev pub Kept : MutableArray → MutableArray → Type 0
Kept old new = shape new ≡ shape old

pub all-cleared : (i : ℕ) (cs ds : List MutableArray) → length ds ≤ i → Upto Cleared i cs ds → All (λ b. builder_slots b ≡ []) ds
all-cleared i [] [] le h = All-nil (λ b. builder_slots b ≡ [])
all-cleared i [] (d ∷ ds) le h = absurd h
all-cleared i (c ∷ cs) [] le h = absurd h
all-cleared zero (c ∷ cs) (d ∷ ds) le h = absurd (omega arith)
all-cleared (suc i) (c ∷ cs) (d ∷ ds) le h = All-cons (λ b. builder_slots b ≡ []) d ds h.0.slots (all-cleared i cs ds (omega arith) h.1)

pub all-tight : (i : ℕ) (cs ds : List MutableArray) → length ds ≤ i → Upto Cleared i cs ds → AllTight 0 ds
all-tight i [] [] le h = tt
all-tight i [] (d ∷ ds) le h = absurd h
all-tight i (c ∷ cs) [] le h = absurd h
all-tight zero (c ∷ cs) (d ∷ ds) le h = absurd (omega arith)
all-tight (suc i) (c ∷ cs) (d ∷ ds) le h = (ap length h.0.slots, h.0.tight, all-tight i cs ds (omega arith) h.1)
