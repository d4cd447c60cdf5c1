-- A builder whose children have exactly the slots that its lists or structs reach.
use Rattle.std.specs.Prelude.{◌≡◌, ℕ, ◌*◌, List, [], ◌∷◌, length}
use Rattle.arrow_array.specs.FixedLists.{list_size}
use Rattle.arrow_flat.specs.Nested.{items_of}
use Rattle.arrow_builders.specs.MutableArrays.{builder_slots}
use Rattle.arrow_builders.specs.declared.array.MutableArray.{MutableArray, List', LargeList', FixedSizeList', Struct', Row_of-MutableArray, end_of-MutableArray, more_of-MutableArray}

-- each child is tight too; a flat builder has none
abbrev mutual
  pub IsTight : MutableArray → Type 0
  IsTight (List' lists p child) = (length (builder_slots child) ≡ items_of lists.lens) × IsTight child
  IsTight (LargeList' lists p child) = (length (builder_slots child) ≡ items_of lists.lens) × IsTight child
  IsTight (FixedSizeList' marks p child) = (length (builder_slots child) ≡ length marks.booleans * list_size marks.data_type) × IsTight child
  IsTight (Struct' marks size row) = TightBelow (length marks.booleans) row
  IsTight b = Unit {0}

  pub TightBelow : {m : _} → ℕ → Row_of-MutableArray m → Type 0
  TightBelow n end_of-MutableArray = Unit {0}
  TightBelow n (more_of-MutableArray b rest) = (length (builder_slots b) ≡ n) × IsTight b × TightBelow n rest

-- the same of children side by side, each with n slots
abbrev pub AllTight : ℕ → List MutableArray → Type 0
AllTight n [] = Unit {0}
AllTight n (b ∷ bs) = (length (builder_slots b) ≡ n) × IsTight b × AllTight n bs
