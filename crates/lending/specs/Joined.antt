-- Items that a lending iterator shows, written with a separator between them.
use Rattle.std.specs.Prelude.{◌≡◌, ℕ, ◌<◌, ◌⊎◌, Bool, List, [], ◌∷◌, Option, Result, Err, MatchOption, cond}
use Rattle.std.specs.List.{join_with_byte}
use Rattle.std.specs.Io.KnownBytes.{Appends, Keeps}
use Rattle.arrow_base.specs.Outside.{AppendsPrefix, RoseOrFull}
use Rattle.arrow_core.specs.declared.error.Error.{Error}
use Rattle.arrow_core.specs.declared.error.Error.TheVariants.{WriteFault}
use Rattle.lending.specs.Lending.{ShowsItem, Shows, ShowsAll, ShowsThenErr, TakesOff}

-- an item, after the separator but for the first; private contracts alone cite it
abbrev pub piece : ℕ → Bool → List ℕ → List ℕ
piece separator is_first item = cond is_first item (separator ∷ item)

-- the first of a list is shown, or nothing at its end
abbrev pub MovesOn : List (List ℕ) → Option (List ℕ) → List (List ℕ) → Type 0
MovesOn before shown after = MatchOption shown ((before ≡ []) × (after ≡ [])) (λ item. before ≡ item ∷ after)

-- a list that was told was written
abbrev pub WritesTold : (List (List ℕ) → Type 0) → ℕ → Option (List ℕ) → Option (List ℕ) → Type 0
WritesTold told separator old new = (items : List (List ℕ)) → told items → Appends old new (join_with_byte separator items)

module _ {S : Type 0} (step : S → Result (Unit {0}) Error → S → Type 0) (shown : S → Option (List ℕ)) where
  -- all items that came were written
  abbrev pub WritesShown : S → ℕ → Option (List ℕ) → Option (List ℕ) → Type 0
  WritesShown before separator old new = (items : List (List ℕ)) × ShowsAll step shown before items × Appends old new (join_with_byte separator items)

  -- the sink failed, and took a prefix of items that came; or the iterator's own error came, and the items before it were written
  abbrev pub StopsWriting : S → ℕ → Option (List ℕ) → Option (List ℕ) → ℕ → ℕ → Error → Type 0
  StopsWriting before separator old new faults_before faults_after error =
      ((error ≡ WriteFault) × RoseOrFull faults_before faults_after
      × ((items : List (List ℕ)) × (after : S) × Shows step shown before items after × AppendsPrefix old new (join_with_byte separator items)))
      ⊎ ((items : List (List ℕ)) × ShowsThenErr step shown before items error × Appends old new (join_with_byte separator items))

  -- ---- What follows is cited by private contracts alone; none of it has to be read to believe a public one.

  -- the next item was written
  pub record Wrote (items : S → List (List ℕ) → Type 0) (to_come : S → ℕ) (separator : ℕ) (is_first : Bool) (before after : S) (old new : Option (List ℕ)) : Type 0 where
    pub item : List ℕ
    pub shows : ShowsItem step shown before item after
    pub takes : TakesOff items before item after
    pub falls : to_come after < to_come before
    pub written : Appends old new (piece separator is_first item)

  -- the sink failed, and took a prefix of the next item; or the iterator's own error came, and nothing was written
  abbrev pub StopsAtItem : ℕ → Bool → S → Option (List ℕ) → Option (List ℕ) → ℕ → ℕ → Error → Type 0
  StopsAtItem separator is_first before old new faults_before faults_after error =
      ((error ≡ WriteFault) × RoseOrFull faults_before faults_after
      × ((item : List ℕ) × (after : S) × ShowsItem step shown before item after × AppendsPrefix old new (piece separator is_first item)))
      ⊎ (((after : S) × step before (Err error) after) × Keeps old new)
