-- What one `advance` of a lending iterator does, and runs of them.
use Rattle.std.specs.Prelude.{◌≡◌, ℕ, ◌<◌, ◌≤◌, Option, Some, None, List, [], ◌∷◌, Result, Ok, Err, IfSome, IfNone, OnErr, OnOk, MatchOption, MatchResult}
use Rattle.std.specs.Borrow.{Bor}

-- each list that was told begins with the item, and the rest is told from then on
abbrev pub TakesOff : {S : Type 0} → (S → List (List ℕ) → Type 0) → S → List ℕ → S → Type 0
TakesOff items before item after = (told : List (List ℕ)) → items before told → (rest : List (List ℕ)) × (told ≡ item ∷ rest) × items after rest

-- each list that was told is empty
abbrev pub TellsNone : {S : Type 0} → (S → List (List ℕ) → Type 0) → S → Type 0
TellsNone items before = (told : List (List ℕ)) → items before told → told ≡ []

module _ {S E : Type 0} (step : S → Result (Unit {0}) E → S → Type 0) (shown : S → Option (List ℕ)) where
  -- one `advance` showed the item
  abbrev pub ShowsItem : S → List ℕ → S → Type 0
  ShowsItem before item after = step before (Ok tt) after × (shown after ≡ Some item)

  -- one `advance` answered Ok and showed none
  abbrev pub ShowsEnd : S → Type 0
  ShowsEnd before = (after : S) × step before (Ok tt) after × (shown after ≡ None)

  -- one `advance` after another showed the items
  abbrev pub Shows : S → List (List ℕ) → S → Type 0
  Shows before [] after = before ≡ after
  Shows before (item ∷ items) after = (between : S) × ShowsItem before item between × Shows between items after

  -- they showed the items, and then there was no further one
  abbrev pub ShowsAll : S → List (List ℕ) → Type 0
  ShowsAll before items = (after : S) × Shows before items after × ShowsEnd after

  -- they showed the items, and then the answer was this error
  abbrev pub ShowsThenErr : S → List (List ℕ) → E → Type 0
  ShowsThenErr before items error = (between : S) × (after : S) × Shows before items between × step between (Err error) after

-- what each `advance` does
pub record Advanced {S E : Type 0} (can_advance : S → Type 0) (step : S → Result (Unit {0}) E → S → Type 0) (shown : S → Option (List ℕ)) (to_come : S → ℕ) (items : S → List (List ℕ) → Type 0)
    (before : S) (answer : Result (Unit {0}) E) (after : S) : Type 0 where
  pub steps : step before answer after
  pub again : can_advance after
  pub never_rises : to_come after ≤ to_come before
  pub falls_shown : IfSome (shown after) (λ _. to_come after < to_come before)
  pub falls_err : OnErr answer (to_come after < to_come before)
  pub hidden : OnErr answer (shown after ≡ None)
  pub taken : IfSome (shown after) (λ item. TakesOff items before item after)
  pub end : OnOk answer (IfNone (shown after) (TellsNone items before))

-- a reference to what is shown, if anything is
abbrev pub IsShown : Option (Bor (List ℕ)) → Option (List ℕ) → Type 0
IsShown result shown = MatchOption result (shown ≡ None) (λ item. shown ≡ Some item.now)

-- what `next` gives after an `advance` that answered so: its error, or what is shown then
abbrev pub IsNext : {E : Type 0} → Result (Option (Bor (List ℕ))) E → Result (Unit {0}) E → Option (List ℕ) → Type 0
IsNext result answer shown = MatchResult result (λ item. (answer ≡ Ok tt) × IsShown item shown) (λ error. answer ≡ Err error)

-- an `advance`, and what `next` then gives
abbrev pub AdvancedNext : {S E : Type 0} → (S → Type 0) → (S → Result (Unit {0}) E → S → Type 0) → (S → Option (List ℕ)) → (S → ℕ) → (S → List (List ℕ) → Type 0)
    → S → Result (Option (Bor (List ℕ))) E → S → Type 0
AdvancedNext {E = E} can_advance step shown to_come items before result after =
    (answer : Result (Unit {0}) E) × Advanced can_advance step shown to_come items before answer after × IsNext result answer (shown after)
