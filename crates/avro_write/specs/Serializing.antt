-- What contracts see of a serializer, and one step of it.
use Rattle.std.specs.Prelude.{◌≡◌, ℕ, Option, Some, None, List, [], ◌∷◌, Result, Ok, MatchResult, refl}
use Rattle.std.specs.Coded.{Coded, code_by, coded×, coded_list, coded_option, coded_ℕ}
use Rattle.arrow_core.specs.declared.error.Error.{Error}
use Rattle.arrow_core.specs.declared.error.Error.TheVariants.{OutOfMemory}

-- the items that are still to be shown, and the item that is shown
pub record Serializing : Type 0 where
  pub left : List (List ℕ)
  pub shown : Option (List ℕ)

abbrev pub serializing_code : Coded Serializing
serializing_code =
    code_by (List (List ℕ) × Option (List ℕ)) (coded× (coded_list (coded_list coded_ℕ)) (coded_option (coded_list coded_ℕ))) (λ s. (s.left, s.shown)) (λ p. record { left = p.0; shown = p.1 }) (λ _. refl)

-- the next item was shown; or there was none; or there was no memory, and then there is no further one
abbrev pub Steps : Serializing → Result (Unit {0}) Error → Serializing → Type 0
Steps before answer after = steps before.left
  where
    steps : List (List ℕ) → Type 0
    steps [] = (answer ≡ Ok tt) × (after ≡ record { left = []; shown = None })
    steps (item ∷ rest) =
        MatchResult answer (λ _. after ≡ record { left = rest; shown = Some item }) (λ e. (e ≡ OutOfMemory) × (after ≡ record { left = []; shown = None }))
