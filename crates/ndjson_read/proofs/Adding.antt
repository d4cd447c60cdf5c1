-- What is answered for the row that a batch of one shows.
use Rattle.std.proofs.Common.{◌≡◌, ℕ, ◌-◌, ◌≤◌, inl, inr, List, [], ◌∷◌, length, get_or, Option, Some, None, subst, sym, ◌∙◌, ap, arith}
use Rattle.std.specs.Option.{option_map}
use Rattle.arrow_core.specs.declared.error.Error.{Error}
use Rattle.arrow_core.specs.declared.error.Error.TheVariants.{ExternalFormat, LimitExceeded, ReadFault, OutOfMemory}
use Rattle.arrow_core.specs.declared.error.Reason.TheVariants as reason
use Rattle.ndjson_read.specs.FileReader.{fewer_of}
use Rattle.ndjson_read.specs.Reading.{State, ShowsRows, NoRows}
use Rattle.ndjson_read.specs.Inference.{NoValue}
use Rattle.ndjson_read.specs.SoFar.{NoRow}

pub rows_err : (wanted : ℕ) (a b : State) (e : Error) → NoRows wanted a b e → NoRow wanted a b e
rows_err wanted a b (ReadFault (Some number)) h = h
rows_err wanted a b LimitExceeded h = inl h
rows_err wanted a b (ExternalFormat reason.Utf8Line) h = h
rows_err wanted a b OutOfMemory h = h
rows_err wanted a b e h = absurd h

pub value_err : (wanted : ℕ) (a b : State) (row : List ℕ) (e : Error) → ShowsRows wanted a b (row ∷ []) → NoValue row e → NoRow wanted a b e
value_err wanted a b row LimitExceeded s h = inr (record { row = row; shows = s; holds = h })
value_err wanted a b row (ExternalFormat reason.Json) s h = record { row = row; shows = s; holds = h }
value_err wanted a b row OutOfMemory s h = record { taken = s.taken; takes = s.takes; each = s.each }
value_err wanted a b row e s h = absurd h

one_of : (wanted : ℕ) (a b : State) (row : List ℕ) (rest : List (List ℕ)) → wanted ≤ 1 → ShowsRows wanted a b (row ∷ rest) → ShowsRows wanted a b (row ∷ [])
one_of wanted a b row [] few s = s
one_of wanted a b row (next ∷ rest) few s = absurd (omega (arith, few, s.most))

-- where one is shown, it is the only one
pub one_shown : (wanted : ℕ) (a b : State) (shown : List (List ℕ)) (row : List ℕ) (rest : List (List ℕ)) → wanted ≤ 1 → shown ≡ row ∷ rest → ShowsRows wanted a b shown → ShowsRows wanted a b (row ∷ [])
one_shown wanted a b shown row rest few is s = one_of wanted a b row rest few (subst (ShowsRows wanted a b) is s)

pub few_wanted : (limit : Option ℕ) (batch : ℕ) → batch ≡ 1 → fewer_of limit batch ≤ 1
few_wanted None batch one = omega (arith, one)
few_wanted (Some n) batch one = grind (arith, one)

-- the first of what is lent is the only row
pub shown_first : (wanted : ℕ) (a b : State) (shown given : List (List ℕ)) (row : List ℕ) → wanted ≤ 1 → given ≡ shown → 1 ≤ length given → row ≡ get_or given 0 [] → ShowsRows wanted a b shown
    → ShowsRows wanted a b (row ∷ [])
shown_first wanted a b shown [] row few same some is s = absurd (omega (arith, some))
shown_first wanted a b shown (first ∷ given) row few same some is s = subst (λ (z : List ℕ). ShowsRows wanted a b (z ∷ [])) (sym is) (one_shown wanted a b shown first given few (sym same) s)

pub shown_length : (wanted : ℕ) (a b : State) (shown given : List (List ℕ)) → wanted ≤ 1 → given ≡ shown → 1 ≤ length given → ShowsRows wanted a b shown → length shown ≡ 1
shown_length wanted a b shown given few same some s = omega (arith, few, ap length same, some, s.most)

pub limit_shown : (limit after : Option ℕ) (n m : ℕ) → after ≡ option_map (λ k. k - n) limit → n ≡ m → after ≡ option_map (λ k. k - m) limit
limit_shown limit after n m is same = is ∙ ap (λ (z : ℕ). option_map (λ k. k - z) limit) same
