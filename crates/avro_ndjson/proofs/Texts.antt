-- Fields that have a text, one at a time.
use Rattle.std.proofs.Common.{◌≡◌, ◌⊎◌, inl, inr, ℕ, ◌+◌, ◌<◌, ◌≤◌, true, List, length, get_or, sym, subst, arith}
use Rattle.std.proofs.lemmas.Bool.{cases_lt}
use Rattle.std.proofs.lemmas.List.{get_or_read}
use Rattle.arrow_core.specs.declared.types.Field.{Field}
use Rattle.json_text.specs.Refusals.{has_text}

pub text_more : (fs : List Field) (i : ℕ) (f : Field) → i < length fs → f ≡ get_or fs i f → has_text f.data_type ≡ true → ((k : ℕ) (d : Field) → k < i → k < length fs → has_text (get_or fs k d).data_type ≡ true)
    → (k : ℕ) (d : Field) → k < i + 1 → k < length fs → has_text (get_or fs k d).data_type ≡ true
text_more fs i f lt is here before k d le within = from (cases_lt k i)
  where
    from : (k < i) ⊎ (i ≤ k) → has_text (get_or fs k d).data_type ≡ true
    from (inl less) = before k d less within
    from (inr ge) =
        let same : k ≡ i = omega (arith, ge, le) in
        subst (λ (j : ℕ). has_text (get_or fs j d).data_type ≡ true) (sym same) (subst (λ (g : Field). has_text g.data_type ≡ true) (get_or_read fs _ _ lt is d) here)
