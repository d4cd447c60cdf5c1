-- Tests, by what they answer.
use Rattle.std.proofs.Common.{◌≡◌, ℕ, zero, suc, ◌<◌, Bool, true, false, T, ◌&&◌, ◌⊎◌, inl, inr, refl, sym, subst, arith}
use Rattle.std.proofs.lemmas.Bool.{cases_order}

pub both : (a b : Bool) → T (a && b) → T a × T b
both true b h = (tt, h)
both false b h = absurd h

pub T-true : (b : Bool) → T b → b ≡ true
T-true true h = refl
T-true false h = absurd h

pub by_test : (P : Type 0) (test : Bool) → (test ≡ true → P) → (test ≡ false → P) → P
by_test P true f g = f refl
by_test P false f g = g refl

-- every number below another passes, which computes
unfoldable pub passes_below : (ℕ → Bool) → ℕ → Bool
passes_below test zero = true
passes_below test (suc n) = test n && passes_below test n

pub passes-at : (test : ℕ → Bool) (n : ℕ) → T (passes_below test n) → (i : ℕ) → i < n → T (test i)
unfolding passes_below
passes-at test zero h i l = absurd (omega (arith, l))
passes-at test (suc n) h i l = go (passes-at test n (both (test n) (passes_below test n) h).1 i) (cases_order i n)
  where
    go : (i < n → T (test i)) → (i ≡ n) ⊎ ((i < n) ⊎ (n < i)) → T (test i)
    go below (inl e) = subst (λ x. T (test x)) (sym e) (both (test n) (passes_below test n) h).0
    go below (inr (inl k)) = below k
    go below (inr (inr k)) = absurd (omega (arith, l, k))
