-- The run of plain bytes that comes first.
use Rattle.std.proofs.Common.{◌≡◌, ℕ, zero, suc, ◌<◌, ◌≤◌, ◌+◌, Bool, true, false, cond, List, [], ◌∷◌, length, take, drop, refl, sym, subst, arith}
use Rattle.std.proofs.lemmas.Bool.Decides.{nat_tests}
use Rattle.std.proofs.lemmas.Str.{IsCharBoundary-before_ascii, IsCharBoundary-end}
use Rattle.std.specs.List.{prefix_len}
use Rattle.std.specs.Str.{IsCharBoundary}
use Rattle.json_tree.specs.Grammar.{Each}
use Rattle.arrow_base.specs.JsonString.{is_unescaped}
use Rattle.json_tree.specs.Reading.{First}

pub run-plain : (b : List ℕ) → Each is_unescaped (take (prefix_len is_unescaped b) b)
run-plain [] = tt
run-plain (x ∷ t) = at (is_unescaped x) refl (run-plain t)
  where
    at : (v : Bool) → is_unescaped x ≡ v → Each is_unescaped (take (prefix_len is_unescaped t) t) → Each is_unescaped (take (cond v (1 + prefix_len is_unescaped t) 0) (x ∷ t))
    at true e h = let n : 1 + prefix_len is_unescaped t ≡ suc (prefix_len is_unescaped t) = omega arith in subst (λ k. Each is_unescaped (take k (x ∷ t))) (sym n) (e, h)
    at false e h = tt

pub run-stops : (b : List ℕ) → First (λ x t. is_unescaped x ≡ false) (drop (prefix_len is_unescaped b) b)
run-stops [] = tt
run-stops (x ∷ t) = at (is_unescaped x) refl (run-stops t)
  where
    at : (v : Bool) → is_unescaped x ≡ v → First (λ y s. is_unescaped y ≡ false) (drop (prefix_len is_unescaped t) t) → First (λ y s. is_unescaped y ≡ false) (drop (cond v (1 + prefix_len is_unescaped t) 0) (x ∷ t))
    at true e h = let n : 1 + prefix_len is_unescaped t ≡ suc (prefix_len is_unescaped t) = omega arith in subst (λ k. First (λ y s. is_unescaped y ≡ false) (drop k (x ∷ t))) (sym n) h
    at false e h = e

-- a byte that is not plain is ASCII
pub stop-ascii : (x : ℕ) → is_unescaped x ≡ false → x < 128
unfolding is_unescaped
stop-ascii x h = grind (arith, nat_tests, h)

pub run-boundary : (b : List ℕ) (n : ℕ) → n ≤ length b → First (λ x t. is_unescaped x ≡ false) (drop n b) → IsCharBoundary b n
run-boundary b n l h = at b n l h (drop n b) refl
  where
    at : (b : List ℕ) (n : ℕ) → n ≤ length b → First (λ x t. is_unescaped x ≡ false) (drop n b) → (s : List ℕ) → drop n b ≡ s → IsCharBoundary b n
    at [] zero l h s e = IsCharBoundary-end []
    at [] (suc n) l h s e = absurd (omega (arith, l))
    at (x ∷ t) zero l h s e = IsCharBoundary-before_ascii (x ∷ t) 0 (omega arith) (stop-ascii x h)
    at (x ∷ t) (suc n) l h s e =
        let k = at t n (omega (arith, l)) h s e in
        (l, λ a c. k.1 (omega (arith, a)) c)
