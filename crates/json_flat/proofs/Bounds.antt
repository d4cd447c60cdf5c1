-- Values that lie in a range.
use mir.Syntax.{w128}
use mir.Val.{to_z, of_z}
use Rattle.std.proofs.Common.{◌≡◌, ℤ, Bool, true, false, cond, refl, sym, ◌∙◌, subst, arith}
use Rattle.std.proofs.lemmas.Bool.{and_parts}
use Rattle.std.proofs.lemmas.Int.{ints, to_z-of_z}
use Rattle.std.specs.Prelude.{◌≤ℤ◌, int_le, ◌&&◌, Option, Some, None, MatchOption, FitsSigned}
use Rattle.json_flat.specs.Whole.{within}

bounds : (low high n : ℤ) (o : Option ℤ) → Some n ≡ within low high o → (low ≤ℤ n) × (n ≤ℤ high)
bounds low high n None e = absurd cc
bounds low high n (Some v) e = at (int_le low v && int_le v high) refl e
  where
    at : (b : Bool) → (int_le low v && int_le v high) ≡ b → Some n ≡ cond b (Some v) None → (low ≤ℤ n) × (n ≤ℤ high)
    at true t e =
        let p = and_parts (int_le low v) (int_le v high) t in
        let same : n ≡ v = cc in
        let below = p.0 in
        let above = p.1 in
        let lower : low ≤ℤ v = grind (arith, ints, below) in
        let upper : v ≤ℤ high = grind (arith, ints, above) in
        (subst (λ k. low ≤ℤ k) (sym same) lower, subst (λ k. k ≤ℤ high) (sym same) upper)
    at false t e = absurd cc

bounded-at : (r : Option ℤ) (low high : ℤ) (o : Option ℤ) → r ≡ within low high o → MatchOption r (within low high o ≡ None) (λ n. (within low high o ≡ Some n) × (low ≤ℤ n) × (n ≤ℤ high))
bounded-at None low high o e = sym e
bounded-at (Some n) low high o e = let p = bounds low high n o e in (sym e, p.0, p.1)

pub bounded : (r : Option ℤ) (low high : ℤ) (o : Option ℤ) → FitsSigned w128 low → FitsSigned w128 high → r ≡ within (to_z w128 (of_z w128 low)) (to_z w128 (of_z w128 high)) o → MatchOption r (within low high o ≡ None) (λ n. (within low high o ≡ Some n) × (low ≤ℤ n) × (n ≤ℤ high))
bounded r low high o fl fh e = bounded-at r low high o (e ∙ (λ i. within (to_z-of_z w128 low fl i) (to_z-of_z w128 high fh i) o))
