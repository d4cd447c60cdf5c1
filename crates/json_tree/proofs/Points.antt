-- A mantissa has a point where it has a fraction.
use Rattle.std.proofs.Common.{◌≡◌, inl, inr, ℕ, ◌<◌, ◌≤◌, ◌-◌, ◌==◌, ◌||◌, Bool, true, false, List, [], ◌∷◌, ◌++◌, length, take, refl, sym, ap, ◌∙◌, subst, arith}
use Rattle.std.proofs.lemmas.Bool.Decides.{nat_tests}
use Rattle.std.proofs.lemmas.List.{length-append}
use Rattle.json_tree.specs.Tree.{has_point}
use Rattle.json_tree.specs.Grammar.{Each, is_digit, IsMinus, IsInteger, IsFraction}
use Rattle.json_tree.specs.Reading.{found, int_at, minus_at, frac_at}
use Rattle.json_tree.proofs.Scalars.{minus-sound, int-sound, frac-sound}
use Rattle.json_tree.proofs.Numbers.{Mantissa, mantissa-is}

or-false : (u v : Bool) → (u || v) ≡ false → (u ≡ false) × (v ≡ false)
or-false true v h = grind (arith, h)
or-false false v h = (refl, h)

pub point-append : (a b : List ℕ) → has_point a ≡ false → has_point (a ++ b) ≡ has_point b
point-append [] b h = refl
point-append (x ∷ a) b h = let p = or-false (x == 46) (has_point a) h in rw p.0 (point-append a b p.1)

pub digit-point : (x : ℕ) → is_digit x ≡ true → (x == 46) ≡ false
unfolding is_digit
digit-point x h = grind (arith, nat_tests, h)

pub each-point : (ds : List ℕ) → Each is_digit ds → has_point ds ≡ false
each-point [] h = refl
each-point (x ∷ ds) h = rw (digit-point x h.0) (each-point ds h.1)

pub minus-point : (b : List ℕ) → IsMinus b → has_point b ≡ false
minus-point b (inl e) = rw e refl
minus-point b (inr e) = rw e refl

pub int-point : (b : List ℕ) → IsInteger b → has_point b ≡ false
int-point b (inl e) = rw e refl
int-point b (inr h) = rw (h.5, digit-point h.0 h.2) (each-point h.1 h.4)

-- a fraction was passed where bytes were
pub frac-point : (q p f : List ℕ) → frac_at q ≡ found f p → length p < length q → has_point f ≡ true
frac-point q p f k l = at s.1.0
  where
    s : (d : List ℕ) × (IsFraction d × (f ≡ d)) × (q ≡ d ++ p)
    s = frac-sound q p f k

    at : IsFraction s.0 → has_point f ≡ true
    at (inl e) = absurd (omega (arith, l, ap length (s.2 ∙ ap (λ d. d ++ p) e)))
    at (inr h) = rw (s.1.1, h.2) refl

pub no-frac-point : (q p f : List ℕ) → frac_at q ≡ found f p → length q ≤ length p → has_point f ≡ false
no-frac-point q p f k l = at s.1.0
  where
    s : (d : List ℕ) × (IsFraction d × (f ≡ d)) × (q ≡ d ++ p)
    s = frac-sound q p f k

    at : IsFraction s.0 → has_point f ≡ false
    at (inl e) = rw (s.1.1, e) refl
    at (inr h) = absurd (omega (arith, l, ap length (s.2 ∙ ap (λ d. d ++ p) h.2), length-append (46 ∷ h.0) p))

pub mantissa-point : (b r q p s i f : List ℕ) → minus_at b ≡ found s r → int_at r ≡ found i q → frac_at q ≡ found f p → (st tl m : List ℕ) → st ≡ b → tl ≡ p → m ≡ take (length st - length tl) st → (v : Bool) → has_point f ≡ v → has_point m ≡ v
mantissa-point b r q p s i f hm hi hf st tl m es et em v ev =
    let s' = minus-sound b r s hm in
    let i' = int-sound r q i hi in
    let a = minus-point s (subst IsMinus (sym s'.1.1) s'.1.0) in
    let c = int-point i (subst IsInteger (sym i'.1.1) i'.1.0) in
    let cut : m ≡ Mantissa b p = em ∙ ap (λ k. take (length k - length tl) k) es ∙ ap (λ k. take (length b - length k) b) et in
    ap has_point (cut ∙ mantissa-is b r q p s i f hm hi hf) ∙ point-append s (i ++ f) a ∙ point-append i f c ∙ ev
