-- What is skipped, from what reading finds.
use Rattle.std.proofs.Common.{◌≡◌, ◌≢◌, ℕ, zero, suc, List, ◌++◌, length, take, drop, ◌-◌, refl, sym, ap, ◌∙◌, subst}
use Rattle.std.specs.Prelude.{Result, Ok, Err, MatchResult, ◌∷◌}
use Rattle.json_tree.specs.Tree.{Json, number}
use Rattle.json_tree.specs.Grammar.{Each}
use Rattle.arrow_base.specs.JsonString.{is_unescaped}
use Rattle.json_tree.specs.Reading.{Outcome, found, wrong, bind, int_at, minus_at, frac_at, exp_at, number_at, string_at, scalar_at, object_at, value_at}
use Rattle.json_tree.specs.Gives.{Fails, Moves}
use Rattle.json_tree.specs.declared.value.JsonFault.{JsonFault}
use Rattle.json_tree.specs.declared.value.JsonFault.TheVariants.{Text}
use Rattle.json_tree.proofs.Numbers.{number-exp, number-whole, Mantissa}
use Rattle.json_tree.proofs.CharTurns.{plain-string}
use Rattle.json_tree.proofs.Turns.{fails-bind, ne-eqb}
use Rattle.json_lend.specs.Skips.{Skips}

-- ---- numbers

pub skip-number : (res : Result (Unit {0}) JsonFault) (b r q p o s i f : List ℕ) → minus_at b ≡ found s r → int_at r ≡ found i q → frac_at q ≡ found f p → Moves exp_at res p o → Skips res o (number_at b)
unfolding number_at
skip-number (Ok u) b r q p o s i f hm hi hf m = (number (s ++ (i ++ f)) m.0, rw (hm, hi, hf, m.1) refl)
skip-number (Err e) b r q p o s i f hm hi hf m = subst (λ k. Fails k (number_at b)) (sym m.0) (number-exp b r q p s i f hm hi hf m.1)

pub lend-number : (b r q p o s i f e : List ℕ) → minus_at b ≡ found s r → int_at r ≡ found i q → frac_at q ≡ found f p → exp_at p ≡ found e o → (st tl l m x : List ℕ) → st ≡ b → tl ≡ p → l ≡ o → m ≡ take (length st - length tl) st → x ≡ drop 1 (take (length tl - length l) tl) → number_at b ≡ found (number m x) o
lend-number b r q p o s i f e hm hi hf he st tl l m x es et el em ex =
    let cut : m ≡ Mantissa b p = em ∙ ap (λ k. take (length k - length tl) k) es ∙ ap (λ k. take (length b - length k) b) et in
    let following : x ≡ drop 1 (take (length p - length o) p) = ex ∙ ap (λ k. drop 1 (take (length tl - length k) tl)) el ∙ ap (λ k. drop 1 (take (length k - length o) k)) et in
    number-whole b r q p o s i f e x hm hi hf he following ∙ ap (λ k. found (number k x) o) (sym cut)

-- ---- parts of values

-- what is skipped of a part is skipped of the whole
pub skip-bind : {X A B : Type 0} (res : Result X JsonFault) (rest : List ℕ) (o : Outcome A) (k : A → B) → Skips res rest o → Skips res rest (bind o (λ x r. found (k x) r))
skip-bind (Ok x) rest o k h = (k h.0, ap (λ p. bind p (λ x r. found (k x) r)) h.1)
skip-bind (Err e) rest o k h = fails-bind e o (λ x r. found (k x) r) h

pub skip-word : (res : Result (Unit {0}) JsonFault) (o : Outcome (Unit {0})) (rest : List ℕ) (v : Json) → MatchResult res (λ _. o ≡ found tt rest) (λ e. (e ≡ Text) × (o ≡ wrong)) → Skips res rest (bind o (λ _ r. found v r))
skip-word (Ok u) o rest v h = (v, ap (λ p. bind p (λ _ r. found v r)) h)
skip-word (Err e) o rest v h = subst (λ k. Fails k (bind o (λ _ r. found v r))) (sym h.0) (ap (λ p. bind p (λ _ r. found v r)) h.1)

-- a string without escapes is skipped
pub plain-skips : (b run r : List ℕ) → Each is_unescaped run × (b ≡ 34 ∷ (run ++ 34 ∷ r)) → (s : List ℕ) × (string_at b ≡ found s r)
plain-skips b run r h = (run, plain-string b run r h.0 h.1)

-- ---- values by their first byte

pub value-object : (d e : ℕ) (b t : List ℕ) → d ≡ suc e → b ≡ 123 ∷ t → value_at d b ≡ object_at (value_at e) t
unfolding value_at
value-object d e b t h k = rw (h, k) refl

pub value-else : (d : ℕ) (b t : List ℕ) (x : ℕ) → b ≡ x ∷ t → x ≢ 91 → x ≢ 123 → value_at d b ≡ scalar_at b
unfolding value_at
value-else zero b t x e p q = rw (e, ne-eqb x 91 p, ne-eqb x 123 q) refl
value-else (suc d) b t x e p q = rw (e, ne-eqb x 91 p, ne-eqb x 123 q) refl
