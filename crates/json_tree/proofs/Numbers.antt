-- The parts of a number, as the code skips them.
use Rattle.std.proofs.Common.{◌≡◌, ◌≢◌, inl, inr, ℕ, ◌-◌, Bool, true, false, cond, List, [], ◌∷◌, ◌++◌, length, take, drop, refl, sym, ap, ◌∙◌, subst, append_assoc, arith}
use Rattle.std.specs.Prelude.{Result, Ok, Err, MatchBool}
use Rattle.std.proofs.lemmas.List.{length-append, take_at}
use Rattle.json_tree.specs.Tree.{number, has_point}
use Rattle.json_tree.specs.declared.value.Value.{Number as TheNumber}
use Rattle.json_tree.specs.declared.value.Number.TheVariants.{Integer, Float}
use Rattle.json_tree.specs.Grammar.{is_digit, is_exponent_mark, IsExponent}
use Rattle.json_tree.specs.Reading.{found, wrong, First, prefix, after, digits_at, int_at, minus_at, frac_at, sign_at, exp_at, number_at}
use Rattle.json_tree.specs.Gives.{Moves}
use Rattle.json_tree.specs.declared.value.JsonFault.{JsonFault}
use Rattle.json_tree.proofs.Scalars.{minus-sound, int-sound, frac-sound, exp-sound}
use Rattle.json_tree.proofs.Turns.{ne-eqb}

pub digits-step : (b t : List ℕ) (x : ℕ) → b ≡ x ∷ t → is_digit x ≡ true → (s : List ℕ) × (digits_at b ≡ found s (after is_digit t))
unfolding digits_at
digits-step b t x e d = (x ∷ prefix is_digit t, rw (e, d) refl)

pub int-zero : (b t : List ℕ) → b ≡ 48 ∷ t → (s : List ℕ) × (int_at b ≡ found s t)
unfolding int_at
int-zero b t e = (48 ∷ [], rw e refl)

int-same : (b : List ℕ) → First (λ x t. x ≢ 48) b → int_at b ≡ digits_at b
unfolding int_at digits_at
int-same [] h = refl
int-same (x ∷ t) h = rw (ne-eqb x 48 h) refl

pub int-digits : (r : Result (Unit {0}) JsonFault) (b c n : List ℕ) → c ≡ b → First (λ x t. x ≢ 48) b → Moves digits_at r c n → Moves int_at r b n
int-digits (Ok u) b c n e h m = (m.0, int-same b h ∙ ap digits_at (sym e) ∙ m.1)
int-digits (Err f) b c n e h m = (m.0, int-same b h ∙ ap digits_at (sym e) ∙ m.1)

minus-same : (b : List ℕ) → First (λ x t. x ≢ 45) b → minus_at b ≡ found [] b
unfolding minus_at
minus-same [] h = refl
minus-same (x ∷ t) h = rw (ne-eqb x 45 h) refl

pub minus-moves : (r : Bool) (b n : List ℕ) → MatchBool r (b ≡ 45 ∷ n) ((n ≡ b) × First (λ x t. x ≢ 45) b) → (s : List ℕ) × (minus_at b ≡ found s n)
unfolding minus_at
minus-moves true b n h = (45 ∷ [], rw h refl)
minus-moves false b n h = ([], minus-same b h.1 ∙ ap (λ l. found [] l) (sym h.0))

pub frac-digits : (r : Result (Unit {0}) JsonFault) (b t n : List ℕ) → b ≡ 46 ∷ t → Moves digits_at r t n → Moves frac_at r b n
unfolding frac_at
frac-digits (Ok u) b t n e m = (46 ∷ m.0, rw (e, m.1) refl)
frac-digits (Err f) b t n e m = (m.0, rw (e, m.1) refl)

sign-same : (b : List ℕ) → First (λ x t. x ≢ 45) b → First (λ x t. x ≢ 43) b → sign_at b ≡ found [] b
unfolding sign_at
sign-same [] h k = refl
sign-same (x ∷ t) h k = rw (ne-eqb x 45 h, ne-eqb x 43 k) refl

pub sign-minus : (b n : List ℕ) → b ≡ 45 ∷ n → (s : List ℕ) × (sign_at b ≡ found s n)
unfolding sign_at
sign-minus b n h = (45 ∷ [], rw h refl)

pub sign-plus : (r : Bool) (b c n : List ℕ) → c ≡ b → First (λ x t. x ≢ 45) b → MatchBool r (c ≡ 43 ∷ n) ((n ≡ c) × First (λ x t. x ≢ 43) c) → (s : List ℕ) × (sign_at b ≡ found s n)
unfolding sign_at
sign-plus true b c n e k h = (43 ∷ [], rw (sym e ∙ h) refl)
sign-plus false b c n e k h = ([], sign-same b k (subst (First (λ x t. x ≢ 43)) e h.1) ∙ ap (λ l. found [] l) (sym (h.0 ∙ e)))

pub exp-digits : (r : Result (Unit {0}) JsonFault) (b t q n s : List ℕ) (x : ℕ) → b ≡ x ∷ t → is_exponent_mark x ≡ true → sign_at t ≡ found s q → Moves digits_at r q n → Moves exp_at r b n
unfolding exp_at
exp-digits (Ok u) b t q n s x e i g m = (s ++ m.0, rw (e, i, g, m.1) refl)
exp-digits (Err f) b t q n s x e i g m = (m.0, rw (e, i, g, m.1) refl)

-- ---- the whole

abbrev pub Mantissa : List ℕ → List ℕ → List ℕ
Mantissa b p = take (length b - length p) b

pub number-int : (b r : List ℕ) (s : List ℕ) → minus_at b ≡ found s r → int_at r ≡ wrong → number_at b ≡ wrong
unfolding number_at
number-int b r s m e = rw (m, e) refl

pub number-frac : (b r q s i : List ℕ) → minus_at b ≡ found s r → int_at r ≡ found i q → frac_at q ≡ wrong → number_at b ≡ wrong
unfolding number_at
number-frac b r q s i m n e = rw (m, n, e) refl

pub number-exp : (b r q p s i f : List ℕ) → minus_at b ≡ found s r → int_at r ≡ found i q → frac_at q ≡ found f p → exp_at p ≡ wrong → number_at b ≡ wrong
unfolding number_at
number-exp b r q p s i f m n k e = rw (m, n, k, e) refl

pub mantissa-is : (b r q p s i f : List ℕ) → minus_at b ≡ found s r → int_at r ≡ found i q → frac_at q ≡ found f p → Mantissa b p ≡ s ++ (i ++ f)
mantissa-is b r q p s i f m n k =
    let s' = minus-sound b r s m in
    let i' = int-sound r q i n in
    let f' = frac-sound q p f k in
    let cut : b ≡ (s ++ (i ++ f)) ++ p =
    s'.2 ∙ ap (λ l. l ++ r) (sym s'.1.1) ∙ ap (λ l. s ++ l) (i'.2 ∙ ap (λ l. l ++ q) (sym i'.1.1) ∙ ap (λ l. i ++ l) (f'.2 ∙ ap (λ l. l ++ p) (sym f'.1.1)) ∙ sym (append_assoc i f p)) ∙ sym (append_assoc s (i ++ f) p) in
    let n : length b - length p ≡ length (s ++ (i ++ f)) = omega (arith, ap length cut, length-append (s ++ (i ++ f)) p) in
    ap (λ k. take k b) n ∙ ap (take (length (s ++ (i ++ f)))) cut ∙ take_at (s ++ (i ++ f)) p (length (s ++ (i ++ f))) refl

-- what follows the e, if anything stands there
pub exponent-is : (p o e x : List ℕ) → exp_at p ≡ found e o → x ≡ drop 1 (take (length p - length o) p) → x ≡ e
exponent-is p o e x h k = at s.1 s.2
  where
    s : (a : List ℕ) × IsExponent a e × (p ≡ a ++ o)
    s = exp-sound p o e h

    at : IsExponent s.0 e → p ≡ s.0 ++ o → x ≡ e
    at (inl w) c =
        let c' : p ≡ o = c ∙ ap (λ l. l ++ o) w.0 in
        let n : length p - length o ≡ 0 = omega (arith, ap length c') in
        k ∙ ap (λ m. drop 1 (take m p)) n ∙ sym w.1
    at (inr w) c =
        let c' : p ≡ (w.0 ∷ e) ++ o = c ∙ ap (λ l. l ++ o) w.7 in
        let n : length p - length o ≡ length (w.0 ∷ e) = omega (arith, ap length c', length-append (w.0 ∷ e) o) in
        k ∙ ap (λ m. drop 1 (take m p)) n ∙ ap (λ l. drop 1 (take (length (w.0 ∷ e)) l)) c' ∙ ap (drop 1) (take_at (w.0 ∷ e) o (length (w.0 ∷ e)) refl)

pub number-whole : (b r q p o s i f e x : List ℕ) → minus_at b ≡ found s r → int_at r ≡ found i q → frac_at q ≡ found f p → exp_at p ≡ found e o → x ≡ drop 1 (take (length p - length o) p) → number_at b ≡ found (number (Mantissa b p) x) o
unfolding number_at
number-whole b r q p o s i f e x m n k h w =
    let a = mantissa-is b r q p s i f m n k in
    let c = exponent-is p o e x h w in
    rw (m, n, k, h, a, c) refl

pub number-told : (b r q p o s i f e : List ℕ) → minus_at b ≡ found s r → int_at r ≡ found i q → frac_at q ≡ found f p → exp_at p ≡ found e o → (st tl l m x : List ℕ) → st ≡ b → tl ≡ p → l ≡ o → m ≡ take (length st - length tl) st → x ≡ drop 1 (take (length tl - length l) tl) → (v : Bool) → has_point m ≡ v → number_at b ≡ found (TheNumber (cond v (Float m x) (Integer m x))) o
number-told b r q p o s i f e hm hi hf he st tl l m x es et el em ex v ev =
    let cut : m ≡ Mantissa b p = em ∙ ap (λ k. take (length k - length tl) k) es ∙ ap (λ k. take (length b - length k) b) et in
    let behind : x ≡ drop 1 (take (length p - length o) p) = ex ∙ ap (λ k. drop 1 (take (length tl - length k) tl)) el ∙ ap (λ k. drop 1 (take (length k - length o) k)) et in
    number-whole b r q p o s i f e x hm hi hf he behind ∙ ap (λ k. found (number k x) o) (sym cut) ∙ ap (λ w. found (TheNumber (cond w (Float m x) (Integer m x))) o) ev
