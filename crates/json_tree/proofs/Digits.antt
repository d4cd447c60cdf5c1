-- The texts of numbers are ASCII.
use Rattle.std.proofs.Common.{◌≡◌, inl, inr, ℕ, zero, suc, ◌<◌, ◌-◌, true, List, [], ◌∷◌, ◌++◌, length, take, drop, get_or, sym, ap, ◌∙◌, subst, arith}
use Rattle.std.proofs.lemmas.Bool.Decides.{nat_tests}
use Rattle.std.proofs.lemmas.Str.{IsUtf8-from_ascii}
use Rattle.std.specs.Str.{IsUtf8}
use Rattle.json_tree.specs.Grammar.{Each, is_digit, IsMinus, IsInteger, IsFraction, IsSign, IsExponent, Digits}
use Rattle.json_tree.specs.Reading.{found, int_at, minus_at, frac_at, exp_at}
use Rattle.json_tree.proofs.Scalars.{minus-sound, int-sound, frac-sound, exp-sound}
use Rattle.json_tree.proofs.Numbers.{Mantissa, mantissa-is, exponent-is}

abbrev Low : List ℕ → Type 0
Low [] = Unit {0}
Low (x ∷ xs) = (x < 128) × Low xs

low-append : (a b : List ℕ) → Low a → Low b → Low (a ++ b)
low-append [] b h k = k
low-append (x ∷ a) b h k = (h.0, low-append a b h.1 k)

digit-low : (x : ℕ) → is_digit x ≡ true → x < 128
unfolding is_digit
digit-low x h = grind (arith, nat_tests, h)

low-each : (ds : List ℕ) → Each is_digit ds → Low ds
low-each [] h = tt
low-each (x ∷ ds) h = (digit-low x h.0, low-each ds h.1)

low-digits : (b : List ℕ) → Digits b → Low b
low-digits b h = subst Low (sym h.4) (digit-low h.0 h.2, low-each h.1 h.3)

low-minus : (b : List ℕ) → IsMinus b → Low b
low-minus b (inl e) = subst Low (sym e) tt
low-minus b (inr e) = subst Low (sym e) (omega arith, tt)

low-int : (b : List ℕ) → IsInteger b → Low b
low-int b (inl e) = subst Low (sym e) (omega arith, tt)
low-int b (inr h) = subst Low (sym h.5) (digit-low h.0 h.2, low-each h.1 h.4)

low-frac : (b : List ℕ) → IsFraction b → Low b
low-frac b (inl e) = subst Low (sym e) tt
low-frac b (inr h) = subst Low (sym h.2) (omega arith, low-digits h.0 h.1)

low-sign : (b : List ℕ) → IsSign b → Low b
low-sign b (inl e) = subst Low (sym e) tt
low-sign b (inr (inl e)) = subst Low (sym e) (omega arith, tt)
low-sign b (inr (inr e)) = subst Low (sym e) (omega arith, tt)

low-exp : (b x : List ℕ) → IsExponent b x → Low x
low-exp b x (inl h) = subst Low (sym h.1) tt
low-exp b x (inr h) = subst Low (sym h.6) (low-append h.1 h.2 (low-sign h.1 h.4) (low-digits h.2 h.5))

low-at : (b : List ℕ) → Low b → (i : ℕ) → get_or b i 0 < 128
low-at [] h i = omega arith
low-at (x ∷ b) h zero = h.0
low-at (x ∷ b) h (suc i) = low-at b h.1 i

low-utf8 : (b : List ℕ) → Low b → IsUtf8 b
low-utf8 b h = IsUtf8-from_ascii b (low-at b h)

pub mantissa-utf8 : (b r q p s i f : List ℕ) → minus_at b ≡ found s r → int_at r ≡ found i q → frac_at q ≡ found f p → (st tl m : List ℕ) → st ≡ b → tl ≡ p → m ≡ take (length st - length tl) st → IsUtf8 m
mantissa-utf8 b r q p s i f hm hi hf st tl m es et em =
    let s' = minus-sound b r s hm in
    let i' = int-sound r q i hi in
    let f' = frac-sound q p f hf in
    let a = subst Low (sym s'.1.1) (low-minus s'.0 s'.1.0) in
    let c = subst Low (sym i'.1.1) (low-int i'.0 i'.1.0) in
    let d = subst Low (sym f'.1.1) (low-frac f'.0 f'.1.0) in
    let cut : m ≡ Mantissa b p = em ∙ ap (λ k. take (length k - length tl) k) es ∙ ap (λ k. take (length b - length k) b) et in
    subst IsUtf8 (sym (cut ∙ mantissa-is b r q p s i f hm hi hf)) (low-utf8 (s ++ (i ++ f)) (low-append s (i ++ f) a (low-append i f c d)))

pub exponent-utf8 : (p o e : List ℕ) → exp_at p ≡ found e o → (tl l x : List ℕ) → tl ≡ p → l ≡ o → x ≡ drop 1 (take (length tl - length l) tl) → IsUtf8 x
exponent-utf8 p o e h tl l x et el ex =
    let t = exp-sound p o e h in
    let behind : x ≡ drop 1 (take (length p - length o) p) = ex ∙ ap (λ k. drop 1 (take (length tl - length k) tl)) el ∙ ap (λ k. drop 1 (take (length k - length o) k)) et in
    subst IsUtf8 (sym (exponent-is p o e x h behind)) (low-utf8 e (low-exp t.0 e t.1))
