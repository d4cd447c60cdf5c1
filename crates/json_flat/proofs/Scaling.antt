-- A magnitude by the digits before the point that the exponent has moved.
use Rattle.std.proofs.Common.{◌≡◌, ℕ, zero, suc, ◌+◌, ◌*◌, ◌^◌, ◌<◌, ◌≤◌, ◌-◌, Bool, true, false, List, [], ◌∷◌, ◌++◌, length, take, refl, sym, ap, ◌∙◌, subst, arith, length-append}
use Rattle.std.proofs.Math.Nat.{pow-le-pow_right, one-le-pow, mul-div-mul_right, mul-div_cancel, div-eq_of_lt, le-mul_of_pos_right}
use Rattle.std.proofs.lemmas.Bool.{cases_lt, cases_eq}
use Rattle.std.proofs.lemmas.Int.Digits.{digits_value-lt}
use Rattle.std.proofs.lemmas.Nat.{pow-add}
use Rattle.std.specs.Prelude.{◌/◌, ◌⊎◌, min, Option, Some, None}
use Rattle.std.proofs.Common.{inl, inr}
use Rattle.std.specs.Str.Parse.{digits_value, digits_value_after, AllDigits}
use Rattle.json_flat.specs.Whole.{scaled}
use Rattle.json_flat.specs.Parts.{Counts, point_of}
use Rattle.json_flat.proofs.Digits.{after-append, after-ge, append-digits, cut, many-zeros}

-- the first digits of all, and zeros where there are not enough
abbrev pub shifted : List ℕ → List ℕ → ℕ → ℕ
shifted i f p = digits_value_after 10 (digits_value_after 10 0 (take p i)) (take (p - length i) f) * 10 ^ (p - length i - length f)

nothing-taken : (n : ℕ) (f : List ℕ) → [] ≡ take (0 - n) f
nothing-taken n f = let none : 0 ≡ 0 - n = omega arith in ap (λ k. take k f) none

-- the first digits of two lists are those of both together
firsts : (i f : List ℕ) (p : ℕ) → take p (i ++ f) ≡ take p i ++ take (p - length i) f
firsts [] f zero = refl
firsts [] f (suc p) = let n : suc p ≡ suc p - 0 = omega arith in ap (λ k. take k f) n
firsts (x ∷ i) f zero = nothing-taken (length (x ∷ i)) f
firsts (x ∷ i) f (suc p) =
    let n : p - length i ≡ suc p - length (x ∷ i) = omega arith in
    ap (λ l. x ∷ l) (firsts i f p ∙ ap (λ k. take p i ++ take k f) n)

joined : (i f : List ℕ) (p : ℕ) → digits_value_after 10 (digits_value_after 10 0 (take p i)) (take (p - length i) f) ≡ digits_value 10 (take p (i ++ f))
joined i f p = sym (after-append 0 (take p i) (take (p - length i) f)) ∙ ap (digits_value 10) (sym (firsts i f p))

-- where the point stays within the digits, the others are cut
within-digits : (i f : List ℕ) (p : ℕ) → AllDigits 10 i → AllDigits 10 f → p ≤ length i + length f → shifted i f p ≡ digits_value 10 (i ++ f) / 10 ^ (length i + length f - p)
within-digits i f p hi hf le =
    let n : p - length i - length f ≡ 0 = omega (arith, le) in
    let none : 10 ^ (p - length i - length f) ≡ 1 = ap (λ k. 10 ^ k) n in
    let len : length (i ++ f) - p ≡ length i + length f - p = ap (λ k. k - p) (length-append i f) in
    let kept = joined i f p ∙ cut p (i ++ f) (append-digits i f hi hf) ∙ ap (λ k. digits_value 10 (i ++ f) / 10 ^ k) len in
    ap (λ k. digits_value_after 10 (digits_value_after 10 0 (take p i)) (take (p - length i) f) * k) none ∙ omega (arith, kept)

take-all : (l : List ℕ) (p : ℕ) → length l ≤ p → take p l ≡ l
take-all [] zero h = refl
take-all [] (suc p) h = refl
take-all (x ∷ l) zero h = absurd (omega (arith, h))
take-all (x ∷ l) (suc p) h = ap (λ k. x ∷ k) (take-all l p (omega (arith, h)))

-- where it leaves them, zeros follow
beyond-digits : (i f : List ℕ) (p : ℕ) → length i + length f ≤ p → shifted i f p ≡ digits_value 10 (i ++ f) * 10 ^ (p - length i - length f)
beyond-digits i f p le =
    let all : take p (i ++ f) ≡ i ++ f = take-all (i ++ f) p (omega (arith, le, length-append i f)) in
    ap (λ k. k * 10 ^ (p - length i - length f)) (joined i f p ∙ ap (digits_value 10) all)

-- ---- negative exponents

nothing : (i f : List ℕ) → shifted i f 0 ≡ 0
nothing i f =
    let none : 0 - length i ≡ 0 = omega arith in
    let zeros = 10 ^ (0 - length i - length f) in
    ap (λ k. digits_value_after 10 0 (take k f) * zeros) none ∙ omega arith

lowered : (i f : List ℕ) (e : ℕ) → AllDigits 10 i → AllDigits 10 f → shifted i f (length i - e) ≡ digits_value 10 (i ++ f) / 10 ^ (length f + e)
lowered i f e hi hf = at (cases_lt (length i) e)
  where
    at : (length i < e) ⊎ (e ≤ length i) → shifted i f (length i - e) ≡ digits_value 10 (i ++ f) / 10 ^ (length f + e)
    at (inr le) =
        let n : length i + length f - (length i - e) ≡ length f + e = omega (arith, le) in
        within-digits i f (length i - e) hi hf (omega (arith, le)) ∙ ap (λ k. digits_value 10 (i ++ f) / 10 ^ k) n
    at (inl lt) =
        let n : length i - e ≡ 0 = omega (arith, lt) in
        let small : digits_value 10 (i ++ f) < 10 ^ (length f + e) = omega (arith, digits_value-lt 10 (i ++ f) (append-digits i f hi hf), pow-le-pow_right {n = 10} (omega arith) {i = length (i ++ f)} {j = length f + e} (omega (arith, length-append i f, lt))) in
        ap (shifted i f) n ∙ nothing i f ∙ sym (div-eq_of_lt small)

-- ---- exponents that aren't

raised : (i f : List ℕ) (e : ℕ) → AllDigits 10 i → AllDigits 10 f → shifted i f (length i + e) ≡ digits_value 10 (i ++ f) * 10 ^ e / 10 ^ length f
raised i f e hi hf = at (cases_lt (length f) e)
  where
    d : ℕ
    d = digits_value 10 (i ++ f)

    at : (length f < e) ⊎ (e ≤ length f) → shifted i f (length i + e) ≡ digits_value 10 (i ++ f) * 10 ^ e / 10 ^ length f
    at (inr le) =
        let n : length i + length f - (length i + e) ≡ length f - e = omega arith in
        let power : 10 ^ length f ≡ 10 ^ (length f - e) * 10 ^ e = ap (λ k. 10 ^ k) (omega (arith, le)) ∙ pow-add 10 (length f - e) e in
        within-digits i f (length i + e) hi hf (omega (arith, le)) ∙ ap (λ k. d / 10 ^ k) n ∙ sym (mul-div-mul_right {m = 10 ^ e} d (10 ^ (length f - e)) (one-le-pow e 10 (omega arith))) ∙ ap (λ k. d * 10 ^ e / k) (sym power)
    at (inl lt) =
        let n : length i + e - length i - length f ≡ e - length f = omega arith in
        let power : 10 ^ e ≡ 10 ^ (e - length f) * 10 ^ length f = ap (λ k. 10 ^ k) (omega (arith, lt)) ∙ pow-add 10 (e - length f) (length f) in
        let whole : d * 10 ^ e ≡ d * 10 ^ (e - length f) * 10 ^ length f = ap (λ k. d * k) power ∙ omega arith in
        beyond-digits i f (length i + e) (omega (arith, lt)) ∙ ap (λ k. d * 10 ^ k) n ∙ sym (mul-div_cancel (d * 10 ^ (e - length f)) {n = 10 ^ length f} (one-le-pow (length f) 10 (omega arith))) ∙ ap (λ k. k / 10 ^ length f) (sym whole)

pub shifted-is : (i f : List ℕ) (negative : Bool) (e : ℕ) → AllDigits 10 i → AllDigits 10 f → shifted i f (point_of (length i) negative e) ≡ scaled i f negative e
shifted-is i f true e hi hf = lowered i f e hi hf
shifted-is i f false e hi hf = raised i f e hi hf

-- ---- the call's answers

too-many-before : (i f : List ℕ) (p : ℕ) → 2 ^ 128 ≤ digits_value_after 10 0 (take p i) → 2 ^ 128 ≤ shifted i f p
too-many-before i f p big =
    let t = digits_value_after 10 0 (take p i) in
    let u = digits_value_after 10 t (take (p - length i) f) in
    omega (arith, big, after-ge t (take (p - length i) f), le-mul_of_pos_right u (one-le-pow (p - length i - length f) 10 (omega arith)))

too-many-behind : (i f : List ℕ) (p : ℕ) → 2 ^ 128 ≤ digits_value_after 10 (digits_value_after 10 0 (take p i)) (take (p - length i) f) → 2 ^ 128 ≤ shifted i f p
too-many-behind i f p big =
    let u = digits_value_after 10 (digits_value_after 10 0 (take p i)) (take (p - length i) f) in
    omega (arith, big, le-mul_of_pos_right u (one-le-pow (p - length i - length f) 10 (omega arith)))

-- a quotient of a number that isn't 0 and many tens
large : (d n e : ℕ) → (d ≡ 0 → ⊥) → n + 39 ≤ e → 2 ^ 128 ≤ d * 10 ^ e / 10 ^ n
large d n e some far =
    let power : 10 ^ e ≡ 10 ^ (e - n) * 10 ^ n = ap (λ k. 10 ^ k) (omega (arith, far)) ∙ pow-add 10 (e - n) n in
    let whole : d * 10 ^ e ≡ d * 10 ^ (e - n) * 10 ^ n = ap (λ k. d * k) power ∙ omega arith in
    let quotient : d * 10 ^ e / 10 ^ n ≡ d * 10 ^ (e - n) = ap (λ k. k / 10 ^ n) whole ∙ mul-div_cancel (d * 10 ^ (e - n)) {n = 10 ^ n} (one-le-pow n 10 (omega arith)) in
    omega (arith, quotient, many-zeros d (e - n) some (omega (arith, far)))

small : (d n e : ℕ) → d < 10 ^ n → n ≤ e → d / 10 ^ e ≡ 0
small d n e lt le = div-eq_of_lt (omega (arith, lt, pow-le-pow_right {n = 10} (omega arith) {i = n} {j = e} le))

-- no exponent from 2 ^ 64 - 1 on is told from another
saturated : (r : Option ℕ) (i f : List ℕ) (negative : Bool) (p v : ℕ) → AllDigits 10 i → AllDigits 10 f → length i < 2 ^ 63 → length f < 2 ^ 63 → 2 ^ 64 - 1 ≤ p → 2 ^ 64 - 1 ≤ v → Counts r (scaled i f negative p) → Counts r (scaled i f negative v)
saturated r i f true p v hi hf li lf far out h =
    let d = digits_value-lt 10 (i ++ f) (append-digits i f hi hf) in
    let n = length-append i f in
    let one = small (digits_value 10 (i ++ f)) (length (i ++ f)) (length f + p) d (omega (arith, n, li, far)) in
    let other = small (digits_value 10 (i ++ f)) (length (i ++ f)) (length f + v) d (omega (arith, n, li, out)) in
    subst (Counts r) (one ∙ sym other) h
saturated r i f false p v hi hf li lf far out h = at (cases_eq (digits_value 10 (i ++ f)) 0)
  where
    d : ℕ
    d = digits_value 10 (i ++ f)

    both : (r : Option ℕ) (m n : ℕ) → 2 ^ 128 ≤ m → 2 ^ 128 ≤ n → Counts r m → Counts r n
    both None m n j k h = k
    both (Some x) m n j k h = absurd (omega (arith, j, h.1))

    at : (d ≡ 0) ⊎ (d ≡ 0 → ⊥) → Counts r (d * 10 ^ v / 10 ^ length f)
    at (inl none) =
        let same : d * 10 ^ p / 10 ^ length f ≡ d * 10 ^ v / 10 ^ length f = ap (λ k. k / 10 ^ length f) (ap (λ k. k * 10 ^ p) none ∙ omega arith ∙ sym (ap (λ k. k * 10 ^ v) none)) in
        subst (Counts r) same h
    at (inr some) = both r (d * 10 ^ p / 10 ^ length f) (d * 10 ^ v / 10 ^ length f) (large d (length f) p some (omega (arith, lf, far))) (large d (length f) v some (omega (arith, lf, out))) h

told : (r : Option ℕ) (i f : List ℕ) (negative : Bool) (p v : ℕ) → AllDigits 10 i → AllDigits 10 f → length i < 2 ^ 63 → length f < 2 ^ 63 → p ≡ min v (2 ^ 64 - 1) → Counts r (scaled i f negative p) → Counts r (scaled i f negative v)
told r i f negative p v hi hf li lf e h = at (cases_lt v (2 ^ 64))
  where
    at : (v < 2 ^ 64) ⊎ (2 ^ 64 ≤ v) → Counts r (scaled i f negative v)
    at (inl lt) = let same : p ≡ v = omega (arith, e, lt) in subst (λ k. Counts r (scaled i f negative k)) same h
    at (inr le) = saturated r i f negative p v hi hf li lf (omega (arith, e, le)) (omega (arith, le)) h

-- the call's parameters
pub record Given (i f : List ℕ) (negative : Bool) (power point : ℕ) : Type 0 where
  pub integer : AllDigits 10 i
  pub fraction : AllDigits 10 f
  pub before : length i < 2 ^ 63
  pub behind : length f < 2 ^ 63
  pub moved : point ≡ point_of (length i) negative power

answer : (r : Option ℕ) (i f : List ℕ) (negative : Bool) (power point v : ℕ) → Given i f negative power point → power ≡ min v (2 ^ 64 - 1) → Counts r (shifted i f point) → Counts r (scaled i f negative v)
answer r i f negative power point v g e h =
    told r i f negative power v g.integer g.fraction g.before g.behind e (subst (Counts r) (ap (shifted i f) g.moved ∙ shifted-is i f negative power g.integer g.fraction) h)

pub none-before : (r : Option ℕ) (i f : List ℕ) (negative : Bool) (power point v : ℕ) → Given i f negative power point → power ≡ min v (2 ^ 64 - 1) → r ≡ None → (a : List ℕ) → a ≡ take point i → 2 ^ 128 ≤ digits_value_after 10 0 a → Counts r (scaled i f negative v)
none-before r i f negative power point v g e none a ea big =
    subst (λ o. Counts o (scaled i f negative v)) (sym none) (answer None i f negative power point v g e (too-many-before i f point (subst (λ k. 2 ^ 128 ≤ digits_value_after 10 0 k) ea big)))

pub none-behind : (r : Option ℕ) (i f : List ℕ) (negative : Bool) (power point v : ℕ) → Given i f negative power point → power ≡ min v (2 ^ 64 - 1) → r ≡ None → (a b : List ℕ) (t n : ℕ) → a ≡ take point i → t ≡ digits_value_after 10 0 a → n ≡ point - length i → b ≡ take n f → 2 ^ 128 ≤ digits_value_after 10 t b → Counts r (scaled i f negative v)
none-behind r i f negative power point v g e none a b t n ea et en eb big =
    let t' : t ≡ digits_value_after 10 0 (take point i) = et ∙ ap (digits_value_after 10 0) ea in
    let b' : b ≡ take (point - length i) f = eb ∙ ap (λ k. take k f) en in
    let big' : 2 ^ 128 ≤ digits_value_after 10 (digits_value_after 10 0 (take point i)) (take (point - length i) f) = subst (λ k. 2 ^ 128 ≤ digits_value_after 10 k (take (point - length i) f)) t' (subst (λ k. 2 ^ 128 ≤ digits_value_after 10 t k) b' big) in
    subst (λ o. Counts o (scaled i f negative v)) (sym none) (answer None i f negative power point v g e (too-many-behind i f point big'))

pub counted : (r : Option ℕ) (i f : List ℕ) (negative : Bool) (power point v : ℕ) → Given i f negative power point → power ≡ min v (2 ^ 64 - 1) → (a b : List ℕ) (t u n z : ℕ) → a ≡ take point i → t ≡ digits_value_after 10 0 a → n ≡ point - length i → b ≡ take n f → u ≡ digits_value_after 10 t b → z ≡ n - length f → Counts r (u * 10 ^ z) → Counts r (scaled i f negative v)
counted r i f negative power point v g e a b t u n z ea et en eb eu ez h =
    let t' : t ≡ digits_value_after 10 0 (take point i) = et ∙ ap (digits_value_after 10 0) ea in
    let b' : b ≡ take (point - length i) f = eb ∙ ap (λ k. take k f) en in
    let u' : u ≡ digits_value_after 10 (digits_value_after 10 0 (take point i)) (take (point - length i) f) = eu ∙ ap (λ k. digits_value_after 10 k b) t' ∙ ap (digits_value_after 10 (digits_value_after 10 0 (take point i))) b' in
    let z' : z ≡ point - length i - length f = ez ∙ ap (λ k. k - length f) en in
    let same : u * 10 ^ z ≡ shifted i f point = ap (λ k. k * 10 ^ z) u' ∙ ap (λ k. digits_value_after 10 (digits_value_after 10 0 (take point i)) (take (point - length i) f) * 10 ^ k) z' in
    answer r i f negative power point v g e (subst (Counts r) same h)
