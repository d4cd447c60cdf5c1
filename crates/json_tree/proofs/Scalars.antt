-- Strings and values without brackets are read exactly as they are encoded.
use Rattle.std.proofs.Common.{◌≡◌, ◌⊎◌, inl, inr, ℕ, zero, suc, ◌<◌, ◌≤◌, Bool, true, false, not, cond, eqb, ◌||◌, List, [], ◌∷◌, ◌++◌, length, Option, Some, None, refl, sym, ap, ◌∙◌, subst, append_assoc, arith}
use Rattle.std.proofs.lemmas.Bool.Decides.{nat_tests}
use Rattle.std.proofs.lemmas.Bool.{true≢false, eq-eqb, and_parts}
use Rattle.std.proofs.lemmas.List.{append-nil, length-append}
use Rattle.std.specs.Char.{encode_utf8}
use Rattle.std.specs.Prelude.{nat_le}
use Rattle.json_tree.specs.Tree.{Json, null, boolean, number, string}
use Rattle.json_tree.specs.Grammar.{Each, is_space, is_digit, is_exponent_mark, IsMinus, IsInteger, Digits, IsFraction, IsSign, IsExponent, IsNumber, Quoted, Scalar, text_null, text_true, text_false}
use Rattle.arrow_base.specs.JsonString.{is_unescaped, short_escape, hexadecimal, IsUnicodeEscape, IsSurrogatePair, IsChar, Chars, no_chars, one_char}
use Rattle.std.specs.Char.Utf16.{is_high_surrogate, is_low_surrogate, surrogate_pair_char}
use Rattle.json_tree.specs.Reading.{Outcome, found, wrong, deep, bind, on_first, prefix, after, digits_at, int_at, minus_at, frac_at, sign_at, exp_at, number_at, strip, if_some, unit_at, low_at, unicode_at, escape_at, char_at, chars_at, string_at, scalar_at}
use Rattle.json_tree.proofs.ListLaws.{Sound, wrong-found, found_parts, bind_found, wrong-deep, found-deep}

-- what may follow a number
unfoldable pub ends : List ℕ → Bool
ends b = on_first true (λ x t. not (is_digit x || (eqb x 46 || is_exponent_mark x))) b

-- how a value begins
abbrev pub Starts : List ℕ → Type 0
Starts b = (y : ℕ) × (t : List ℕ) × (b ≡ y ∷ t) × (is_space y ≡ false) × (eqb y 93 ≡ false) × (eqb y 125 ≡ false)

abbrev pub StartsScalar : List ℕ → Type 0
StartsScalar b = (y : ℕ) × (t : List ℕ) × (b ≡ y ∷ t) × (is_space y ≡ false) × (eqb y 93 ≡ false) × (eqb y 125 ≡ false) × (eqb y 91 ≡ false) × (eqb y 123 ≡ false)

-- ---- tests

or_true : (x y : Bool) → (x || y) ≡ true → (x ≡ true) ⊎ (y ≡ true)
or_true true y e = inl refl
or_true false y e = inr e

or_false : (x y : Bool) → (x || y) ≡ false → (x ≡ false) × (y ≡ false)
or_false true y e = absurd (true≢false e)
or_false false y e = (refl, e)

pub not_true : (x : Bool) → not x ≡ true → x ≡ false
not_true true e = absurd (true≢false (sym e))
not_true false e = refl

pub digit-bounds : (x : ℕ) → is_digit x ≡ true → (48 ≤ x) × (x ≤ 57)
unfolding is_digit
digit-bounds x e =
    let p = and_parts (nat_le 48 x) (nat_le x 57) e in
    let a : 48 ≤ x = grind (arith, nat_tests, p.0) in
    let b : x ≤ 57 = grind (arith, nat_tests, p.1) in
    (a, b)

abbrev pub Among : ℕ → Type 0
Among x = (x ≡ 32) ⊎ ((x ≡ 9) ⊎ ((x ≡ 10) ⊎ (x ≡ 13)))

pub space-among : (x : ℕ) → is_space x ≡ true → Among x
unfolding is_space
space-among x e = a (or_true (eqb x 32 || eqb x 9 || eqb x 10) (eqb x 13) e)
  where
    c : (eqb x 32 ≡ true) ⊎ (eqb x 9 ≡ true) → Among x
    c (inl h) = let is : x ≡ 32 = grind (arith, nat_tests) in inl is
    c (inr h) = let is : x ≡ 9 = grind (arith, nat_tests) in inr (inl is)

    b : ((eqb x 32 || eqb x 9) ≡ true) ⊎ (eqb x 10 ≡ true) → Among x
    b (inl h) = c (or_true (eqb x 32) (eqb x 9) h)
    b (inr h) = let is : x ≡ 10 = grind (arith, nat_tests) in inr (inr (inl is))

    a : ((eqb x 32 || eqb x 9 || eqb x 10) ≡ true) ⊎ (eqb x 13 ≡ true) → Among x
    a (inl h) = b (or_true (eqb x 32 || eqb x 9) (eqb x 10) h)
    a (inr h) = let is : x ≡ 13 = grind (arith, nat_tests) in inr (inr (inr is))

-- white space ends a number
pub space-ends : (x : ℕ) (t : List ℕ) → is_space x ≡ true → ends (x ∷ t) ≡ true
unfolding ends is_digit
space-ends x t e = at (space-among x e)
  where
    at : Among x → ends (x ∷ t) ≡ true
    at (inl h) = rw h refl
    at (inr (inl h)) = rw h refl
    at (inr (inr (inl h))) = rw h refl
    at (inr (inr (inr h))) = rw h refl

-- ---- nothing without brackets is too deep

abbrev Never : {A : Type 0} → Outcome A → Type 0
Never o = o ≡ deep → ⊥

never-cond : {A : Type 0} (b : Bool) (o p : Outcome A) → Never o → Never p → Never (cond b o p)
never-cond true o p h k = h
never-cond false o p h k = k

never-bind : {A B : Type 0} (o : Outcome A) (k : A → List ℕ → Outcome B) → Never o → ((x : A) (r : List ℕ) → Never (k x r)) → Never (bind o k)
never-bind (found x r) k h n = n x r
never-bind wrong k h n = wrong-deep
never-bind deep k h n = λ e. h refl

never-first : {A : Type 0} (f : ℕ → List ℕ → Outcome A) (b : List ℕ) → ((x : ℕ) (t : List ℕ) → Never (f x t)) → Never (on_first wrong f b)
never-first f [] h = wrong-deep
never-first f (x ∷ t) h = h x t

never-some : {A : Type 0} (o : Option A) (t : List ℕ) → Never (if_some o t)
never-some None t = wrong-deep
never-some (Some x) t = found-deep x t

never-strip : (es b : List ℕ) → Never (strip es b)
unfolding strip
never-strip [] b = found-deep tt b
never-strip (e ∷ es) [] = wrong-deep
never-strip (e ∷ es) (x ∷ t) = never-cond (eqb x e) (strip es t) wrong (never-strip es t) wrong-deep

never-unit : (b : List ℕ) → Never (unit_at b)
unfolding unit_at
never-unit [] = wrong-deep
never-unit (h ∷ []) = wrong-deep
never-unit (h ∷ i ∷ []) = wrong-deep
never-unit (h ∷ i ∷ j ∷ []) = wrong-deep
never-unit (h ∷ i ∷ j ∷ k ∷ t) = never-some (hexadecimal h i j k) t

never-char : (b : List ℕ) → Never (char_at b)
unfolding char_at escape_at unicode_at low_at
never-char [] = wrong-deep
never-char (x ∷ []) = never-cond (is_unescaped x) _ _ (found-deep (x ∷ []) []) (never-cond (eqb x 92) wrong wrong wrong-deep wrong-deep)
never-char (x ∷ y ∷ t) =
    never-cond (is_unescaped x) _ _ (found-deep (x ∷ []) (y ∷ t)) (never-cond (eqb x 92) _ _ (never-cond (eqb y 117) _ _
    (never-bind (unit_at t) _ (never-unit t) (λ u r. never-cond (is_high_surrogate u) _ _
    (never-bind (strip (92 ∷ 117 ∷ []) r) _ (never-strip (92 ∷ 117 ∷ []) r) (λ _ q. never-bind (unit_at q) _ (never-unit q) (λ v p. never-cond (is_low_surrogate v) _ _ (found-deep (encode_utf8 (surrogate_pair_char u v)) p) wrong-deep)))
    (never-cond (is_low_surrogate u) _ _ wrong-deep (found-deep (encode_utf8 u) r))))
    (never-bind (if_some (short_escape y) t) _ (never-some (short_escape y) t) (λ c r. found-deep (c ∷ []) r))) wrong-deep)

never-chars : (n : ℕ) (old b : List ℕ) → Never (chars_at n old b)
unfolding chars_at
never-chars zero old b = wrong-deep
never-chars (suc n) old b = never-first (λ x t. cond (eqb x 34) (found old t) (bind (char_at b) (λ c r. chars_at n (old ++ c) r))) b (λ x t. never-cond (eqb x 34) (found old t) (bind (char_at b) (λ c r. chars_at n (old ++ c) r)) (found-deep old t) (never-bind (char_at b) (λ c r. chars_at n (old ++ c) r) (never-char b) (λ c r. never-chars n (old ++ c) r)))

pub string-deep : (b : List ℕ) → string_at b ≡ deep → ⊥
unfolding string_at
string-deep b = never-first (λ x t. cond (eqb x 34) (chars_at (length b) [] t) wrong) b (λ x t. never-cond (eqb x 34) (chars_at (length b) [] t) wrong (never-chars (length b) [] t) wrong-deep)

never-digits : (b : List ℕ) → Never (digits_at b)
unfolding digits_at
never-digits [] = wrong-deep
never-digits (x ∷ t) = never-cond (is_digit x) _ _ (found-deep (x ∷ prefix is_digit t) (after is_digit t)) wrong-deep

never-int : (b : List ℕ) → Never (int_at b)
unfolding int_at
never-int [] = wrong-deep
never-int (x ∷ t) = never-cond (eqb x 48) _ _ (found-deep (48 ∷ []) t) (never-digits (x ∷ t))

never-minus : (b : List ℕ) → Never (minus_at b)
unfolding minus_at
never-minus [] = found-deep [] []
never-minus (x ∷ t) = never-cond (eqb x 45) _ _ (found-deep (45 ∷ []) t) (found-deep [] (x ∷ t))

never-sign : (b : List ℕ) → Never (sign_at b)
unfolding sign_at
never-sign [] = found-deep [] []
never-sign (x ∷ t) = never-cond (eqb x 45) _ _ (found-deep (45 ∷ []) t) (never-cond (eqb x 43) _ _ (found-deep (43 ∷ []) t) (found-deep [] (x ∷ t)))

never-frac : (b : List ℕ) → Never (frac_at b)
unfolding frac_at
never-frac [] = found-deep [] []
never-frac (x ∷ t) = never-cond (eqb x 46) _ _ (never-bind (digits_at t) _ (never-digits t) (λ ds r. found-deep (46 ∷ ds) r)) (found-deep [] (x ∷ t))

never-exp : (b : List ℕ) → Never (exp_at b)
unfolding exp_at
never-exp [] = found-deep [] []
never-exp (x ∷ t) = never-cond (is_exponent_mark x) _ _ (never-bind (sign_at t) _ (never-sign t) (λ s r. never-bind (digits_at r) _ (never-digits r) (λ ds q. found-deep (s ++ ds) q))) (found-deep [] (x ∷ t))

never-number : (b : List ℕ) → Never (number_at b)
unfolding number_at
never-number b = never-bind (minus_at b) _ (never-minus b) (λ s r. never-bind (int_at r) _ (never-int r) (λ i q. never-bind (frac_at q) _ (never-frac q) (λ f p. never-bind (exp_at p) _ (never-exp p) (λ e o. found-deep (number (s ++ (i ++ f)) e) o))))

pub scalar-deep : (b : List ℕ) → scalar_at b ≡ deep → ⊥
unfolding scalar_at
scalar-deep [] = wrong-deep
scalar-deep (x ∷ t) =
    let b = x ∷ t in
    never-cond (eqb x 34) _ _ (never-bind (string_at b) _ (string-deep b) (λ s r. found-deep (string s) r))
    (never-cond (eqb x 110) _ _ (never-bind (strip text_null b) _ (never-strip text_null b) (λ _ r. found-deep null r))
    (never-cond (eqb x 116) _ _ (never-bind (strip text_true b) _ (never-strip text_true b) (λ _ r. found-deep (boolean true) r))
    (never-cond (eqb x 102) _ _ (never-bind (strip text_false b) _ (never-strip text_false b) (λ _ r. found-deep (boolean false) r)) (never-number b))))

-- ---- fixed texts

pub strip-sound : (es b r : List ℕ) (u : Unit {0}) → strip es b ≡ found u r → b ≡ es ++ r
unfolding strip
strip-sound [] b r u e = (found_parts tt u b r e).1
strip-sound (x ∷ es) [] r u e = absurd (wrong-found u r e)
strip-sound (x ∷ es) (y ∷ t) r u e = tested (λ k. strip-sound es t r u k) (eqb y x) refl e
  where
    tested : (strip es t ≡ found u r → t ≡ es ++ r) → (v : Bool) → eqb y x ≡ v → cond {A = Outcome (Unit {0})} v (strip es t) wrong ≡ found u r → y ∷ t ≡ x ∷ (es ++ r)
    tested again true q e = let is : y ≡ x = grind (arith, nat_tests) in ap (λ l. y ∷ l) (again e) ∙ ap (λ z. z ∷ (es ++ r)) is
    tested again false q e = absurd (wrong-found u r e)

pub strip-complete : (es r : List ℕ) → strip es (es ++ r) ≡ found tt r
unfolding strip
strip-complete [] r = refl
strip-complete (x ∷ es) r = rw (eq-eqb x x refl) (strip-complete es r)

pub strip-other : (es b : List ℕ) → ((r : List ℕ) → b ≡ es ++ r → ⊥) → strip es b ≡ wrong
unfolding strip
strip-other [] b h = absurd (h b refl)
strip-other (x ∷ es) [] h = refl
strip-other (x ∷ es) (y ∷ t) h = tested (λ k. strip-other es t k) (eqb y x) refl
  where
    tested : (((r : List ℕ) → t ≡ es ++ r → ⊥) → strip es t ≡ wrong) → (v : Bool) → eqb y x ≡ v → cond {A = Outcome (Unit {0})} v (strip es t) wrong ≡ wrong
    tested again true q = let is : y ≡ x = grind (arith, nat_tests) in again (λ r e. h r (ap (λ l. y ∷ l) e ∙ ap (λ z. z ∷ (es ++ r)) is))
    tested again false q = refl

-- ---- strings

some-found : {A : Type 0} (o : Option A) (t r : List ℕ) (x : A) → if_some o t ≡ found x r → (o ≡ Some x) × (t ≡ r)
some-found None t r x e = absurd (wrong-found x r e)
some-found (Some y) t r x e = let p = found_parts y x t r e in (ap Some p.0, p.1)

abbrev Hex : ℕ → List ℕ → List ℕ → Type 0
Hex u b r = (h : ℕ) × (i : ℕ) × (j : ℕ) × (k : ℕ) × (hexadecimal h i j k ≡ Some u) × (b ≡ h ∷ i ∷ j ∷ k ∷ r)

unit-sound : (b r : List ℕ) (u : ℕ) → unit_at b ≡ found u r → Hex u b r
unfolding unit_at
unit-sound [] r u e = absurd (wrong-found u r e)
unit-sound (h ∷ []) r u e = absurd (wrong-found u r e)
unit-sound (h ∷ i ∷ []) r u e = absurd (wrong-found u r e)
unit-sound (h ∷ i ∷ j ∷ []) r u e = absurd (wrong-found u r e)
unit-sound (h ∷ i ∷ j ∷ k ∷ t) r u e = let s = some-found (hexadecimal h i j k) t r u e in (h, i, j, k, s.0, ap (λ l. h ∷ i ∷ j ∷ k ∷ l) s.1)

-- after a backslash
abbrev Escaped : List ℕ → List ℕ → List ℕ → Type 0
Escaped c t r = (p : List ℕ) × IsChar (92 ∷ p) c × (t ≡ p ++ r)

unicode-sound : (t r c : List ℕ) → unicode_at t ≡ found c r → Escaped c (117 ∷ t) r
unfolding unicode_at low_at
unicode-sound t r c e = let u = bind_found (unit_at t) (λ u r. cond (is_high_surrogate u) (low_at u r) (cond (is_low_surrogate u) wrong (found (encode_utf8 u) r))) c r e in tested u.0 u.1 (unit-sound t u.1 u.0 u.2) (is_high_surrogate u.0) (is_low_surrogate u.0) refl refl u.3
  where
    low : (u v : ℕ) (q p : List ℕ) → Hex u t (92 ∷ 117 ∷ q) → is_high_surrogate u ≡ true → Hex v q p → (w : Bool) → is_low_surrogate v ≡ w → cond w (found (encode_utf8 (surrogate_pair_char u v)) p) wrong ≡ found c r → Escaped c (117 ∷ t) r
    low u v q p x hi y true lo e =
        let f = found_parts (encode_utf8 (surrogate_pair_char u v)) c p r e in
        let a = 92 ∷ 117 ∷ x.0 ∷ x.1 ∷ x.2 ∷ x.3 ∷ [] in
        let b = 92 ∷ 117 ∷ y.0 ∷ y.1 ∷ y.2 ∷ y.3 ∷ [] in
        let is : IsSurrogatePair (a ++ b) c = (a, b, u, v, refl, (x.0, x.1, x.2, x.3, refl, x.4), (y.0, y.1, y.2, y.3, refl, y.4), sym f.0, hi, lo) in
        (117 ∷ x.0 ∷ x.1 ∷ x.2 ∷ x.3 ∷ b, inr (inr (inr is)), ap (λ l. 117 ∷ l) (x.5 ∙ ap (λ l. x.0 ∷ x.1 ∷ x.2 ∷ x.3 ∷ 92 ∷ 117 ∷ l) (y.5 ∙ ap (λ l. y.0 ∷ y.1 ∷ y.2 ∷ y.3 ∷ l) f.1)))
    low u v q p x hi y false lo e = absurd (wrong-found c r e)

    tested : (u : ℕ) (q : List ℕ) → Hex u t q → (w x : Bool) → is_high_surrogate u ≡ w → is_low_surrogate u ≡ x → cond w (low_at u q) (cond x wrong (found (encode_utf8 u) q)) ≡ found c r → Escaped c (117 ∷ t) r
    tested u q h true x hi lo e =
        let s = bind_found (strip (92 ∷ 117 ∷ []) q) (λ _ r. bind (unit_at r) (λ v q. cond (is_low_surrogate v) (found (encode_utf8 (surrogate_pair_char u v)) q) wrong)) c r e in
        let k = bind_found (unit_at s.1) (λ v q. cond (is_low_surrogate v) (found (encode_utf8 (surrogate_pair_char u v)) q) wrong) c r s.3 in
        let cut = strip-sound (92 ∷ 117 ∷ []) q s.1 s.0 s.2 in
        low u k.0 s.1 k.1 (h.0, h.1, h.2, h.3, h.4, h.5 ∙ ap (λ l. h.0 ∷ h.1 ∷ h.2 ∷ h.3 ∷ l) cut) hi (unit-sound s.1 k.1 k.0 k.2) (is_low_surrogate k.0) refl k.3
    tested u q h false true hi lo e = absurd (wrong-found c r e)
    tested u q h false false hi lo e =
        let f = found_parts (encode_utf8 u) c q r e in
        let is : IsUnicodeEscape (92 ∷ 117 ∷ h.0 ∷ h.1 ∷ h.2 ∷ h.3 ∷ []) c = (u, (h.0, h.1, h.2, h.3, refl, h.4), sym f.0, hi, lo) in
        (117 ∷ h.0 ∷ h.1 ∷ h.2 ∷ h.3 ∷ [], inr (inr (inl is)), ap (λ l. 117 ∷ l) (h.5 ∙ ap (λ l. h.0 ∷ h.1 ∷ h.2 ∷ h.3 ∷ l) f.1))

escape-sound : (t r c : List ℕ) → escape_at t ≡ found c r → Escaped c t r
unfolding escape_at
escape-sound [] r c e = absurd (wrong-found c r e)
escape-sound (x ∷ t) r c e = tested (eqb x 117) refl e
  where
    tested : (w : Bool) → eqb x 117 ≡ w → cond w (unicode_at t) (bind (if_some (short_escape x) t) (λ c r. found (c ∷ []) r)) ≡ found c r → Escaped c (x ∷ t) r
    tested true q e = let is : x ≡ 117 = grind (arith, nat_tests) in let u = unicode-sound t r c e in (u.0, u.1, ap (λ y. y ∷ t) is ∙ u.2)
    tested false q e =
        let k = bind_found (if_some (short_escape x) t) (λ c r. found (c ∷ []) r) c r e in
        let s = some-found (short_escape x) t k.1 k.0 k.2 in
        let f = found_parts (k.0 ∷ []) c k.1 r k.3 in
        (x ∷ [], inr (inl (x, k.0, refl, sym f.0, s.0)), ap (λ l. x ∷ l) (s.1 ∙ f.1))

char-sound : Sound char_at (λ c a. IsChar a c)
unfolding char_at
char-sound [] r c e = absurd (wrong-found c r e)
char-sound (x ∷ t) r c e = tested (is_unescaped x) (eqb x 92) refl refl e
  where
    tested : (v w : Bool) → is_unescaped x ≡ v → eqb x 92 ≡ w → cond v (found (x ∷ []) t) (cond w (escape_at t) wrong) ≡ found c r → (a : List ℕ) × IsChar a c × (x ∷ t ≡ a ++ r)
    tested true w p q e = let f = found_parts (x ∷ []) c t r e in (x ∷ [], inl (x, refl, sym f.0, p), ap (λ l. x ∷ l) f.1)
    tested false true p q e = let is : x ≡ 92 = grind (arith, nat_tests) in let k = escape-sound t r c e in (92 ∷ k.0, k.1, ap (λ l. x ∷ l) k.2 ∙ ap (λ y. y ∷ (k.0 ++ r)) is)
    tested false false p q e = absurd (wrong-found c r e)

short-u : short_escape 117 ≡ None
unfolding short_escape
short-u = refl

abbrev is_some : {A : Type 0} → Option A → Bool
is_some None = false
is_some (Some x) = true

pub some-none : {A : Type 0} (x : A) → ◌≡◌ {A = Option A} None (Some x) → ⊥
some-none x e = true≢false (sym (ap is_some e))

char-complete : (c p r : List ℕ) → IsChar p c → char_at (p ++ r) ≡ found c r
unfolding char_at escape_at unicode_at low_at unit_at strip is_unescaped
char-complete c p r (inl h) = let q : is_unescaped h.0 ≡ true = h.3 in rw (h.1, q, h.2) refl
char-complete c p r (inr (inl h)) = rw (h.2, h.3) (tested (eqb h.0 117) refl)
  where
    tested : (w : Bool) → eqb h.0 117 ≡ w → cond w (unicode_at r) (bind (if_some (short_escape h.0) r) (λ c q. found (c ∷ []) q)) ≡ found (h.1 ∷ []) r
    tested true q = let is : h.0 ≡ 117 = grind (arith, nat_tests) in absurd (some-none h.1 (sym short-u ∙ ap short_escape (sym is) ∙ h.4))
    tested false q = rw h.4 refl
char-complete c p r (inr (inr (inl h))) = let u = h.1 in rw (u.4, u.5, h.3, h.4, h.2) refl
char-complete c p r (inr (inr (inr h))) = let u = h.5 in let v = h.6 in rw (h.4, u.4, v.4, u.5, h.8, v.5, h.9, h.7) refl

-- no character begins with a quote
char-first : (c p : List ℕ) → IsChar p c → (y : ℕ) × (t : List ℕ) × (p ≡ y ∷ t) × (eqb y 34 ≡ false)
unfolding is_unescaped
char-first c p (inl h) = let a = and_parts _ _ h.3 in let b = and_parts _ _ a.1 in (h.0, [], h.1, not_true _ b.0)
char-first c p (inr (inl h)) = (92, h.0 ∷ [], h.2, refl)
char-first c p (inr (inr (inl h))) = let u = h.1 in (92, 117 ∷ u.0 ∷ u.1 ∷ u.2 ∷ u.3 ∷ [], u.4, refl)
char-first c p (inr (inr (inr h))) = let u = h.5 in (92, (117 ∷ u.0 ∷ u.1 ∷ u.2 ∷ u.3 ∷ []) ++ h.1, h.4 ∙ ap (λ l. l ++ h.1) u.4, refl)

abbrev Content : List ℕ → List ℕ → List ℕ → List ℕ → Type 0
Content old s b r = (p : List ℕ) × (d : List ℕ) × Chars p d × (s ≡ old ++ d) × (b ≡ p ++ 34 ∷ r)

chars-sound : (n : ℕ) (old b r s : List ℕ) → chars_at n old b ≡ found s r → Content old s b r
unfolding chars_at
chars-sound zero old b r s e = absurd (wrong-found s r e)
chars-sound (suc n) old [] r s e = absurd (wrong-found s r e)
chars-sound (suc n) old (x ∷ t) r s e = tested (λ o b k. chars-sound n o b r s k) (eqb x 34) refl e
  where
    tested : ((o b : List ℕ) → chars_at n o b ≡ found s r → Content o s b r) → (v : Bool) → eqb x 34 ≡ v → cond v (found old t) (bind (char_at (x ∷ t)) (λ c r. chars_at n (old ++ c) r)) ≡ found s r → Content old s (x ∷ t) r
    tested again true q e =
        let f = found_parts old s t r e in
        let is : x ≡ 34 = grind (arith, nat_tests) in
        ([], [], no_chars, sym f.0 ∙ sym (append-nil old), ap (λ l. x ∷ l) f.1 ∙ ap (λ y. y ∷ r) is)
    tested again false q e =
        let k = bind_found (char_at (x ∷ t)) (λ c r. chars_at n (old ++ c) r) s r e in
        let one = char-sound (x ∷ t) k.1 k.0 k.2 in
        let more = again (old ++ k.0) k.1 k.3 in
        (one.0 ++ more.0, k.0 ++ more.1, one_char one.0 k.0 more.0 more.1 one.1 more.2 refl refl, more.3 ∙ append_assoc old k.0 more.1, one.2 ∙ ap (λ l. one.0 ++ l) more.4 ∙ sym (append_assoc one.0 more.0 (34 ∷ r)))

chars-complete : {p d : List ℕ} → Chars p d → (n : ℕ) (old r : List ℕ) → length p < n → chars_at n old (p ++ 34 ∷ r) ≡ found (old ++ d) r
unfolding chars_at
chars-complete (no_chars) zero old r l = absurd (omega (arith, l))
chars-complete (no_chars) (suc n) old r l = rw (append-nil old) refl
chars-complete (one_char {bytes = b} {text = s} p c q d one more eb es) zero old r l = absurd (omega (arith, l))
chars-complete (one_char {bytes = b} {text = s} p c q d one more eb es) (suc n) old r l =
    let f = char-first c p one in
    let apart : b ++ 34 ∷ r ≡ p ++ (q ++ 34 ∷ r) = ap (λ l. l ++ 34 ∷ r) eb ∙ append_assoc p q (34 ∷ r) in
    let rest = chars-complete more n (old ++ c) r (omega (arith, l, ap length eb, length-append p q, ap length f.2)) in
    rw (apart, char-complete c p (q ++ 34 ∷ r) one, f.2, f.3, es, rest) (ap (λ l. found l r) (append_assoc old c d))

pub string-sound : Sound string_at Quoted
unfolding string_at
string-sound [] r s e = absurd (wrong-found s r e)
string-sound (x ∷ t) r s e = tested (eqb x 34) refl e
  where
    tested : (v : Bool) → eqb x 34 ≡ v → cond v (chars_at (length (x ∷ t)) [] t) wrong ≡ found s r → (a : List ℕ) × Quoted s a × (x ∷ t ≡ a ++ r)
    tested true q e =
        let is : x ≡ 34 = grind (arith, nat_tests) in
        let k = chars-sound (length (x ∷ t)) [] t r s e in
        (34 ∷ (k.0 ++ 34 ∷ []), subst (λ d. Quoted d (34 ∷ (k.0 ++ 34 ∷ []))) (sym k.3) (k.0, refl, k.2), ap (λ l. x ∷ l) k.4 ∙ ap (λ y. y ∷ (k.0 ++ 34 ∷ r)) is ∙ ap (λ l. 34 ∷ l) (sym (append_assoc k.0 (34 ∷ []) r)))
    tested false q e = absurd (wrong-found s r e)

pub string-complete : (s a r : List ℕ) → Quoted s a → string_at (a ++ r) ≡ found s r
unfolding string_at
string-complete s a r h =
    let apart : a ++ r ≡ 34 ∷ (h.0 ++ 34 ∷ r) = ap (λ l. l ++ r) h.1 ∙ ap (λ l. 34 ∷ l) (append_assoc h.0 (34 ∷ []) r) in
    rw apart (chars-complete h.2 (length (34 ∷ (h.0 ++ 34 ∷ r))) [] r (omega (arith, length-append h.0 (34 ∷ r))))

-- ---- numbers

abbrev pub head_or : ℕ → List ℕ → ℕ
head_or d [] = d
head_or d (x ∷ t) = x

prefix-cut : (p : ℕ → Bool) (b : List ℕ) → Each p (prefix p b) × (b ≡ prefix p b ++ after p b)
unfolding prefix after
prefix-cut p [] = (tt, refl)
prefix-cut p (x ∷ t) = tested (prefix-cut p t) (p x) refl
  where
    tested : Each p (prefix p t) × (t ≡ prefix p t ++ after p t) → (v : Bool) → p x ≡ v → Each p (cond v (x ∷ prefix p t) []) × (x ∷ t ≡ cond v (x ∷ prefix p t) [] ++ cond v (after p t) (x ∷ t))
    tested h true e = ((e, h.0), ap (λ l. x ∷ l) h.1)
    tested h false e = (tt, refl)

-- the first byte is not such a one
abbrev Ends : (ℕ → Bool) → List ℕ → Type 0
Ends p b = on_first true (λ x t. not (p x)) b ≡ true

prefix-complete : (p : ℕ → Bool) (a r : List ℕ) → Each p a → Ends p r → (prefix p (a ++ r) ≡ a) × (after p (a ++ r) ≡ r)
unfolding prefix after
prefix-complete p [] [] h e = (refl, refl)
prefix-complete p [] (x ∷ r) h e = let n = not_true (p x) e in (rw n refl, rw n refl)
prefix-complete p (x ∷ a) r h e = let k = prefix-complete p a r h.1 e in (rw (h.0, k.0) refl, rw (h.0, k.1) refl)

digits-sound : Sound digits_at (λ ds b. Digits b × (ds ≡ b))
unfolding digits_at
digits-sound [] r ds e = absurd (wrong-found ds r e)
digits-sound (x ∷ t) r ds e = tested (is_digit x) refl e
  where
    tested : (v : Bool) → is_digit x ≡ v → cond v (found (x ∷ prefix is_digit t) (after is_digit t)) wrong ≡ found ds r → (a : List ℕ) × (Digits a × (ds ≡ a)) × (x ∷ t ≡ a ++ r)
    tested true q e =
        let f = found_parts (x ∷ prefix is_digit t) ds (after is_digit t) r e in
        let c = prefix-cut is_digit t in
        (x ∷ prefix is_digit t, ((x, prefix is_digit t, q, c.0, refl), sym f.0), ap (λ l. x ∷ l) (c.1 ∙ ap (λ l. prefix is_digit t ++ l) f.1))
    tested false q e = absurd (wrong-found ds r e)

digits-complete : (b r : List ℕ) → Digits b → Ends is_digit r → digits_at (b ++ r) ≡ found b r
unfolding digits_at
digits-complete b r h e = let f = prefix-complete is_digit h.1 r h.3 e in rw (h.4, h.2, f.0, f.1) refl

pub int-sound : Sound int_at (λ i b. IsInteger b × (i ≡ b))
unfolding int_at
int-sound [] r i e = absurd (wrong-found i r e)
int-sound (x ∷ t) r i e = tested (eqb x 48) refl e
  where
    digits : (a : List ℕ) → Digits a → x ∷ t ≡ a ++ r → eqb x 48 ≡ false → i ≡ a → (a : List ℕ) × (IsInteger a × (i ≡ a)) × (x ∷ t ≡ a ++ r)
    digits a d cut q is =
        let first : x ≡ d.0 = ap (head_or 0) (cut ∙ ap (λ l. l ++ r) d.4) in
        (a, (inr (d.0, d.1, d.2, ap (λ y. eqb y 48) (sym first) ∙ q, d.3, d.4), is), cut)

    tested : (v : Bool) → eqb x 48 ≡ v → cond v (found (48 ∷ []) t) (digits_at (x ∷ t)) ≡ found i r → (a : List ℕ) × (IsInteger a × (i ≡ a)) × (x ∷ t ≡ a ++ r)
    tested true q e =
        let f = found_parts (48 ∷ []) i t r e in
        let is : x ≡ 48 = grind (arith, nat_tests) in
        (48 ∷ [], (inl refl, sym f.0), ap (λ l. x ∷ l) f.1 ∙ ap (λ y. y ∷ r) is)
    tested false q e = let d = digits-sound (x ∷ t) r i e in digits d.0 d.1.0 d.2 q d.1.1

int-complete : (b r : List ℕ) → IsInteger b → Ends is_digit r → int_at (b ++ r) ≡ found b r
unfolding int_at
int-complete b r (inl h) e = rw h refl
int-complete b r (inr h) e = rw (h.5, h.3) (digits-complete (h.0 ∷ h.1) r (h.0, h.1, h.2, h.4, refl) e)

pub minus-sound : Sound minus_at (λ s b. IsMinus b × (s ≡ b))
unfolding minus_at
minus-sound [] r s e = let f = found_parts [] s [] r e in ([], (inl refl, sym f.0), f.1)
minus-sound (x ∷ t) r s e = tested (eqb x 45) refl e
  where
    tested : (v : Bool) → eqb x 45 ≡ v → cond v (found (45 ∷ []) t) (found [] (x ∷ t)) ≡ found s r → (a : List ℕ) × (IsMinus a × (s ≡ a)) × (x ∷ t ≡ a ++ r)
    tested true q e = let f = found_parts (45 ∷ []) s t r e in let is : x ≡ 45 = grind (arith, nat_tests) in (45 ∷ [], (inr refl, sym f.0), ap (λ l. x ∷ l) f.1 ∙ ap (λ y. y ∷ r) is)
    tested false q e = let f = found_parts [] s (x ∷ t) r e in ([], (inl refl, sym f.0), f.1)

minus-complete : (b r : List ℕ) → IsMinus b → Ends (λ x. eqb x 45) r → minus_at (b ++ r) ≡ found b r
unfolding minus_at
minus-complete b [] (inl h) e = rw h refl
minus-complete b (x ∷ r) (inl h) e = let n = not_true (eqb x 45) e in rw (h, n) refl
minus-complete b r (inr h) e = rw h refl

pub frac-sound : Sound frac_at (λ f b. IsFraction b × (f ≡ b))
unfolding frac_at
frac-sound [] r s e = let f = found_parts [] s [] r e in ([], (inl refl, sym f.0), f.1)
frac-sound (x ∷ t) r s e = tested (eqb x 46) refl e
  where
    tested : (v : Bool) → eqb x 46 ≡ v → cond v (bind (digits_at t) (λ ds r. found (46 ∷ ds) r)) (found [] (x ∷ t)) ≡ found s r → (a : List ℕ) × (IsFraction a × (s ≡ a)) × (x ∷ t ≡ a ++ r)
    tested true q e =
        let k = bind_found (digits_at t) (λ ds r. found (46 ∷ ds) r) s r e in
        let d = digits-sound t k.1 k.0 k.2 in
        let f = found_parts (46 ∷ k.0) s k.1 r k.3 in
        let is : x ≡ 46 = grind (arith, nat_tests) in
        (46 ∷ d.0, (inr (d.0, d.1.0, refl), sym f.0 ∙ ap (λ l. 46 ∷ l) d.1.1), ap (λ l. x ∷ l) (d.2 ∙ ap (λ l. d.0 ++ l) f.1) ∙ ap (λ y. y ∷ (d.0 ++ r)) is)
    tested false q e = let f = found_parts [] s (x ∷ t) r e in ([], (inl refl, sym f.0), f.1)

frac-complete : (b r : List ℕ) → IsFraction b → Ends is_digit r → Ends (λ x. eqb x 46) r → frac_at (b ++ r) ≡ found b r
unfolding frac_at
frac-complete b [] (inl h) d e = rw h refl
frac-complete b (x ∷ r) (inl h) d e = let n = not_true (eqb x 46) e in rw (h, n) refl
frac-complete b r (inr h) d e = rw (h.2, digits-complete h.0 r h.1 d) refl

sign-sound : Sound sign_at (λ s b. IsSign b × (s ≡ b))
unfolding sign_at
sign-sound [] r s e = let f = found_parts [] s [] r e in ([], (inl refl, sym f.0), f.1)
sign-sound (x ∷ t) r s e = tested (eqb x 45) (eqb x 43) refl refl e
  where
    tested : (v w : Bool) → eqb x 45 ≡ v → eqb x 43 ≡ w → cond v (found (45 ∷ []) t) (cond w (found (43 ∷ []) t) (found [] (x ∷ t))) ≡ found s r → (a : List ℕ) × (IsSign a × (s ≡ a)) × (x ∷ t ≡ a ++ r)
    tested true w q o e = let f = found_parts (45 ∷ []) s t r e in let is : x ≡ 45 = grind (arith, nat_tests) in (45 ∷ [], (inr (inl refl), sym f.0), ap (λ l. x ∷ l) f.1 ∙ ap (λ y. y ∷ r) is)
    tested false true q o e = let f = found_parts (43 ∷ []) s t r e in let is : x ≡ 43 = grind (arith, nat_tests) in (43 ∷ [], (inr (inr refl), sym f.0), ap (λ l. x ∷ l) f.1 ∙ ap (λ y. y ∷ r) is)
    tested false false q o e = let f = found_parts [] s (x ∷ t) r e in ([], (inl refl, sym f.0), f.1)

sign-complete : (b ds r : List ℕ) → IsSign b → Digits ds → sign_at (b ++ (ds ++ r)) ≡ found b (ds ++ r)
unfolding sign_at
sign-complete b ds r (inl h) d =
    let w = digit-bounds d.0 d.2 in
    let m : eqb d.0 45 ≡ false = grind (arith, nat_tests, w.0) in
    let p : eqb d.0 43 ≡ false = grind (arith, nat_tests, w.0) in
    rw (h, d.4, m, p) refl
sign-complete b ds r (inr (inl h)) d = rw h refl
sign-complete b ds r (inr (inr h)) d = rw h refl

pub exp-sound : (b r x : List ℕ) → exp_at b ≡ found x r → (a : List ℕ) × IsExponent a x × (b ≡ a ++ r)
unfolding exp_at
exp-sound [] r s e = let f = found_parts [] s [] r e in ([], inl (refl, sym f.0), f.1)
exp-sound (x ∷ t) r s e = tested (is_exponent_mark x) refl e
  where
    tested : (v : Bool) → is_exponent_mark x ≡ v → cond v (bind (sign_at t) (λ s r. bind (digits_at r) (λ ds q. found (s ++ ds) q))) (found [] (x ∷ t)) ≡ found s r → (a : List ℕ) × IsExponent a s × (x ∷ t ≡ a ++ r)
    tested true q e =
        let k = bind_found (sign_at t) (λ s r. bind (digits_at r) (λ ds q. found (s ++ ds) q)) s r e in
        let g = sign-sound t k.1 k.0 k.2 in
        let l = bind_found (digits_at k.1) (λ ds q. found (k.0 ++ ds) q) s r k.3 in
        let d = digits-sound k.1 l.1 l.0 l.2 in
        let f = found_parts (k.0 ++ l.0) s l.1 r l.3 in
        let text : s ≡ g.0 ++ d.0 = sym f.0 ∙ ap (λ m. m ++ l.0) g.1.1 ∙ ap (λ m. g.0 ++ m) d.1.1 in
        (x ∷ s, inr (x, g.0, d.0, q, g.1.0, d.1.0, text, refl), ap (λ m. x ∷ m) (g.2 ∙ ap (λ m. g.0 ++ m) (d.2 ∙ ap (λ m. d.0 ++ m) f.1) ∙ sym (append_assoc g.0 d.0 r) ∙ ap (λ m. m ++ r) (sym text)))
    tested false q e = let f = found_parts [] s (x ∷ t) r e in ([], inl (refl, sym f.0), f.1)

exp-complete : (b x r : List ℕ) → IsExponent b x → Ends is_digit r → Ends is_exponent_mark r → exp_at (b ++ r) ≡ found x r
unfolding exp_at
exp-complete b x [] (inl h) d e = rw (h.0, h.1) refl
exp-complete b x (y ∷ r) (inl h) d e = let n = not_true (is_exponent_mark y) e in rw (h.0, h.1, n) refl
exp-complete b x r (inr h) d e =
    let apart : b ++ r ≡ h.0 ∷ (h.1 ++ (h.2 ++ r)) = ap (λ l. l ++ r) (h.7 ∙ ap (λ l. h.0 ∷ l) h.6) ∙ ap (λ l. h.0 ∷ l) (append_assoc h.1 h.2 r) in
    let is : is_exponent_mark h.0 ≡ true = h.3 in
    rw (apart, is, sign-complete h.1 h.2 r h.4 h.5, digits-complete h.2 r h.5 d, h.6) refl

number-sound : (b r : List ℕ) (x : Json) → number_at b ≡ found x r → (m : List ℕ) × (e : List ℕ) × (a : List ℕ) × IsNumber m e a × (x ≡ number m e) × (b ≡ a ++ r)
unfolding number_at
number-sound b r x e =
    let s = bind_found (minus_at b) (λ s r. bind (int_at r) (λ i q. bind (frac_at q) (λ f p. bind (exp_at p) (λ e o. found (number (s ++ (i ++ f)) e) o)))) x r e in
    let i = bind_found (int_at s.1) (λ i q. bind (frac_at q) (λ f p. bind (exp_at p) (λ e o. found (number (s.0 ++ (i ++ f)) e) o))) x r s.3 in
    let f = bind_found (frac_at i.1) (λ f p. bind (exp_at p) (λ e o. found (number (s.0 ++ (i.0 ++ f)) e) o)) x r i.3 in
    let g = bind_found (exp_at f.1) (λ e o. found (number (s.0 ++ (i.0 ++ f.0)) e) o) x r f.3 in
    let p = found_parts (number (s.0 ++ (i.0 ++ f.0)) g.0) x g.1 r g.3 in
    let s' = minus-sound b s.1 s.0 s.2 in
    let i' = int-sound s.1 i.1 i.0 i.2 in
    let f' = frac-sound i.1 f.1 f.0 f.2 in
    let g' = exp-sound f.1 g.1 g.0 g.2 in
    let m = s.0 ++ (i.0 ++ f.0) in
    let mant : m ≡ s'.0 ++ (i'.0 ++ f'.0) = ap (λ l. l ++ (i.0 ++ f.0)) s'.1.1 ∙ ap (λ l. s'.0 ++ (l ++ f.0)) i'.1.1 ∙ ap (λ l. s'.0 ++ (i'.0 ++ l)) f'.1.1 in
    let cut : b ≡ (m ++ g'.0) ++ r =
    s'.2 ∙ ap (λ l. s'.0 ++ l) (i'.2 ∙ ap (λ l. i'.0 ++ l) (f'.2 ∙ ap (λ l. f'.0 ++ l) (g'.2 ∙ ap (λ l. g'.0 ++ l) p.1)))
    ∙ ap (λ l. s'.0 ++ l) (sym (append_assoc i'.0 f'.0 (g'.0 ++ r))) ∙ sym (append_assoc s'.0 (i'.0 ++ f'.0) (g'.0 ++ r)) ∙ ap (λ l. l ++ (g'.0 ++ r)) (sym mant) ∙ sym (append_assoc m g'.0 r) in
    (m, g.0, m ++ g'.0, (s'.0, i'.0, f'.0, g'.0, s'.1.0, i'.1.0, f'.1.0, g'.1, mant, refl), sym p.0, cut)

-- what ends a number is no digit, no point and no e
ends-parts : (r : List ℕ) → ends r ≡ true → Ends is_digit r × Ends (λ x. eqb x 46) r × Ends is_exponent_mark r
unfolding ends
ends-parts [] e = (refl, refl, refl)
ends-parts (x ∷ r) e =
    let n = not_true (is_digit x || (eqb x 46 || is_exponent_mark x)) e in
    let a = or_false (is_digit x) (eqb x 46 || is_exponent_mark x) n in
    let b = or_false (eqb x 46) (is_exponent_mark x) a.1 in
    (ap not a.0, ap not b.0, ap not b.1)

pub e-among : (x : ℕ) → is_exponent_mark x ≡ true → (x ≡ 101) ⊎ (x ≡ 69)
e-among x e = at (or_true (eqb x 101) (eqb x 69) e)
  where
    at : (eqb x 101 ≡ true) ⊎ (eqb x 69 ≡ true) → (x ≡ 101) ⊎ (x ≡ 69)
    at (inl h) = let is : x ≡ 101 = grind (arith, nat_tests) in inl is
    at (inr h) = let is : x ≡ 69 = grind (arith, nat_tests) in inr is

exp-ends : (b x r : List ℕ) → IsExponent b x → ends r ≡ true → Ends is_digit (b ++ r) × Ends (λ y. eqb y 46) (b ++ r)
unfolding is_digit
exp-ends b x r (inl h) e = let p = ends-parts r e in (ap (λ l. on_first true (λ x t. not (is_digit x)) (l ++ r)) h.0 ∙ p.0, ap (λ l. on_first true (λ x t. not (eqb x 46)) (l ++ r)) h.0 ∙ p.1)
exp-ends b x r (inr h) e = at (e-among h.0 h.3)
  where
    at : (h.0 ≡ 101) ⊎ (h.0 ≡ 69) → Ends is_digit (b ++ r) × Ends (λ y. eqb y 46) (b ++ r)
    at (inl k) = (rw (h.7, k) refl, rw (h.7, k) refl)
    at (inr k) = (rw (h.7, k) refl, rw (h.7, k) refl)

frac-ends : (f r : List ℕ) → IsFraction f → Ends is_digit r → Ends is_digit (f ++ r)
unfolding is_digit
frac-ends f r (inl h) e = rw h e
frac-ends f r (inr h) e = rw h.2 refl

-- how the digits begin
int-first : (i : List ℕ) → IsInteger i → (d : ℕ) × (t : List ℕ) × (i ≡ d ∷ t) × (is_digit d ≡ true)
unfolding is_digit
int-first i (inl h) = (48, [], h, refl)
int-first i (inr h) = (h.0, h.1, h.5, h.2)

int-minus : (i r : List ℕ) → IsInteger i → Ends (λ x. eqb x 45) (i ++ r)
int-minus i r h =
    let f = int-first i h in
    let w = digit-bounds f.0 f.3 in
    let n : eqb f.0 45 ≡ false = grind (arith, nat_tests, w.0) in
    rw (f.2, n) refl

number-complete : (m e a r : List ℕ) → IsNumber m e a → ends r ≡ true → number_at (a ++ r) ≡ found (number m e) r
unfolding number_at
number-complete m e a r h fin =
    let s = h.0 in
    let i = h.1 in
    let f = h.2 in
    let g = h.3 in
    let apart : a ++ r ≡ s ++ (i ++ (f ++ (g ++ r))) =
    ap (λ l. l ++ r) h.9 ∙ append_assoc m g r ∙ ap (λ l. l ++ (g ++ r)) h.8 ∙ append_assoc s (i ++ f) (g ++ r) ∙ ap (λ l. s ++ l) (append_assoc i f (g ++ r)) in
    let p = ends-parts r fin in
    let q = exp-ends g e r h.7 fin in
    rw (apart, minus-complete s (i ++ (f ++ (g ++ r))) h.4 (int-minus i (f ++ (g ++ r)) h.5), int-complete i (f ++ (g ++ r)) h.5 (frac-ends f (g ++ r) h.6 q.0), frac-complete f (g ++ r) h.6 q.0 q.1, exp-complete g e r h.7 p.0 p.2, h.8) refl

-- a number begins with a minus or a digit
abbrev Sign : ℕ → Type 0
Sign y = (y ≡ 45) ⊎ (is_digit y ≡ true)

number-first : (m e a r : List ℕ) → IsNumber m e a → (y : ℕ) × (t : List ℕ) × (a ++ r ≡ y ∷ t) × Sign y
number-first m e a r h = at h.4
  where
    apart : a ++ r ≡ h.0 ++ ((h.1 ++ h.2) ++ (h.3 ++ r))
    apart = ap (λ l. l ++ r) h.9 ∙ append_assoc m h.3 r ∙ ap (λ l. l ++ (h.3 ++ r)) h.8 ∙ append_assoc h.0 (h.1 ++ h.2) (h.3 ++ r)

    at : IsMinus h.0 → (y : ℕ) × (t : List ℕ) × (a ++ r ≡ y ∷ t) × Sign y
    at (inl k) = let f = int-first h.1 h.5 in (f.0, (f.1 ++ h.2) ++ (h.3 ++ r), apart ∙ ap (λ l. l ++ ((h.1 ++ h.2) ++ (h.3 ++ r))) k ∙ ap (λ l. (l ++ h.2) ++ (h.3 ++ r)) f.2, inr f.3)
    at (inr k) = (45, (h.1 ++ h.2) ++ (h.3 ++ r), apart ∙ ap (λ l. l ++ ((h.1 ++ h.2) ++ (h.3 ++ r))) k, inl refl)

abbrev Low : ℕ → Type 0
Low y = (45 ≤ y) × (y ≤ 57)

sign-low : (y : ℕ) → Sign y → Low y
sign-low y (inl h) = (omega (arith, h), omega (arith, h))
sign-low y (inr h) = let w = digit-bounds y h in (omega (arith, w.0), w.1)

-- ---- values without brackets

apart : (y k : ℕ) → Low y → (k < 45) ⊎ (57 < k) → eqb y k ≡ false
apart y k w (inl h) = grind (arith, nat_tests, w.0, h)
apart y k w (inr h) = grind (arith, nat_tests, w.1, h)

pub scalar-starts : (x : Json) (a r : List ℕ) → Scalar x a → StartsScalar (a ++ r)
unfolding is_space
scalar-starts x a r (inl h) = (110, 117 ∷ 108 ∷ 108 ∷ r, ap (λ l. l ++ r) h.1, refl, refl, refl, refl, refl)
scalar-starts x a r (inr (inl h)) = (116, 114 ∷ 117 ∷ 101 ∷ r, ap (λ l. l ++ r) h.1, refl, refl, refl, refl, refl)
scalar-starts x a r (inr (inr (inl h))) = (102, 97 ∷ 108 ∷ 115 ∷ 101 ∷ r, ap (λ l. l ++ r) h.1, refl, refl, refl, refl, refl)
scalar-starts x a r (inr (inr (inr (inl h)))) = (34, (h.1.0 ++ 34 ∷ []) ++ r, ap (λ l. l ++ r) h.1.1, refl, refl, refl, refl, refl)
scalar-starts x a r (inr (inr (inr (inr h)))) =
    let f = number-first h.0 h.1 a r h.2 in
    let w = sign-low f.0 f.3 in
    let no : (k : ℕ) → ((k < 45) ⊎ (57 < k)) → eqb f.0 k ≡ false = λ k b. apart f.0 k w b in
    let sp : is_space f.0 ≡ false = rw (no 32 (inl (omega arith)), no 9 (inl (omega arith)), no 10 (inl (omega arith)), no 13 (inl (omega arith))) refl in
    (f.0, f.1, f.2, sp, no 93 (inr (omega arith)), no 125 (inr (omega arith)), no 91 (inr (omega arith)), no 123 (inr (omega arith)))

string-nil : string_at [] ≡ wrong
unfolding string_at
string-nil = refl

pub scalar-complete : (x : Json) (a r : List ℕ) → Scalar x a → ends r ≡ true → scalar_at (a ++ r) ≡ found x r
unfolding scalar_at strip
scalar-complete x a r (inl h) e = rw (h.1, h.0) refl
scalar-complete x a r (inr (inl h)) e = rw (h.1, h.0) refl
scalar-complete x a r (inr (inr (inl h))) e = rw (h.1, h.0) refl
scalar-complete x a r (inr (inr (inr (inl h)))) e =
    let first : a ++ r ≡ 34 ∷ ((h.1.0 ++ 34 ∷ []) ++ r) = ap (λ l. l ++ r) h.1.1 in
    let whole = string-complete h.0 a r h.1 in
    at (a ++ r) first whole
  where
    at : (b : List ℕ) → b ≡ 34 ∷ ((h.1.0 ++ 34 ∷ []) ++ r) → string_at b ≡ found h.0 r → scalar_at b ≡ found x r
    at [] f w = absurd (wrong-found h.0 r (sym (string-nil) ∙ w))
    at (y ∷ t) f w = let is : y ≡ 34 = ap (head_or 0) f in let k : eqb y 34 ≡ true = eq-eqb y 34 is in rw (k, w, h.2) refl
scalar-complete x a r (inr (inr (inr (inr h)))) e =
    let f = number-first h.0 h.1 a r h.2 in
    let w = sign-low f.0 f.3 in
    let whole : number_at (f.0 ∷ f.1) ≡ found (number h.0 h.1) r = ap number_at (sym f.2) ∙ number-complete h.0 h.1 a r h.2 e in
    rw (f.2, apart f.0 34 w (inl (omega arith)), apart f.0 110 w (inr (omega arith)), apart f.0 116 w (inr (omega arith)), apart f.0 102 w (inr (omega arith)), whole, h.3) refl

pub scalar-sound : Sound scalar_at Scalar
unfolding scalar_at
scalar-sound [] r x e = absurd (wrong-found x r e)
scalar-sound (y ∷ t) r x e = tested (eqb y 34) (eqb y 110) (eqb y 116) (eqb y 102) e
  where
    b : List ℕ
    b = y ∷ t

    literal : (es : List ℕ) (z : Json) → bind (strip es (y ∷ t)) (λ _ r. found z r) ≡ found x r → (x ≡ z) × (y ∷ t ≡ es ++ r)
    literal es z e =
        let k = bind_found (strip es (y ∷ t)) (λ _ r. found z r) x r e in
        let f = found_parts z x k.1 r k.3 in
        (sym f.0, strip-sound es (y ∷ t) k.1 k.0 k.2 ∙ ap (λ l. es ++ l) f.1)

    tested : (q n u v : Bool) → cond q (bind (string_at (y ∷ t)) (λ s r. found (string s) r)) (cond n (bind (strip text_null (y ∷ t)) (λ _ r. found null r)) (cond u (bind (strip text_true (y ∷ t)) (λ _ r. found (boolean true) r)) (cond v (bind (strip text_false (y ∷ t)) (λ _ r. found (boolean false) r)) (number_at (y ∷ t))))) ≡ found x r → (a : List ℕ) × Scalar x a × (y ∷ t ≡ a ++ r)
    tested true n u v e =
        let k = bind_found (string_at (y ∷ t)) (λ s r. found (string s) r) x r e in
        let s = string-sound (y ∷ t) k.1 k.0 k.2 in
        let f = found_parts (string k.0) x k.1 r k.3 in
        (s.0, inr (inr (inr (inl (k.0, s.1, sym f.0)))), s.2 ∙ ap (λ l. s.0 ++ l) f.1)
    tested false true u v e = let k = literal text_null null e in (text_null, inl (k.0, refl), k.1)
    tested false false true v e = let k = literal text_true (boolean true) e in (text_true, inr (inl (k.0, refl)), k.1)
    tested false false false true e = let k = literal text_false (boolean false) e in (text_false, inr (inr (inl (k.0, refl))), k.1)
    tested false false false false e = let k = number-sound (y ∷ t) r x e in (k.2, inr (inr (inr (inr (k.0, k.1, k.3, k.4)))), k.5)
