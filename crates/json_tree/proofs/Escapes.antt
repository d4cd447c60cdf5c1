-- Escapes, as the code skips them.
use Rattle.std.proofs.Common.{◌≡◌, ◌≢◌, ℕ, ◌<◌, ◌≤◌, true, false, List, [], ◌∷◌, length, drop, get_or, Option, Some, None, refl, sym, ap, ◌∙◌, subst, arith}
use Rattle.std.proofs.lemmas.Str.{IsUtf8-drop, IsCharBoundary-after_ascii, encode_ascii}
use Rattle.std.specs.Str.{IsUtf8}
use Rattle.std.specs.Char.{encode_utf8}
use Rattle.std.specs.Char.Utf16.{is_high_surrogate, is_low_surrogate, surrogate_pair_char}
use Rattle.arrow_base.specs.JsonString.{short_escape, hexadecimal}
use Rattle.json_tree.specs.Reading.{found, wrong, First, if_some, strip, unit_at, low_at, unicode_at, escape_at}
use Rattle.json_tree.proofs.Turns.{ne-eqb}

unit-few : (b : List ℕ) → length b < 4 → unit_at b ≡ wrong
unfolding unit_at
unit-few [] l = refl
unit-few (h ∷ []) l = refl
unit-few (h ∷ i ∷ []) l = refl
unit-few (h ∷ i ∷ j ∷ []) l = refl
unit-few (h ∷ i ∷ j ∷ k ∷ t) l = absurd (omega (arith, l))

pub unit-short : (b r : List ℕ) → r ≡ b → length r < 4 → unit_at b ≡ wrong
unit-short b r e l = unit-few b (omega (arith, l, ap length e))

unit-four : (b : List ℕ) → 4 ≤ length b → unit_at b ≡ if_some (hexadecimal (get_or b 0 0) (get_or b 1 0) (get_or b 2 0) (get_or b 3 0)) (drop 4 b)
unfolding unit_at
unit-four [] l = absurd (omega (arith, l))
unit-four (h ∷ []) l = absurd (omega (arith, l))
unit-four (h ∷ i ∷ []) l = absurd (omega (arith, l))
unit-four (h ∷ i ∷ j ∷ []) l = absurd (omega (arith, l))
unit-four (h ∷ i ∷ j ∷ k ∷ t) l = refl

pub unit-told : (b r : List ℕ) (o : Option ℕ) → r ≡ b → 4 ≤ length r → o ≡ hexadecimal (get_or r 0 0) (get_or r 1 0) (get_or r 2 0) (get_or r 3 0) → unit_at b ≡ if_some o (drop 4 b)
unit-told b r o e l h =
    let k : o ≡ hexadecimal (get_or b 0 0) (get_or b 1 0) (get_or b 2 0) (get_or b 3 0) = h ∙ ap (λ s. hexadecimal (get_or s 0 0) (get_or s 1 0) (get_or s 2 0) (get_or s 3 0)) e in
    unit-four b (omega (arith, l, ap length e)) ∙ ap (λ o. if_some o (drop 4 b)) (sym k)

pub unit-text : (b r n : List ℕ) → r ≡ b → 4 ≤ length r → IsUtf8 b → get_or r 3 0 < 128 → n ≡ drop 4 b → IsUtf8 n
unit-text b r n e l u a d =
    let x : get_or b 3 0 < 128 = subst (λ s. get_or s 3 0 < 128) e a in
    let m : 4 ≤ length b = omega (arith, l, ap length e) in
    subst IsUtf8 (sym d) (IsUtf8-drop b 4 u (IsCharBoundary-after_ascii b 3 u (omega (arith, m)) x))

-- ---- pairs

pub low-slash : (u : ℕ) (b : List ℕ) → First (λ x t. x ≢ 92) b → low_at u b ≡ wrong
unfolding low_at strip
low-slash u [] h = refl
low-slash u (x ∷ t) h = rw (ne-eqb x 92 h) refl

low-letter-at : (u : ℕ) (r : List ℕ) → First (λ x t. x ≢ 117) r → low_at u (92 ∷ r) ≡ wrong
unfolding low_at strip
low-letter-at u [] h = refl
low-letter-at u (x ∷ t) h = rw (ne-eqb x 117 h) refl

pub low-letter : (u : ℕ) (b r : List ℕ) → b ≡ 92 ∷ r → First (λ x t. x ≢ 117) r → low_at u b ≡ wrong
low-letter u b r e h = ap (low_at u) e ∙ low-letter-at u r h

pub low-unit : (u : ℕ) (b r q : List ℕ) → b ≡ 92 ∷ r → r ≡ 117 ∷ q → unit_at q ≡ wrong → low_at u b ≡ wrong
unfolding low_at strip
low-unit u b r q e f h = rw (e, f, h) refl

pub low-not : (u v : ℕ) (b r q p : List ℕ) → b ≡ 92 ∷ r → r ≡ 117 ∷ q → unit_at q ≡ found v p → is_low_surrogate v ≡ false → low_at u b ≡ wrong
unfolding low_at strip
low-not u v b r q p e f h k = rw (e, f, h, k) refl

pub low-ok : (u v : ℕ) (b r q p : List ℕ) → b ≡ 92 ∷ r → r ≡ 117 ∷ q → unit_at q ≡ found v p → is_low_surrogate v ≡ true → low_at u b ≡ found (encode_utf8 (surrogate_pair_char u v)) p
unfolding low_at strip
low-ok u v b r q p e f h k = rw (e, f, h, k) refl

-- ---- after \u

pub unicode-unit : (b : List ℕ) → unit_at b ≡ wrong → unicode_at b ≡ wrong
unfolding unicode_at
unicode-unit b h = rw h refl

pub unicode-high : (u : ℕ) (b r : List ℕ) → unit_at b ≡ found u r → is_high_surrogate u ≡ true → unicode_at b ≡ low_at u r
unfolding unicode_at
unicode-high u b r h k = rw (h, k) refl

pub unicode-alone : (u : ℕ) (b r : List ℕ) → unit_at b ≡ found u r → is_high_surrogate u ≡ false → is_low_surrogate u ≡ false → unicode_at b ≡ found (encode_utf8 u) r
unfolding unicode_at
unicode-alone u b r h k l = rw (h, k, l) refl

pub unicode-low : (u : ℕ) (b r : List ℕ) → unit_at b ≡ found u r → is_high_surrogate u ≡ false → is_low_surrogate u ≡ true → unicode_at b ≡ wrong
unfolding unicode_at
unicode-low u b r h k l = rw (h, k, l) refl

-- ---- after a backslash

pub escape-none : (b : List ℕ) → b ≡ [] → escape_at b ≡ wrong
unfolding escape_at
escape-none b e = rw e refl

pub escape-u : (x : ℕ) (b t : List ℕ) → b ≡ x ∷ t → x ≡ 117 → escape_at b ≡ unicode_at t
unfolding escape_at
escape-u x b t e k = rw (e, k) refl

pub escape-short : (x c : ℕ) (b t : List ℕ) → b ≡ x ∷ t → x ≢ 117 → Some c ≡ short_escape x → c < 128 → escape_at b ≡ found (encode_utf8 c) t
unfolding escape_at
escape-short x c b t e k h l =
    let s : short_escape x ≡ Some c = sym h in
    let one : escape_at b ≡ found (c ∷ []) t = rw (e, ne-eqb x 117 k, s) refl in
    one ∙ ap (λ s. found s t) (sym (encode_ascii c l))

pub escape-bad : (x : ℕ) (b t : List ℕ) → b ≡ x ∷ t → x ≢ 117 → None ≡ short_escape x → escape_at b ≡ wrong
unfolding escape_at
escape-bad x b t e k h =
    let s : short_escape x ≡ None = sym h in
    rw (e, ne-eqb x 117 k, s) refl
