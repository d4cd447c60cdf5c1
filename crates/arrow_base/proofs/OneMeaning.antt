-- A JSON string has one meaning.
use Rattle.std.proofs.Common.{◌≡◌, ℕ, ◌==◌, true, false, List, [], ◌∷◌, ◌++◌, Option, Some, None, refl, sym, ◌∙◌, ap, subst, inl, inr, arith, cond}
use Rattle.std.proofs.lemmas.Bool.Decides.{nat_tests}
use Rattle.std.proofs.lemmas.List.{append_cancel_right}
use Rattle.std.specs.Char.{encode_utf8}
use Rattle.std.specs.Char.Utf16.{is_high_surrogate, surrogate_pair_char}
use Rattle.arrow_base.specs.JsonString.{is_unescaped, short_escape, hexadecimal, IsChar, Chars, no_chars, one_char, JsonString}
use Rattle.arrow_base.proofs.Decisions.{by_test}

-- ---- what the first character adds to the text, and the bytes after it

abbrev if_some : Option ℕ → (ℕ → Option (List ℕ × List ℕ)) → Option (List ℕ × List ℕ)
if_some None f = None
if_some (Some n) f = f n

abbrev low_found : ℕ → List ℕ → Option (List ℕ × List ℕ)
low_found high (s ∷ u ∷ a ∷ b ∷ c ∷ d ∷ rest) = if_some (hexadecimal a b c d) (λ low. Some (encode_utf8 (surrogate_pair_char high low), rest))
low_found high _ = None

abbrev unit_found : List ℕ → Option (List ℕ × List ℕ)
unit_found (a ∷ b ∷ c ∷ d ∷ rest) = if_some (hexadecimal a b c d) (λ unit. cond (is_high_surrogate unit) (low_found unit rest) (Some (encode_utf8 unit, rest)))
unit_found _ = None

abbrev escape_found : List ℕ → Option (List ℕ × List ℕ)
escape_found [] = None
escape_found (byte ∷ rest) = cond (byte == 0x75) (unit_found rest) (if_some (short_escape byte) (λ char. Some (char ∷ [], rest)))

abbrev char_found : List ℕ → Option (List ℕ × List ℕ)
char_found [] = None
char_found (byte ∷ rest) = cond (byte == 0x5c) (escape_found rest) (Some (byte ∷ [], rest))

no_reverse_solidus : (byte : ℕ) → is_unescaped byte ≡ true → (byte == 0x5c) ≡ false
unfolding is_unescaped
no_reverse_solidus byte h = grind (arith, nat_tests, h)

no_u : (byte char : ℕ) → short_escape byte ≡ Some char → (byte == 0x75) ≡ false
unfolding short_escape
no_u byte char h = by_test _ (byte == 0x75) (λ e. bad (grind (arith, nat_tests, e))) (λ n. n)
  where
    bad : byte ≡ 0x75 → (byte == 0x75) ≡ false
    bad e = let none : short_escape 0x75 ≡ None = refl in let some : short_escape 0x75 ≡ Some char = subst (λ b. short_escape b ≡ Some char) e h in cc

-- a character in prefix is found
char-found : (bytes text rest : List ℕ) → IsChar bytes text → char_found (bytes ++ rest) ≡ Some (text, rest)
char-found bytes text rest (inl h) = rw (h.1, h.2) (rw (no_reverse_solidus h.0 h.3) refl)
char-found bytes text rest (inr (inl h)) = rw (h.2, h.3) (rw (no_u h.0 h.1 h.4, h.4) refl)
char-found bytes text rest (inr (inr (inl h))) = let u = h.1 in rw (u.4, h.2) (rw (u.5, h.3) refl)
char-found bytes text rest (inr (inr (inr h))) =
    let p = h.5 in let q = h.6 in
    rw (h.4, p.4, q.4, h.7) (rw (p.5, h.8, q.5) refl)

found-same : (s x t y : List ℕ) → ◌≡◌ {A = Option (List ℕ × List ℕ)} (Some (s, x)) (Some (t, y)) → (s ≡ t) × (x ≡ y)
found-same s x t y e =
    let pair : ◌≡◌ {A = List ℕ × List ℕ} (s, x) (t, y) = cc in
    (ap (λ (p : List ℕ × List ℕ). p.0) pair, ap (λ (p : List ℕ × List ℕ). p.1) pair)

chars-one : {bytes s other t : List ℕ} → Chars bytes s → Chars other t → bytes ≡ other → s ≡ t
chars-one no_chars no_chars e = refl
chars-one no_chars (one_char f m o r c cs x y) e =
    let none : char_found [] ≡ None = refl in
    let some : char_found [] ≡ Some (m, o) = subst (λ l. char_found l ≡ Some (m, o)) (sym (e ∙ x)) (char-found f m o c) in
    absurd cc
chars-one (one_char f m o r c cs x y) no_chars e =
    let none : char_found [] ≡ None = refl in
    let some : char_found [] ≡ Some (m, o) = subst (λ l. char_found l ≡ Some (m, o)) (sym x ∙ e) (char-found f m o c) in
    absurd cc
chars-one (one_char f m o r c cs x y) (one_char f' m' o' r' c' cs' x' y') e =
    let here : char_found (f ++ o) ≡ Some (m', o') = subst (λ l. char_found l ≡ Some (m', o')) (sym (sym x ∙ e ∙ x')) (char-found f' m' o' c') in
    let same = found-same m o m' o' (sym (char-found f m o c) ∙ here) in
    let rest : r ≡ r' = chars-one cs cs' same.1 in
    rw (y, y', same.0, rest) refl

-- what stands between the quotation marks is one and the same
inside-same : (a b : List ℕ) → 0x22 ∷ (a ++ 0x22 ∷ []) ≡ 0x22 ∷ (b ++ 0x22 ∷ []) → a ≡ b
inside-same a b e = let quoted : 0x22 ∷ a ≡ 0x22 ∷ b = append_cancel_right (0x22 ∷ a) (0x22 ∷ b) (0x22 ∷ []) e in cc

pub one_meaning : (bytes text other : List ℕ) → JsonString bytes text → JsonString bytes other → other ≡ text
one_meaning bytes text other h k =
    chars-one k.string.2 h.string.2 (inside-same k.string.0 h.string.0 (sym k.string.1 ∙ h.string.1))
