-- The string that is written for a text is a JSON string, and means that text.
use Rattle.std.proofs.Common.{◌≡◌, ℕ, zero, suc, ◌<◌, ◌≤◌, ◌/◌, ◌%◌, Bool, true, false, T, ◌⊎◌, ◌==◌, List, [], ◌∷◌, ◌++◌, length, get_or, flat_map, Option, Some, None, refl, sym, ◌∙◌, ap, subst, inl, inr, arith, nat_lt, append-nil, lit<}
use Rattle.std.proofs.lemmas.Bool.{cases_order}
use Rattle.std.proofs.lemmas.Bool.Decides.{nat_tests}
use Rattle.std.proofs.lemmas.Grind.{flat_map-append}
use Rattle.std.proofs.lemmas.Str.{IsUtf8-append, IsUtf8-from_ascii, IsUtf8-encode, IsUtf8-nil, encode_ascii, inside_one}
use Rattle.std.specs.Char.{digit_char}
use Rattle.std.specs.List.{list_all}
use Rattle.std.specs.Str.{IsUtf8, IsAscii}
use lib.Utf8.{scalar, scalars, encode, encodes}
use Rattle.arrow_base.specs.JsonString.{is_unescaped, hexadecimal, short_escape, IsChar, Chars, no_chars, one_char, JsonString}
use Rattle.arrow_base.proofs.Decisions.{both, T-true, by_test, passes_below, passes-at}
use Rattle.arrow_base.specs.WrittenString.{escaped, json_string}

-- ---- the characters of the string

abbrev is_value : Option ℕ → ℕ → Bool
is_value None n = false
is_value (Some m) n = m == n

is_value-true : (o : Option ℕ) (n : ℕ) → T (is_value o n) → o ≡ Some n
is_value-true None n h = absurd h
is_value-true (Some m) n h = ap (λ x. Some x) (grind (arith, nat_tests, h))

-- the digits of a control character encode it
digits-encode : (byte : ℕ) → byte < 32 → hexadecimal 48 48 (digit_char (byte / 16)) (digit_char (byte % 16)) ≡ Some byte
unfolding hexadecimal passes_below
digits-encode byte l =
    is_value-true _ byte (passes-at (λ (b : ℕ). is_value (hexadecimal 48 48 (digit_char (b / 16)) (digit_char (b % 16))) b) 32 tt byte l)

escaped-control : (byte : ℕ) → byte < 32 → IsChar (92 ∷ 117 ∷ 48 ∷ 48 ∷ digit_char (byte / 16) ∷ digit_char (byte % 16) ∷ []) (byte ∷ [])
escaped-control byte l =
    inr (inr (inl (byte, (48, 48, digit_char (byte / 16), digit_char (byte % 16), refl, digits-encode byte l), sym (encode_ascii byte (omega (arith, l))), grind (arith, nat_tests, l), grind (arith, nat_tests, l))))

pub escaped-char : (byte : ℕ) → IsChar (escaped byte) (byte ∷ [])
unfolding is_unescaped short_escape
escaped-char byte =
    by_test _ (byte == 0x22) (λ e. at 0x22 e (inr (inl (0x22, 0x22, refl, refl, refl))))
    (λ n1. by_test _ (byte == 0x5c) (λ e. at 0x5c e (inr (inl (0x5c, 0x5c, refl, refl, refl))))
    (λ n2. by_test _ (byte == 0x08) (λ e. at 0x08 e (inr (inl (0x62, 0x08, refl, refl, refl))))
    (λ n3. by_test _ (byte == 0x09) (λ e. at 0x09 e (inr (inl (0x74, 0x09, refl, refl, refl))))
    (λ n4. by_test _ (byte == 0x0a) (λ e. at 0x0a e (inr (inl (0x6e, 0x0a, refl, refl, refl))))
    (λ n5. by_test _ (byte == 0x0c) (λ e. at 0x0c e (inr (inl (0x66, 0x0c, refl, refl, refl))))
    (λ n6. by_test _ (byte == 0x0d) (λ e. at 0x0d e (inr (inl (0x72, 0x0d, refl, refl, refl))))
    (λ n7. by_test _ (nat_lt byte 0x20)
    (λ l. rw (n1, n2, n3, n4, n5, n6, n7, l) (escaped-control byte (grind (arith, nat_tests, l))))
    (λ n8. rw (n1, n2, n3, n4, n5, n6, n7, n8) (inl (byte, refl, refl, grind (arith, nat_tests, n1, n2, n8)))))))))))
  where
    at : (b : ℕ) → (byte == b) ≡ true → IsChar (escaped b) (b ∷ []) → IsChar (escaped byte) (byte ∷ [])
    at b e h = let is : b ≡ byte = grind (arith, nat_tests, e) in subst (λ x. IsChar (escaped x) (x ∷ [])) is h

pub escaped-chars : (text : List ℕ) → Chars (flat_map escaped text) text
escaped-chars [] = no_chars
escaped-chars (byte ∷ text) = one_char (escaped byte) (byte ∷ []) (flat_map escaped text) text (escaped-char byte) (escaped-chars text) refl refl

-- ---- the string is UTF-8

is_ascii-all : (bytes : List ℕ) → T (list_all (λ b. nat_lt b 128) bytes) → IsAscii bytes
is_ascii-all [] h i = lit< tt
is_ascii-all (b ∷ bs) h zero = let l : T (nat_lt b 128) = (both (nat_lt b 128) (list_all (λ b. nat_lt b 128) bs) h).0 in grind (arith, nat_tests, l)
is_ascii-all (b ∷ bs) h (suc i) = is_ascii-all bs (both (nat_lt b 128) (list_all (λ b. nat_lt b 128) bs) h).1 i

escaped-ascii : (char : ℕ) → char < 128 → IsUtf8 (escaped char)
unfolding passes_below
escaped-ascii char l = IsUtf8-from_ascii _ (is_ascii-all _ (passes-at (λ (c : ℕ). list_all (λ b. nat_lt b 128) (escaped c)) 128 tt char l))

-- a byte that is not ASCII stands as it is
escaped-high : (byte : ℕ) → 128 ≤ byte → escaped byte ≡ byte ∷ []
escaped-high byte l = grind (arith, nat_tests, l)

escaped-all_high : (bytes : List ℕ) → ((k : ℕ) → k < length bytes → 128 ≤ get_or bytes k 0) → flat_map escaped bytes ≡ bytes
escaped-all_high [] h = refl
escaped-all_high (b ∷ bs) h =
    let first : escaped b ≡ b ∷ [] = escaped-high b (h 0 (omega arith)) in
    let rest : flat_map escaped bs ≡ bs = escaped-all_high bs (λ k l. h (suc k) (omega (arith, l))) in
    ap (λ (l : List ℕ). l ++ flat_map escaped bs) first ∙ ap (λ (l : List ℕ). b ∷ l) rest

escaped-encode : (char : ℕ) → scalar char ≡ true → IsUtf8 (flat_map escaped (encode char))
escaped-encode char s = go (cases_order char 128)
  where
    high : 128 ≤ char → IsUtf8 (flat_map escaped (encode char))
    high l = rw (escaped-all_high (encode char) (λ k w. not_low k w l (cases_order (get_or (encode char) k 0) 128))) (IsUtf8-encode char s)
      where
        not_low : (k : ℕ) → k < length (encode char) → 128 ≤ char → (get_or (encode char) k 0 ≡ 128) ⊎ ((get_or (encode char) k 0 < 128) ⊎ (128 < get_or (encode char) k 0)) → 128 ≤ get_or (encode char) k 0
        not_low k w l (inl e) = omega (arith, e)
        not_low k w l (inr (inl b)) = absurd (omega (arith, inside_one char [] (encode char) k (sym (append-nil (encode char))) w b, l, b))
        not_low k w l (inr (inr b)) = omega (arith, b)

    low : char < 128 → IsUtf8 (flat_map escaped (encode char))
    low l = rw (encode_ascii char l, append-nil (escaped char)) (escaped-ascii char l)

    go : (char ≡ 128) ⊎ ((char < 128) ⊎ (128 < char)) → IsUtf8 (flat_map escaped (encode char))
    go (inl e) = high (omega (arith, e))
    go (inr (inl l)) = low l
    go (inr (inr l)) = high (omega (arith, l))

escaped-encodes : (chars : List ℕ) → scalars chars ≡ true → IsUtf8 (flat_map escaped (encodes chars))
escaped-encodes [] s = IsUtf8-nil
escaped-encodes (c ∷ cs) s =
    let parts : T (scalar c) × T (scalars cs) = both (scalar c) (scalars cs) (subst T (sym s) tt) in
    rw (flat_map-append escaped (encode c) (encodes cs)) (IsUtf8-append _ _ (escaped-encode c (T-true _ parts.0)) (escaped-encodes cs (T-true _ parts.1)))

escaped-utf8 : (text : List ℕ) → IsUtf8 text → IsUtf8 (flat_map escaped text)
escaped-utf8 text h = subst (λ (l : List ℕ). IsUtf8 (flat_map escaped l)) h.1.1 (escaped-encodes h.0 h.1.0)

quote-utf8 : IsUtf8 (34 ∷ [])
quote-utf8 = IsUtf8-from_ascii _ (is_ascii-all (34 ∷ []) tt)

pub reads_back : (text : List ℕ) → IsUtf8 text → JsonString (json_string text) text
reads_back text h = record {
  utf8 = IsUtf8-append (34 ∷ []) (flat_map escaped text ++ 34 ∷ []) quote-utf8 (IsUtf8-append _ _ (escaped-utf8 text h) quote-utf8);
  string = (flat_map escaped text, refl, escaped-chars text);
}
