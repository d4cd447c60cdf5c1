-- What a JSON string means is UTF-8 where the text that it stands in is (RFC 8259, sections 7 and 8.1).
use Rattle.std.proofs.Common.{◌≡◌, ◌∙◌, inl, inr, ℕ, ◌+◌, ◌*◌, ◌<◌, ◌==◌, ◌||◌, ◌&&◌, Bool, true, false, cond, List, [], ◌∷◌, ◌++◌, length, get_or, drop, Option, Some, None, refl, sym, ap, subst, append_assoc, arith}
use Rattle.std.specs.List.{AllByRecursion}
use Rattle.std.specs.Char.{digit_value, is_digit, IsScalar}
use Rattle.std.specs.Char.Utf16.{is_high_surrogate, is_low_surrogate, surrogate_pair_char}
use Rattle.std.specs.Str.{IsUtf8}
use Rattle.std.proofs.lemmas.Bool.{and_parts}
use Rattle.std.proofs.lemmas.Bool.Decides.{nat_tests}
use Rattle.std.proofs.lemmas.List.{length-append, take_at, drop_at}
use Rattle.std.proofs.lemmas.Option.{none-some, same_Some}
use Rattle.std.proofs.lemmas.Str.{IsUtf8-append, IsUtf8-drop, IsUtf8-take, IsUtf8-encode, IsUtf8-from_ascii, IsCharBoundary-after_ascii, IsCharBoundary-before_ascii}
use Rattle.std.proofs.lemmas.Str.Ascii.{IsAscii-cons, IsAscii-nil}
use Rattle.arrow_base.specs.JsonString.{hexadecimal, short_escape, Chars, no_chars, one_char}

-- ---- beside an ASCII byte

get_at : (q r : List ℕ) (x : ℕ) → get_or (q ++ x ∷ r) (length q) 0 ≡ x
get_at [] r x = refl
get_at (y ∷ q) r x = get_at q r x

-- what stands before it
pub utf8_before : (q r : List ℕ) (x : ℕ) → x < 128 → IsUtf8 (q ++ x ∷ r) → IsUtf8 q
utf8_before q r x l u =
    let b = IsCharBoundary-before_ascii (q ++ x ∷ r) (length q) (omega (arith, length-append q (x ∷ r))) (omega (arith, get_at q r x, l)) in
    subst IsUtf8 (take_at q (x ∷ r) (length q) refl) (IsUtf8-take (q ++ x ∷ r) (length q) u b)

-- what stands after it
pub utf8_behind : (q r : List ℕ) (x : ℕ) → x < 128 → IsUtf8 (q ++ x ∷ r) → IsUtf8 r
utf8_behind q r x l u =
    let at : get_or (q ++ x ∷ r) (length q) 0 ≡ x = get_at q r x in
    let b = IsCharBoundary-after_ascii (q ++ x ∷ r) (length q) u (omega (arith, length-append q (x ∷ r))) (omega (arith, at, l)) in
    let n : length q + 1 ≡ length (q ++ x ∷ []) = omega (arith, length-append q (x ∷ [])) in
    let d : drop (length q + 1) (q ++ x ∷ r) ≡ r = ap (λ k. drop k (q ++ x ∷ r)) n ∙ ap (drop (length (q ++ x ∷ []))) (sym (append_assoc q (x ∷ []) r)) ∙ drop_at (q ++ x ∷ []) r (length (q ++ x ∷ [])) refl in
    subst IsUtf8 d (IsUtf8-drop (q ++ x ∷ r) (length q + 1) u b)

-- ---- escapes

abbrev pub AreAscii : List ℕ → Type 0
AreAscii = AllByRecursion (λ (b : ℕ). b < 128)

after_ascii : (bytes rest : List ℕ) → AreAscii bytes → IsUtf8 (bytes ++ rest) → IsUtf8 rest
after_ascii [] rest all u = u
after_ascii (b ∷ bytes) rest all u = after_ascii bytes rest all.1 (utf8_behind [] (bytes ++ rest) b all.0 u)

-- digits of any base up to 36 are ASCII
digit_ascii : (b : ℕ) → is_digit b 16 ≡ true → b < 128
digit_ascii b h = grind (arith, nat_tests, h)

digit_small : (b : ℕ) → is_digit b 16 ≡ true → digit_value b < 16
digit_small b h = grind (arith, nat_tests, h)

-- a code unit: its bytes, and its number
record Unit' (a b c d unit : ℕ) : Type 0 where
  bytes : AreAscii (0x5c ∷ 0x75 ∷ a ∷ b ∷ c ∷ d ∷ [])
  small : unit < 65536

code_unit : (a b c d unit : ℕ) → hexadecimal a b c d ≡ Some unit → Unit' a b c d unit
unfolding hexadecimal
code_unit a b c d unit = by (is_digit a 16 && (is_digit b 16 && (is_digit c 16 && is_digit d 16))) refl
  where
    by : (v : Bool) → (is_digit a 16 && (is_digit b 16 && (is_digit c 16 && is_digit d 16))) ≡ v
        → cond v (Some (digit_value a * 4096 + digit_value b * 256 + digit_value c * 16 + digit_value d)) None ≡ Some unit → Unit' a b c d unit
    by false e h = absurd (none-some unit h)
    by true e h =
        let p = and_parts (is_digit a 16) (is_digit b 16 && (is_digit c 16 && is_digit d 16)) e in
        let q = and_parts (is_digit b 16) (is_digit c 16 && is_digit d 16) p.1 in
        let r = and_parts (is_digit c 16) (is_digit d 16) q.1 in
        let is : digit_value a * 4096 + digit_value b * 256 + digit_value c * 16 + digit_value d ≡ unit = same_Some _ unit h in
        record {
          bytes = (omega arith, (omega arith, (digit_ascii a p.0, (digit_ascii b q.0, (digit_ascii c r.0, (digit_ascii d r.1, tt))))));
          small = omega (arith, is, digit_small a p.0, digit_small b q.0, digit_small c r.0, digit_small d r.1);
        }

-- the bytes of an escape, at least one, and what it means
record Escape (bytes meant : List ℕ) : Type 0 where
  first : ℕ
  more : List ℕ
  is : bytes ≡ first ∷ more
  ascii : AreAscii (first ∷ more)
  utf8 : IsUtf8 meant

short_ascii : (byte char : ℕ) → short_escape byte ≡ Some char → (byte < 128) × (char < 128)
unfolding short_escape
short_ascii byte char = both ((byte == 0x22) || ((byte == 0x5c) || (byte == 0x2f))) refl
  where
    at : (b : ℕ) (rest : Option ℕ) (meaning : ℕ) → b < 128 → meaning < 128 → (rest ≡ Some char → (byte < 128) × (char < 128)) → cond (byte == b) (Some meaning) rest ≡ Some char → (byte < 128) × (char < 128)
    at b rest meaning l m other = go (byte == b) refl
      where
        go : (v : Bool) → (byte == b) ≡ v → cond v (Some meaning) rest ≡ Some char → (byte < 128) × (char < 128)
        go true e h = let is : byte ≡ b = grind (arith, nat_tests, e) in let same : meaning ≡ char = same_Some meaning char h in (omega (arith, is, l), omega (arith, same, m))
        go false e h = other h

    both : (v : Bool) → ((byte == 0x22) || ((byte == 0x5c) || (byte == 0x2f))) ≡ v → cond v (Some byte) (cond (byte == 0x62) (Some 0x08) (cond (byte == 0x66) (Some 0x0c) (cond (byte == 0x6e) (Some 0x0a) (cond (byte == 0x72) (Some 0x0d) (cond (byte == 0x74) (Some 0x09) None))))) ≡ Some char → (byte < 128) × (char < 128)
    both true e h = let l : byte < 128 = grind (arith, nat_tests, e) in let same : byte ≡ char = same_Some byte char h in (l, omega (arith, same, l))
    both false e h =
        at 0x62 _ 0x08 (omega arith) (omega arith) (at 0x66 _ 0x0c (omega arith) (omega arith) (at 0x6e _ 0x0a (omega arith) (omega arith) (at 0x72 _ 0x0d (omega arith) (omega arith) (at 0x74 _ 0x09 (omega arith) (omega arith) (λ n. absurd (none-some char n)))))) h

lone_scalar : (unit : ℕ) → unit < 65536 → is_high_surrogate unit ≡ false → is_low_surrogate unit ≡ false → IsScalar unit
lone_scalar unit l high low = grind (arith, nat_tests, l, high, low)

pair_scalar : (high low : ℕ) → is_high_surrogate high ≡ true → is_low_surrogate low ≡ true → IsScalar (surrogate_pair_char high low)
pair_scalar high low h k = grind (arith, nat_tests, h, k)

one_ascii : (c : ℕ) → c < 128 → IsUtf8 (c ∷ [])
one_ascii c l = IsUtf8-from_ascii (c ∷ []) (IsAscii-cons c [] l IsAscii-nil)

append_ascii : (xs ys : List ℕ) → AreAscii xs → AreAscii ys → AreAscii (xs ++ ys)
append_ascii [] ys all more = more
append_ascii (x ∷ xs) ys all more = (all.0, append_ascii xs ys all.1 more)

-- ---- characters

-- `before` is what stands before: bytes of a character may be seen one by one
escape_then : (before bytes text first meant more rest : List ℕ) → Escape first meant → (IsUtf8 more → IsUtf8 rest) → bytes ≡ first ++ more → text ≡ meant ++ rest → IsUtf8 (before ++ bytes) → IsUtf8 (before ++ text)
escape_then before bytes text first meant more rest e follows is means u =
    let whole : before ++ bytes ≡ before ++ e.first ∷ (e.more ++ more) = ap (λ b. before ++ b) (is ∙ ap (λ f. f ++ more) e.is) in
    let v : IsUtf8 (before ++ e.first ∷ (e.more ++ more)) = subst IsUtf8 whole u in
    let head : IsUtf8 before = utf8_before before (e.more ++ more) e.first e.ascii.0 v in
    let tail : IsUtf8 more = after_ascii e.more more e.ascii.1 (utf8_behind before (e.more ++ more) e.first e.ascii.0 v) in
    subst IsUtf8 (ap (λ t. before ++ t) (sym means)) (IsUtf8-append before (meant ++ rest) head (IsUtf8-append meant rest e.utf8 (follows tail)))

pub chars_utf8 : (before : List ℕ) {bytes text : List ℕ} → Chars bytes text → IsUtf8 (before ++ bytes) → IsUtf8 (before ++ text)
chars_utf8 before no_chars u = u
chars_utf8 before (one_char first meant more rest (inl h) chars is means) u =
    let whole = ap (λ b. before ++ b) (is ∙ ap (λ f. f ++ more) h.1) ∙ sym (append_assoc before (h.0 ∷ []) more) in
    let shown = append_assoc before (h.0 ∷ []) rest ∙ ap (λ t. before ++ t) (sym (means ∙ ap (λ f. f ++ rest) h.2)) in
    subst IsUtf8 shown (chars_utf8 (before ++ h.0 ∷ []) chars (subst IsUtf8 whole u))
chars_utf8 before (one_char {bytes = bytes} {text = text} first meant more rest (inr (inl h)) chars is means) u =
    let ascii = short_ascii h.0 h.1 h.4 in
    escape_then before bytes text first meant more rest
    (record { first = 0x5c; more = h.0 ∷ []; is = h.2; ascii = (omega arith, (ascii.0, tt)); utf8 = subst IsUtf8 (sym h.3) (one_ascii h.1 ascii.1) }) (chars_utf8 [] chars) is means u
chars_utf8 before (one_char {bytes = bytes} {text = text} first meant more rest (inr (inr (inl h))) chars is means) u =
    let unit = h.1 in
    let known = code_unit unit.0 unit.1 unit.2 unit.3 h.0 unit.5 in
    escape_then before bytes text first meant more rest
    (record { first = 0x5c; more = 0x75 ∷ unit.0 ∷ unit.1 ∷ unit.2 ∷ unit.3 ∷ []; is = unit.4; ascii = known.bytes; utf8 = subst IsUtf8 (sym h.2) (IsUtf8-encode h.0 (lone_scalar h.0 known.small h.3 h.4)) }) (chars_utf8 [] chars) is means u
chars_utf8 before (one_char {bytes = bytes} {text = text} first meant more rest (inr (inr (inr h))) chars is means) u =
    let one = h.5 in
    let two = h.6 in
    let high = code_unit one.0 one.1 one.2 one.3 h.2 one.5 in
    let low = code_unit two.0 two.1 two.2 two.3 h.3 two.5 in
    let joined : first ≡ 0x5c ∷ ((0x75 ∷ one.0 ∷ one.1 ∷ one.2 ∷ one.3 ∷ []) ++ (0x5c ∷ 0x75 ∷ two.0 ∷ two.1 ∷ two.2 ∷ two.3 ∷ [])) = h.4 ∙ (λ i. one.4 i ++ two.4 i) in
    escape_then before bytes text first meant more rest
    (record {
      first = 0x5c;
      more = (0x75 ∷ one.0 ∷ one.1 ∷ one.2 ∷ one.3 ∷ []) ++ (0x5c ∷ 0x75 ∷ two.0 ∷ two.1 ∷ two.2 ∷ two.3 ∷ []);
      is = joined;
      ascii = append_ascii (0x5c ∷ 0x75 ∷ one.0 ∷ one.1 ∷ one.2 ∷ one.3 ∷ []) (0x5c ∷ 0x75 ∷ two.0 ∷ two.1 ∷ two.2 ∷ two.3 ∷ []) high.bytes low.bytes;
      utf8 = subst IsUtf8 (sym h.7) (IsUtf8-encode (surrogate_pair_char h.2 h.3) (pair_scalar h.2 h.3 h.8 h.9));
    }) (chars_utf8 [] chars) is means u

-- what stands between quotation marks in a text
pub quoted_utf8 : (before inside after text : List ℕ) → Chars inside text → IsUtf8 (before ++ ((0x22 ∷ (inside ++ 0x22 ∷ [])) ++ after)) → IsUtf8 text
quoted_utf8 before inside after text chars u =
    let one : IsUtf8 ((inside ++ 0x22 ∷ []) ++ after) = utf8_behind before ((inside ++ 0x22 ∷ []) ++ after) 0x22 (omega arith) u in
    let two : IsUtf8 (inside ++ 0x22 ∷ after) = subst IsUtf8 (append_assoc inside (0x22 ∷ []) after) one in
    chars_utf8 [] chars (utf8_before inside after 0x22 (omega arith) two)
