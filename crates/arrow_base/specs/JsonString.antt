-- JSON strings (RFC 8259, section 7), over bytes: which bytes are a string, and which text it means.
use Rattle.std.specs.Prelude.{◌≡◌, ◌⊎◌, ℕ, ◌+◌, ◌*◌, List, [], ◌∷◌, ◌++◌, Bool, true, false, not, ◌==◌, ◌||◌, ◌&&◌, nat_le, Option, Some, None, if◌then◌else◌}
use Rattle.std.specs.Char.{digit_value, is_digit, encode_utf8}
use Rattle.std.specs.Char.Utf16.{is_high_surrogate, is_low_surrogate, surrogate_pair_char}
use Rattle.std.specs.Str.{IsUtf8}

-- a byte of a character that may stand as it is: neither below 0x20, nor a quotation mark, nor a reverse solidus
unfoldable pub is_unescaped : ℕ → Bool
is_unescaped byte = nat_le 0x20 byte && (not (byte == 0x22) && not (byte == 0x5c))

-- what a reverse solidus and this byte stand for, where the byte is no `u`
unfoldable pub short_escape : ℕ → Option ℕ
short_escape byte =
    if (byte == 0x22) || ((byte == 0x5c) || (byte == 0x2f)) then Some byte
    else if byte == 0x62 then Some 0x08
    else if byte == 0x66 then Some 0x0c
    else if byte == 0x6e then Some 0x0a
    else if byte == 0x72 then Some 0x0d
    else if byte == 0x74 then Some 0x09
    else None

-- the number that four hexadecimal digits of either case encode
unfoldable pub hexadecimal : ℕ → ℕ → ℕ → ℕ → Option ℕ
hexadecimal a b c d =
    if is_digit a 16 && (is_digit b 16 && (is_digit c 16 && is_digit d 16))
    then Some (digit_value a * 4096 + digit_value b * 256 + digit_value c * 16 + digit_value d)
    else None

-- `\u` and four hexadecimal digits, which encode the code unit
abbrev pub IsCodeUnit : List ℕ → ℕ → Type 0
IsCodeUnit bytes unit =
    (a : ℕ) × (b : ℕ) × (c : ℕ) × (d : ℕ) × (bytes ≡ 0x5c ∷ 0x75 ∷ a ∷ b ∷ c ∷ d ∷ []) × (hexadecimal a b c d ≡ Some unit)

-- The forms of a character. The bytes are on the left, and on the right is what they add to the text.

abbrev pub IsUnescaped : List ℕ → List ℕ → Type 0
IsUnescaped bytes text = (byte : ℕ) × (bytes ≡ byte ∷ []) × (text ≡ byte ∷ []) × (is_unescaped byte ≡ true)

abbrev pub IsShortEscape : List ℕ → List ℕ → Type 0
IsShortEscape bytes text = (byte : ℕ) × (char : ℕ) × (bytes ≡ 0x5c ∷ byte ∷ []) × (text ≡ char ∷ []) × (short_escape byte ≡ Some char)

-- a code unit that is no surrogate
abbrev pub IsUnicodeEscape : List ℕ → List ℕ → Type 0
IsUnicodeEscape bytes text =
    (unit : ℕ) × IsCodeUnit bytes unit × (text ≡ encode_utf8 unit) × (is_high_surrogate unit ≡ false) × (is_low_surrogate unit ≡ false)

-- a high and a low surrogate, which join to one character
abbrev pub IsSurrogatePair : List ℕ → List ℕ → Type 0
IsSurrogatePair bytes text =
    (first : List ℕ) × (second : List ℕ) × (high : ℕ) × (low : ℕ) × (bytes ≡ first ++ second) × IsCodeUnit first high × IsCodeUnit second low
    × (text ≡ encode_utf8 (surrogate_pair_char high low)) × (is_high_surrogate high ≡ true) × (is_low_surrogate low ≡ true)

abbrev pub IsChar : List ℕ → List ℕ → Type 0
IsChar bytes text = IsUnescaped bytes text ⊎ (IsShortEscape bytes text ⊎ (IsUnicodeEscape bytes text ⊎ IsSurrogatePair bytes text))

-- any number of characters, one after another
pub data Chars : List ℕ → List ℕ → Type 0 where
  no_chars : Chars [] []
  one_char : {bytes text : List ℕ} (first meant more rest : List ℕ) → IsChar first meant → Chars more rest → bytes ≡ first ++ more → text ≡ meant ++ rest → Chars bytes text

-- characters between quotation marks
abbrev pub IsString : List ℕ → List ℕ → Type 0
IsString bytes text = (inside : List ℕ) × (bytes ≡ 0x22 ∷ (inside ++ 0x22 ∷ [])) × Chars inside text

-- The bytes are a JSON string, and the text is its meaning. Section 8.1: JSON is UTF-8, so whole characters stand unescaped.
pub record JsonString (bytes text : List ℕ) : Type 0 where
  pub utf8 : IsUtf8 bytes
  pub string : IsString bytes text
