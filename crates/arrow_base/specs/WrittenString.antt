-- The JSON string that is written for a text (RFC 8259, section 7).
use Rattle.std.specs.Prelude.{ℕ, ◌/◌, ◌%◌, ◌==◌, nat_lt, if◌then◌else◌, List, [], ◌∷◌, ◌++◌, flat_map}
use Rattle.std.specs.Char.{digit_char}
use Rattle.arrow_base.specs.declared.utf8.CharEscape.{CharEscape}
use Rattle.arrow_base.specs.declared.utf8.CharEscape.TheVariants.{Quote, ReverseSolidus, Backspace, FormFeed, LineFeed, CarriageReturn, Tab, AsciiControl}

-- the bytes of an escape: a reverse solidus and a letter, or `\u00` and two lower hexadecimal digits
abbrev pub escape_bytes : CharEscape → List ℕ
escape_bytes Quote = 0x5c ∷ 0x22 ∷ []
escape_bytes ReverseSolidus = 0x5c ∷ 0x5c ∷ []
escape_bytes Backspace = 0x5c ∷ 0x62 ∷ []
escape_bytes FormFeed = 0x5c ∷ 0x66 ∷ []
escape_bytes LineFeed = 0x5c ∷ 0x6e ∷ []
escape_bytes CarriageReturn = 0x5c ∷ 0x72 ∷ []
escape_bytes Tab = 0x5c ∷ 0x74 ∷ []
escape_bytes (AsciiControl byte) = 0x5c ∷ 0x75 ∷ 0x30 ∷ 0x30 ∷ digit_char (byte / 16) ∷ digit_char (byte % 16) ∷ []

-- a byte of the text, within the string
abbrev pub escaped : ℕ → List ℕ
escaped byte =
    if byte == 0x22 then escape_bytes Quote
    else if byte == 0x5c then escape_bytes ReverseSolidus
    else if byte == 0x08 then escape_bytes Backspace
    else if byte == 0x09 then escape_bytes Tab
    else if byte == 0x0a then escape_bytes LineFeed
    else if byte == 0x0c then escape_bytes FormFeed
    else if byte == 0x0d then escape_bytes CarriageReturn
    else if nat_lt byte 0x20 then escape_bytes (AsciiControl byte)
    else byte ∷ []

-- the string of the text, between quotation marks
abbrev pub json_string : List ℕ → List ℕ
json_string text = 0x22 ∷ flat_map escaped text ++ 0x22 ∷ []
