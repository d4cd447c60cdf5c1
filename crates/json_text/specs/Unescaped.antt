-- Strings that stand in JSON strings as they are (RFC 8259, section 7).
use Rattle.std.specs.Prelude.{◌≡◌, ℕ, List, flat_map}
use Rattle.arrow_base.specs.WrittenString.{escaped}

-- no byte of the string needs an escape
abbrev pub IsUnescaped : List ℕ → Type 0
IsUnescaped string = flat_map escaped string ≡ string
