-- Names and numbers in the words of a command line.
use Rattle.std.specs.Prelude.{◌≡◌, ℕ, ◌≤◌, ◌==◌, ◌||◌, Bool, List, length, IsTrue}
use Rattle.std.specs.List.{list_all}
use Rattle.std.specs.Char.{is_ascii_alphanumeric}
use Rattle.std.specs.Str.Parse.{IsNumeral, digits_value}

-- a letter, a digit, '_', '-' or '.'
abbrev pub name_byte : ℕ → Bool
name_byte byte = is_ascii_alphanumeric byte || ((byte == 95) || ((byte == 45) || (byte == 46)))

-- one or more of them
abbrev pub IsName : List ℕ → Type 0
IsName word = (1 ≤ length word) × IsTrue (list_all name_byte word)

-- one to so many decimal digits of a number up to the greatest
abbrev pub IsNumber : ℕ → ℕ → List ℕ → ℕ → Type 0
IsNumber most_digits greatest word number =
    IsNumeral 10 word × (length word ≤ most_digits) × (number ≤ greatest) × (number ≡ digits_value 10 word)

-- a number of rows
abbrev pub IsRows : List ℕ → ℕ → Type 0
IsRows = IsNumber 20 18446744073709551615

-- a size, a precision or a scale
abbrev pub IsSize : List ℕ → ℕ → Type 0
IsSize = IsNumber 10 2147483647
