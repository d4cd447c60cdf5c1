-- The lines of bytes, and which of them are rows.
use Rattle.std.specs.Prelude.{◌≡◌, ◌⊎◌, ℕ, ◌==◌, ◌<◌, List, [], ◌∷◌, ◌++◌, Bool, not, if◌then◌else◌, length, take, filter, count_by, All, IsUtf8}
use Rattle.std.specs.Str.{trim}

-- a byte before the first of some lines
unfoldable pub onto_first : ℕ → List (List ℕ) → List (List ℕ)
onto_first byte [] = (byte ∷ []) ∷ []
onto_first byte (line ∷ lines) = (byte ∷ line) ∷ lines

-- a line feed, which ends a line
abbrev pub is_line_feed : ℕ → Bool
is_line_feed byte = byte == 10

-- the lines of bytes: each runs through its line feed, and the last one to the end, where it has none
unfoldable pub lines : List ℕ → List (List ℕ)
lines [] = []
lines (byte ∷ bytes) = if is_line_feed byte then (byte ∷ []) ∷ lines bytes else onto_first byte (lines bytes)

-- how many line feeds there are
abbrev pub line_feeds : List ℕ → ℕ
line_feeds bytes = count_by is_line_feed bytes

-- the bytes are whole lines: there are none, or a line feed stands last
abbrev pub EndsLine : List ℕ → Type 0
EndsLine bytes = (bytes ≡ []) ⊎ ((prefix : List ℕ) × (bytes ≡ prefix ++ 10 ∷ []))

-- a line is a row where std's `trim`, which takes Unicode's white space off both ends, leaves something of it
abbrev pub is_row : List ℕ → Bool
is_row line = not (length (trim line) == 0)

-- the rows of bytes, in order
abbrev pub rows_of : List ℕ → List (List ℕ)
rows_of bytes = filter is_row (lines bytes)

-- after these lines another one is wanted: they have fewer rows than are wanted, and all of them are UTF-8
pub record IsWanted (wanted : ℕ) (before : List (List ℕ)) : Type 0 where
  pub fewer : length (filter is_row before) < wanted
  pub utf8 : All IsUtf8 before

-- each of the lines was wanted after those before it
abbrev pub EachWanted : ℕ → List (List ℕ) → Type 0
EachWanted wanted all = (k : ℕ) → k < length all → IsWanted wanted (take k all)
