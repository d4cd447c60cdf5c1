-- Which rows tell the type of lines, and how far the lines are read for it.
use Rattle.std.specs.Prelude.{ℕ, zero, suc, ◌+◌, ◌<◌, ◌≤◌, List, [], ◌∷◌, Option, None, Some, if◌then◌else◌, length, take, filter, All, IsUtf8}
use Rattle.json_tree.specs.declared.value.Value.{Value}
use Rattle.json_tree.specs.Meaning.{IsJson}
use Rattle.ndjson_read.specs.Lines.{lines, is_row}

-- the rows that tell the type: all of them, or the first ones
abbrev pub first_rows : Option ℕ → List (List ℕ) → List (List ℕ)
first_rows None rows = rows
first_rows (Some number) rows = take number rows

-- each value is what the row at its index stands for, as a JSON text in which at most 128 brackets are open at once
abbrev pub StandFor : List (List ℕ) → List Value → Type 0
StandFor [] [] = Unit {0}
StandFor (row ∷ rows) (value ∷ values) = IsJson value row × StandFor rows values
StandFor _ _ = ⊥

-- so many rows are fewer than tell the type
abbrev pub Fewer : ℕ → Option ℕ → Type 0
Fewer rows None = Unit {0}
Fewer rows (Some number) = rows < number

-- after these lines another one is needed: their rows are fewer than tell the type, the lines are UTF-8, and the rows are JSON texts
-- in which at most 128 brackets are open at once
pub record IsNeeded (number : Option ℕ) (before : List (List ℕ)) : Type 0 where
  pub fewer : Fewer (length (filter is_row before)) number
  pub utf8 : All IsUtf8 before
  pub json : (values : List Value) × StandFor (filter is_row before) values

-- each of the lines was needed after those before it
abbrev pub EachNeeded : Option ℕ → List (List ℕ) → Type 0
EachNeeded number all = (k : ℕ) → k < length all → IsNeeded number (take k all)

-- of these bytes no line was begun that wasn't needed; where no rows tell the type, they are no more than one byte
abbrev pub NoMore : Option ℕ → List ℕ → Type 0
NoMore None taken = EachNeeded None (lines taken)
NoMore (Some zero) taken = length taken ≤ 1
NoMore (Some (suc number)) taken = EachNeeded (Some (suc number)) (lines taken)

-- the lines through the row that is the last of so many
abbrev pub through_rows : ℕ → List (List ℕ) → List (List ℕ)
through_rows zero all = []
through_rows (suc number) [] = []
through_rows (suc number) (line ∷ all) = line ∷ (if is_row line then through_rows number all else through_rows (suc number) all)

-- the lines that are read: all of them, or those through the last row that tells the type
abbrev pub needed_lines : Option ℕ → List (List ℕ) → List (List ℕ)
needed_lines None all = all
needed_lines (Some number) all = through_rows number all

-- how many bytes the lines have
abbrev pub size_of_lines : List (List ℕ) → ℕ
size_of_lines [] = 0
size_of_lines (line ∷ all) = length line + size_of_lines all
