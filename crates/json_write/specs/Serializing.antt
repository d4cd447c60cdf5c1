-- What contracts see of a serializer of rows.
use Rattle.std.specs.Prelude.{◌≡◌, ℕ, zero, suc, ◌-◌, cond, Option, Some, None, List, [], ◌∷◌, Result, Ok, OnOk, OnErr, IfErr}
use Rattle.arrow_core.specs.declared.error.Error.{Error}
use Rattle.arrow_core.specs.declared.error.Error.TheVariants.{OutOfMemory}
use Rattle.arrow_array.specs.declared.array.Array.{Array}
use Rattle.json_text.specs.declared.columns.Column.{Column}
use Rattle.json_text.specs.Columns.{columns_object}
use Rattle.lending.specs.Joined.{MovesOn}
use Rattle.json_write.specs.declared.record.RecordSerializer.{RecordSerializer}

-- cited by private contracts and `rows_of` alone: the objects of n rows from row i on, by their columns
abbrev pub column_rows : List Array → List Column → ℕ → ℕ → List (List ℕ)
column_rows arrays columns i zero = []
column_rows arrays columns i (suc n) = columns_object arrays columns i ∷ column_rows arrays columns (suc i) n

-- how many rows are still to be shown, unless memory runs out
abbrev pub rows_left : RecordSerializer → ℕ
rows_left s = s.count - s.at

-- what is shown
abbrev pub shown_of : RecordSerializer → Option (List ℕ)
shown_of s = cond s.is_valid (Some s.buffer.items) None

-- the objects of the rows still to be shown
abbrev pub rows_of : RecordSerializer → List (List ℕ)
rows_of s = column_rows s.arrays.now s.columns.items s.at (rows_left s)

-- one `advance`: the next row is shown, or nothing after the last; where memory runs out nothing is shown, and no row comes any more
pub record Advances (before : RecordSerializer) (answer : Result (Unit {0}) Error) (after : RecordSerializer) : Type 0 where
  pub next : OnOk answer (MovesOn (rows_of before) (shown_of after) (rows_of after))
  pub after_the_last : rows_of before ≡ [] → answer ≡ Ok tt
  pub memory : IfErr answer (λ e. e ≡ OutOfMemory)
  pub stays : OnErr answer ((shown_of after ≡ None) × (rows_of after ≡ []))
