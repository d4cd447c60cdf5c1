-- The column of rows, each a JSON text (RFC 8259), and why there is none.
use Rattle.std.specs.Prelude.{ℕ, ◌≡◌, ◌⊎◌, List, [], ◌∷◌, true, false, Option}
use Rattle.std.specs.Borrow.{Bor}
use Rattle.arrow_core.specs.declared.error.Error.{Error}
use Rattle.arrow_core.specs.declared.error.Error.TheVariants.{ExternalFormat}
use Rattle.arrow_core.specs.declared.error.Reason.TheVariants.{EmptyInput}
use Rattle.arrow_core.specs.declared.slot.Slot.{Slot}
use Rattle.arrow_core.specs.declared.types.DataType.{DataType}
use Rattle.json_tree.specs.Tree.{Json}
use Rattle.json_flat.specs.Columns.{AreSlotsOf}
use Rattle.json_flat.specs.Names.{names_twice}
use Rattle.json_flat.specs.Reading.{has_reading, reading}
use Rattle.json_columns.specs.Refusals.{IsRefusal}
use Rattle.ndjson_read.specs.GivenRows.{FailsAt}
use Rattle.ndjson_read.specs.Needed.{StandFor}
use Rattle.ndjson.specs.Rows.{AllStandFor, FailsAtRow}

-- the column of values under a type, which has a reading and names no field twice: its slots are what the values mean
pub record IsColumnOfValues (values : List Json) (t column_type : DataType) (slots : List Slot) : Type 0 where
  pub distinct : names_twice t ≡ false
  pub readable : has_reading t ≡ true
  pub same_type : column_type ≡ t
  pub meant : AreSlotsOf (reading t) values slots

-- the column of the values that the rows stand for
abbrev pub IsColumnOf : List (List ℕ) → DataType → DataType → List Slot → Type 0
IsColumnOf rows t column_type slots = (values : List Json) × StandFor rows values × IsColumnOfValues values t column_type slots

-- Why there is no column of rows: the first row that stands for no value, or what is refused of the values that they stand for. Out of
-- memory may come in place of either.
abbrev pub IsNoColumn : List (List ℕ) → DataType → Error → Type 0
IsNoColumn rows t e = FailsAtRow rows e ⊎ ((values : List Json) × StandFor rows values × IsRefusal t values e)

-- the same, where no rows are refused before all else
abbrev pub IsRefusalOf : List (List ℕ) → DataType → Error → Type 0
IsRefusalOf [] t e = e ≡ ExternalFormat EmptyInput
IsRefusalOf (row ∷ rows) t e = IsNoColumn (row ∷ rows) t e

-- of an iterator over rows, by what its calls give
module _ {I : Type 0} (next_gives : I → Option (Bor (List ℕ)) → I → Type 0) (rows : I) where
  -- the column of the values of all rows that it gave
  abbrev pub IsColumnOfAll : DataType → DataType → List Slot → Type 0
  IsColumnOfAll t column_type slots = (values : List Json) × AllStandFor next_gives rows values × IsColumnOfValues values t column_type slots

  -- Why there is none: the first row that it gave that stands for no value, or what is refused of the values of all rows that it gave.
  -- Out of memory may come in place of either.
  abbrev pub IteratorRefused : DataType → Error → Type 0
  IteratorRefused t e = FailsAt next_gives rows e ⊎ ((values : List Json) × AllStandFor next_gives rows values × IsRefusal t values e)
