-- The columns that lines of JSON (RFC 8259) are read into, dictionaries among them.
use Rattle.std.specs.Prelude.{◌≡◌, ◌∷◌, ◌&&◌, not, [], ℕ, Bool, List, map, true}
use Rattle.std.specs.List.{AllZip}
use Rattle.arrow_array.specs.Arrays.{array_slots, array_type}
use Rattle.arrow_array.specs.declared.array.Array.{Array}
use Rattle.arrow_dictionaries.specs.Encoding.{HasFirstValues}
use Rattle.arrow_core.specs.declared.slot.Slot.{Slot}
use Rattle.arrow_core.specs.declared.types.DataType.{DataType}
use Rattle.arrow_core.specs.declared.types.DataType.TheVariants as types
use Rattle.arrow_core.specs.declared.types.Field.{Field}
use Rattle.json_flat.specs.Names.{names_twice}
use Rattle.json_flat.specs.Reading.{has_reading, reading}
use Rattle.json_line.specs.Lines.{AreObjects}
use Rattle.json_line.specs.Types.{has_line_reading}
use Rattle.json_tree.specs.Tree.{Json, object}
use Rattle.ndjson.specs.Columns.{IsColumnOfValues}

-- values are read under the type, and no Struct in it names a field twice
abbrev pub is_readable : DataType → Bool
is_readable t = has_reading t && not (names_twice t)

-- the lines are objects, and this is the column of these under the type, which has a reading and names no field twice
pub record AreRowsOf (lines : List (List ℕ)) (row_type column_type : DataType) (slots : List Slot) : Type 0 where
  pub rows : List (List (List ℕ × Json))
  pub objects : AreObjects rows lines
  pub column : IsColumnOfValues (map object rows) row_type column_type slots

-- ---- Contracts of private functions, and the model of `LineColumns`, alone cite what follows.

-- the type that a column is first read under: values mean there what they mean under the column's, and lines are read into it where that
-- one is readable
pub record IsStoredType (t stored : DataType) : Type 0 where
  pub meaning : reading stored ≡ reading t
  pub readable : is_readable t ≡ true → has_line_reading stored ≡ true

-- the field that a column is first read under
pub record IsStoredFor (field stored : Field) : Type 0 where
  pub name : stored.name ≡ field.name
  pub data_type : IsStoredType field.data_type stored.data_type

abbrev pub AreStoredFor : List Field → List Field → Type 0
AreStoredFor fields stored = AllZip IsStoredFor fields stored

-- what is kept of the fields: those that their columns are first read under; and a Struct of the fields is readable
pub record AreKept (fields stored : List Field) : Type 0 where
  pub stored_for : AreStoredFor fields stored
  pub readable : is_readable (types.Struct fields) ≡ true

-- A column of the type was made of another: it has the same slots, and the values of each dictionary, at every depth, are its distinct
-- slots but null, in order of first appearance.
pub record IsMadeOf (t : DataType) (old new : Array) : Type 0 where
  pub data_type : array_type new ≡ t
  pub slots : array_slots new ≡ array_slots old
  pub dictionaries : HasFirstValues new

-- a column for each field was made of another
abbrev pub AreMadeOf : List Field → List Array → List Array → Type 0
AreMadeOf [] [] [] = Unit {0}
AreMadeOf (f ∷ fields) (a ∷ olds) (b ∷ news) = IsMadeOf f.data_type a b × AreMadeOf fields olds news
AreMadeOf _ _ _ = ⊥
