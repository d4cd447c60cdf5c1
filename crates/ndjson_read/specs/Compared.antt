-- What comparing the types of values as they are read tells. Cited by private contracts and proofs alone.
use Rattle.std.specs.Prelude.{◌≡◌, ◌⊎◌, ℕ, ◌+◌, ◌<◌, List, [], ◌∷◌, map, take, length, slice_get, false, Option, Some, None}
use Rattle.arrow_core.specs.declared.types.DataType.{DataType}
use Rattle.arrow_core.specs.declared.types.DataType as data_type
use Rattle.arrow_core.specs.declared.types.Field.{Field}
use Rattle.json_tree.specs.Layout.{meets}
use Rattle.json_tree.specs.Reading.{Outcome, found}
use Rattle.json_tree.specs.Tree.{Json}
use Rattle.json_infer.specs.Columns.{Column, types_named}
use Rattle.json_infer.specs.Inferred.{type_of}
use Rattle.json_infer.specs.Lists.{Among}
use Rattle.json_infer.specs.Parts.{same, nullable}
use Rattle.ndjson_read.specs.declared.comparison.Comparison.{Comparison}
use Rattle.ndjson_read.specs.declared.comparison.Comparison.TheVariants as comparison

-- the type is Null, or it is the expected one and not Null, or nothing is said
abbrev pub IsComparison : Comparison → DataType → Option DataType → Type 0
IsComparison comparison.Null t expected = t ≡ data_type.Null
IsComparison comparison.Equal t expected = (expected ≡ Some t) × (same t data_type.Null ≡ false)
IsComparison comparison.Unequal t expected = Unit {0}

-- a value was read whose type is such, or nothing is said
abbrev pub Compares : Comparison → Option DataType → List ℕ → Outcome Json → Type 0
Compares comparison.Null expected rest outcome = (v : Json) × (outcome ≡ found v rest) × IsComparison comparison.Null (type_of v) expected
Compares comparison.Equal expected rest outcome = (v : Json) × (outcome ≡ found v rest) × IsComparison comparison.Equal (type_of v) expected
Compares comparison.Unequal expected rest outcome = Unit {0}

-- what is found of items, after one item more, where that is known
abbrev pub joined : Comparison → Comparison → Option Comparison
joined items comparison.Null = Some items
joined items comparison.Equal = Some comparison.Equal
joined items comparison.Unequal = None

abbrev pub names_in : List Field → List (List ℕ)
names_in fields = map (λ field. field.name) fields

-- the field at the index has this name and type, and no field before it the name
pub record IsNextField (fields : List Field) (index : ℕ) (name : List ℕ) (t : DataType) : Type 0 where
  pub within : index < length fields
  pub is : slice_get fields index ≡ Some (nullable name t)
  pub first : meets name (names_in (take index fields)) ≡ false

-- a member was read: its type is Null and its name no field's, or its name and type are those of the next field
abbrev pub ReadsMember : List Field → ℕ → ℕ → List ℕ → Outcome (List ℕ × Json) → Type 0
ReadsMember fields index next rest outcome =
    (name : List ℕ) × (v : Json) × (outcome ≡ found (name, v) rest)
    × (((next ≡ index) × (type_of v ≡ data_type.Null) × (meets name (names_in fields) ≡ false))
    ⊎ ((next ≡ index + 1) × (same (type_of v) data_type.Null ≡ false) × IsNextField fields index name (type_of v)))

-- the type is Null, or one that came with this name
abbrev pub IsKnown : List Column → List ℕ → DataType → Type 0
IsKnown columns name t = (t ≡ data_type.Null) ⊎ Among t (types_named name columns)

-- so is the type of each member
abbrev pub AreKnown : List Column → List (List ℕ × Json) → Type 0
AreKnown columns [] = Unit {0}
AreKnown columns (m ∷ ms) = IsKnown columns m.0 (type_of m.1) × AreKnown columns ms
