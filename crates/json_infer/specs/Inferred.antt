-- The type of a JSON value.
use Rattle.std.specs.Prelude.{ℕ, List, [], ◌∷◌, map, if◌then◌else◌, Result, Ok, Err}
use Rattle.arrow_core.specs.declared.error.Error.{Error}
use Rattle.arrow_core.specs.declared.error.Error.TheVariants as error
use Rattle.arrow_core.specs.declared.error.Reason.TheVariants as reason
use Rattle.arrow_core.specs.declared.types.DataType.{DataType}
use Rattle.arrow_core.specs.declared.types.DataType as data_type
use Rattle.arrow_core.specs.declared.types.Field.{Field}
use Rattle.json_tree.specs.declared.value.Value.{Value, out-Value, fold-Value}
use Rattle.json_tree.specs.declared.value.Value.TheOpen as layer
use Rattle.json_tree.specs.declared.value.Number.{Number}
use Rattle.json_tree.specs.declared.value.Number.TheVariants as number
use Rattle.json_infer.specs.Lists.{distinct}
use Rattle.json_infer.specs.Parts.{same, nullable, list_of}
use Rattle.json_infer.specs.Coercion.{coerce}

abbrev pub number_type : Number → DataType
number_type (number.Integer mantissa exponent) = data_type.Int64
number_type (number.Float mantissa exponent) = data_type.Float64

-- the types that aren't Null
abbrev pub kept : List DataType → List DataType
kept [] = []
kept (t ∷ ts) = if same t data_type.Null then kept ts else t ∷ kept ts

-- the type of several values of these types: the coercion of the distinct ones that aren't Null, in order of first appearance
abbrev pub type_of_types : List DataType → DataType
type_of_types ts = coerce (distinct same (kept ts))

-- the type of an array, by the type of its items
abbrev pub items_type : DataType → DataType
items_type t = if same t data_type.Null then data_type.Null else list_of t

-- a field for each member whose type isn't Null
abbrev pub kept_fields : List (List ℕ × DataType) → List Field
kept_fields [] = []
kept_fields (m ∷ ms) = if same m.1 data_type.Null then kept_fields ms else nullable m.0 m.1 ∷ kept_fields ms

-- the type of a value, by the types of its items or the fields of its members
abbrev pub by_kind : layer.Value-F DataType (List Field) → DataType
by_kind layer.Null = data_type.Null
by_kind (layer.Bool b) = data_type.Boolean
by_kind (layer.Number n) = number_type n
by_kind (layer.String text) = data_type.Utf8
by_kind (layer.Array ts) = items_type (type_of_types ts)
by_kind (layer.Object fields) = data_type.Struct fields

abbrev pub by_members : layer.Object-F DataType (List Field) → List Field
by_members object = kept_fields object.members

unfoldable pub type_of : Value → DataType
type_of v = fold-Value DataType (List Field) by_kind by_members v

-- the type of several rows
abbrev pub type_of_rows : List Value → DataType
type_of_rows rows = type_of_types (map type_of rows)

-- ---- the fields of records

-- a field for each member, also where its type is Null
abbrev pub all_fields : List (List ℕ × Value) → List Field
all_fields ms = map (λ m. nullable m.0 (type_of m.1)) ms

-- the fields of the first of several records
abbrev pub first_fields : List Value → Result (List Field) Error
first_fields [] = Ok []
first_fields (v ∷ vs) = elim (out-Value v) as (λ _. Result (List Field) Error) [
  | layer.Object object ↦ Ok (all_fields object.members)
  | _ ↦ Err (error.ExternalFormat reason.FirstNotObject)
]

-- the fields of an array of records
abbrev pub records_fields : Value → Result (List Field) Error
records_fields v = elim (out-Value v) as (λ _. Result (List Field) Error) [
  | layer.Array items ↦ first_fields items
  | _ ↦ Err (error.ExternalFormat reason.OuterNotArray)
]
