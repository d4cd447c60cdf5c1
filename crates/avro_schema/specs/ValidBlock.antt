-- Which blocks are read into columns of given fields.
use Rattle.std.specs.Prelude.{◌≡◌, ℕ, ◌<◌, ◌≤◌, ◌⊎◌, List, [], ◌∷◌, length, sum_by, Bool, true, false, All}
use Rattle.arrow_core.specs.declared.types.Field.{Field}
use Rattle.arrow_core.specs.declared.types.DataType.{DataType, Binary, Utf8, List', FixedSizeList', LargeList', Struct', Map', Union', Extension', Row_of-Field, end_of-Field, more_of-Field, Row_of-DataType, end_of-DataType, more_of-DataType}
use Rattle.arrow_core.specs.declared.slot.Slot.{Slot}
use Rattle.avro_schema.specs.declared.schema.AvroField.{AvroField}
use Rattle.avro_schema.specs.declared.schema.Schema.{Schema, Float, Double, Record, Enum}
use Rattle.avro_schema.specs.declared.schema.Schema as schema
use Rattle.avro_schema.specs.declared.schema.Schema.{Row_of-Schema, end_of-Schema, more_of-Schema}
use Rattle.avro_schema.specs.declared.schema.Record.{Record as TheRecord, Record', Row_of-AvroField, end_of-AvroField, more_of-AvroField}
use Rattle.avro_schema.specs.declared.schema.Enum.{Enum as TheEnum}
use Rattle.avro_schema.specs.Carried.{CarriedList}
use Rattle.avro_schema.specs.Rows.{Rows}
use Rattle.avro_schema.specs.Types.{Fits}

-- those of the elements that the projection keeps
abbrev pub kept : {A : Type 0} → List A → List Bool → List A
kept (x ∷ xs) (true ∷ keeps) = x ∷ kept xs keeps
kept (x ∷ xs) (false ∷ keeps) = kept xs keeps
kept _ _ = []

-- what a number of 32 bits with a sign can count
abbrev pub small_limit : ℕ
small_limit = 2147483647

abbrev mutual
  -- the type holds Utf8, Binary or List at some depth, whose offsets have 32 bits; the values of a
  -- dictionary do not count
  pub IsSmall : DataType → Type 0
  IsSmall Binary = Unit {0}
  IsSmall Utf8 = Unit {0}
  IsSmall (List' shape item) = Unit {0}
  IsSmall (FixedSizeList' shape item size) = IsAnySmall item
  IsSmall (LargeList' shape item) = IsAnySmall item
  IsSmall (Struct' shape fields) = IsAnySmall fields
  IsSmall (Map' shape entries sorted) = IsAnySmall entries
  IsSmall (Union' shape fields ids mode) = IsAnySmall fields
  IsSmall (Extension' name shape inner metadata) = IsInnerSmall inner
  IsSmall _ = ⊥

  pub IsAnySmall : {m : _} → Row_of-Field m → Type 0
  IsAnySmall end_of-Field = ⊥
  IsAnySmall (more_of-Field name t is_nullable metadata rest) = IsSmall t ⊎ IsAnySmall rest

  pub IsInnerSmall : {m : _} → Row_of-DataType m → Type 0
  IsInnerSmall end_of-DataType = ⊥
  IsInnerSmall (more_of-DataType t rest) = IsSmall t

abbrev mutual
  -- P holds of the schema, or of a schema in it at some depth
  pub HasPart : (Schema → Type 0) → Schema → Type 0
  HasPart P (Record r) = P (Record r) ⊎ RecordHasPart P r
  HasPart P (schema.Array' shape item) = P (schema.Array' shape item) ⊎ AnyHasPart P item
  HasPart P (schema.Map' shape value) = P (schema.Map' shape value) ⊎ AnyHasPart P value
  HasPart P (schema.Union' shape members) = P (schema.Union' shape members) ⊎ AnyHasPart P members
  HasPart P s = P s

  pub RecordHasPart : (Schema → Type 0) → TheRecord → Type 0
  RecordHasPart P (Record' name namespace doc shape fields) = FieldHasPart P fields

  pub AnyHasPart : {m : _} → (Schema → Type 0) → Row_of-Schema m → Type 0
  AnyHasPart P end_of-Schema = ⊥
  AnyHasPart P (more_of-Schema s rest) = HasPart P s ⊎ AnyHasPart P rest

  pub FieldHasPart : {m : _} → (Schema → Type 0) → Row_of-AvroField m → Type 0
  FieldHasPart P end_of-AvroField = ⊥
  FieldHasPart P (more_of-AvroField name doc s rest) = HasPart P s ⊎ FieldHasPart P rest

abbrev pub IsFloat : Schema → Type 0
IsFloat Float = Unit {0}
IsFloat Double = Unit {0}
IsFloat _ = ⊥

abbrev pub HasFloat : Schema → Type 0
HasFloat s = HasPart IsFloat s

-- a column's dictionary can hold an enum's symbols
abbrev pub SymbolsFit : TheEnum → Type 0
SymbolsFit e = (length e.symbols ≤ small_limit) × (sum_by length e.symbols ≤ small_limit)

abbrev pub HasTooManySymbols : Schema → Type 0
HasTooManySymbols (Enum e) = SymbolsFit e → ⊥
HasTooManySymbols _ = ⊥

-- the same of the enums at every depth
abbrev pub EnumsFit : Schema → Type 0
EnumsFit s = HasPart HasTooManySymbols s → ⊥

-- ---- what is asked of fields and schemas before any row is read

abbrev pub HaveSameLength : List Field → List AvroField → List Bool → Type 0
HaveSameLength fields avro_fields projection = (length fields ≡ length avro_fields) × (length fields ≡ length projection)

abbrev pub KeepNoFloat : List AvroField → List Bool → Type 0
KeepNoFloat avro_fields projection = All (λ a. HasFloat a.schema → ⊥) (kept avro_fields projection)

-- offsets of 32 bits can count the bytes, or no kept field has such
abbrev pub OffsetsFit : List Field → List Bool → List ℕ → Type 0
OffsetsFit fields projection bytes = (length bytes ≤ small_limit) ⊎ All (λ f. IsSmall f.data_type → ⊥) (kept fields projection)

abbrev pub KeptEnumsFit : List AvroField → List Bool → Type 0
KeptEnumsFit avro_fields projection = All (λ a. EnumsFit a.schema) (kept avro_fields projection)

-- the fields fit the schemas, and those that are kept can be columns of so many bytes
pub record CanBeColumns (fields : List Field) (avro_fields : List AvroField) (projection : List Bool) (bytes : List ℕ) : Type 0 where
  pub lengths : HaveSameLength fields avro_fields projection
  pub some : 0 < length fields
  pub carried : CarriedList avro_fields
  pub fits : Fits fields avro_fields
  pub no_float : KeepNoFloat avro_fields projection
  pub offsets : OffsetsFit fields projection bytes
  pub symbols : KeptEnumsFit avro_fields projection

-- a block of n rows that can be read
pub record ValidBlock (n : ℕ) (bytes : List ℕ) (fields : List Field) (avro_fields : List AvroField) (projection : List Bool) : Type 0 where
  pub columns : CanBeColumns fields avro_fields projection bytes
  pub table : List (List Slot)
  pub rows : Rows n avro_fields projection bytes table
