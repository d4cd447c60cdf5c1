-- The words that are printed for types.
use Rattle.std.specs.Prelude.{◌≡◌, ℕ, zero, suc, ◌≤◌, ◌==◌, ◌&&◌, Bool, true, false, if◌then◌else◌, nat_le, List, [], ◌∷◌, ◌++◌, length, map, flat_map, Option, Some, None, codes, decimal, ◌⊎◌}
use Rattle.std.specs.List.{list_all}
use Rattle.std.specs.Option.{option_map_or}
use Rattle.avro_schema.specs.declared.schema.AvroField.{AvroField, AvroField-F, roll-AvroField}
use Rattle.avro_schema.specs.declared.schema.Record.{Record as TheRecord, Record-F, roll-Record, out-Record}
use Rattle.avro_schema.specs.declared.schema.Schema.{Schema, Schema-F, fold-Schema, out-Schema, Null, Boolean, Int, Long, Float, Double, Bytes, String, Record, Array, Map, Union}
use Rattle.avro_schema.specs.declared.schema.Schema.TheOpen as layer
use Rattle.avro_schema.specs.declared.schema.IntLogical.{IntLogical}
use Rattle.avro_schema.specs.declared.schema.IntLogical.TheVariants as int_logical
use Rattle.avro_schema.specs.declared.schema.LongLogical.{LongLogical}
use Rattle.avro_schema.specs.declared.schema.LongLogical.TheVariants as long_logical
use Rattle.avro_schema.specs.declared.schema.StringLogical.{StringLogical}
use Rattle.avro_schema.specs.declared.schema.StringLogical.TheVariants as string_logical
use Rattle.avro_schema.specs.declared.schema.BytesLogical.{BytesLogical}
use Rattle.avro_schema.specs.declared.schema.BytesLogical.TheVariants as bytes_logical
use Rattle.avro_schema.specs.declared.schema.FixedLogical.{FixedLogical}
use Rattle.avro_schema.specs.declared.schema.FixedLogical.TheVariants as fixed_logical
use Rattle.avro_schema.specs.TypeExamples.{fixed_of}
use Rattle.avro_schema.specs.Encodes.{is_null}
use Rattle.cli_words.specs.Names.{name_byte}
use Rattle.cli_words.specs.Types.{IsType, enum_of}

-- ---- a schema without what words don't say: names, namespaces and docs of types, docs of fields

-- In the following steps a schema, a field and a record without them stand in the place of those within.

abbrev pub schema_unnamed : Schema-F Schema AvroField TheRecord → Schema
schema_unnamed layer.Null = Null
schema_unnamed layer.Boolean = Boolean
schema_unnamed (layer.Int logical) = Int logical
schema_unnamed (layer.Long logical) = Long logical
schema_unnamed layer.Float = Float
schema_unnamed layer.Double = Double
schema_unnamed (layer.Bytes logical) = Bytes logical
schema_unnamed (layer.String logical) = String logical
schema_unnamed (layer.Record r) = Record r
schema_unnamed (layer.Enum e) = enum_of e.symbols
schema_unnamed (layer.Array item) = Array item
schema_unnamed (layer.Map value) = Map value
schema_unnamed (layer.Union members) = Union members
schema_unnamed (layer.Fixed f) = fixed_of f.size f.logical

abbrev pub field_unnamed : AvroField-F Schema AvroField TheRecord → AvroField
field_unnamed f = roll-AvroField (record { name = f.name; doc = None; schema = f.schema })

abbrev pub record_unnamed : Record-F Schema AvroField TheRecord → TheRecord
record_unnamed r = roll-Record (record { name = []; namespace = None; doc = None; fields = r.fields })

unfoldable pub unnamed : Schema → Schema
unnamed = fold-Schema Schema AvroField TheRecord schema_unnamed field_unnamed record_unnamed

-- ---- which types have a word: Inner says which types within have one

abbrev pub is_name_text : List ℕ → Bool
is_name_text [] = false
is_name_text (byte ∷ bytes) = list_all name_byte (byte ∷ bytes)

-- a size, a precision or a scale
abbrev pub is_size : ℕ → Bool
is_size n = nat_le n 2147483647

-- at least one digit in all, and no more after the point
abbrev pub are_digits : ℕ → ℕ → Bool
are_digits precision scale = is_size precision && (is_size scale && (nat_le 1 precision && nat_le scale precision))

abbrev pub has_fixed : ℕ → Option FixedLogical → Bool
has_fixed size None = is_size size
has_fixed size (Some fixed_logical.Duration) = size == 12
has_fixed size (Some (fixed_logical.Decimal precision scale)) = are_digits precision scale && is_size size

abbrev pub has_bytes : Option BytesLogical → Bool
has_bytes None = true
has_bytes (Some (bytes_logical.Decimal precision scale)) = are_digits precision scale

-- one symbol or more, each a name
abbrev pub has_symbols : List (List ℕ) → Bool
has_symbols [] = false
has_symbols (symbol ∷ more) = list_all is_name_text (symbol ∷ more)

abbrev pub has_field : (Schema → Bool) → AvroField → Bool
has_field Inner f = is_name_text f.name && Inner f.schema

abbrev pub layer_has_base : (Schema → Bool) → Schema-F Schema AvroField TheRecord → Bool
layer_has_base Inner layer.Null = true
layer_has_base Inner layer.Boolean = true
layer_has_base Inner (layer.Int logical) = true
layer_has_base Inner (layer.Long logical) = true
layer_has_base Inner layer.Float = true
layer_has_base Inner layer.Double = true
layer_has_base Inner (layer.Bytes logical) = has_bytes logical
layer_has_base Inner (layer.String logical) = true
layer_has_base Inner (layer.Record r) = list_all (has_field Inner) (out-Record r).fields
layer_has_base Inner (layer.Enum e) = has_symbols e.symbols
layer_has_base Inner (layer.Array item) = Inner item
layer_has_base Inner (layer.Map value) = false
layer_has_base Inner (layer.Union members) = false
layer_has_base Inner (layer.Fixed f) = has_fixed f.size f.logical

-- a type without a mark
abbrev pub has_base : (Schema → Bool) → Schema → Bool
has_base Inner schema = layer_has_base Inner (out-Schema schema)

abbrev pub layer_members : Schema-F Schema AvroField TheRecord → Option (List Schema)
layer_members (layer.Union members) = Some members
layer_members _ = None

-- the members of a union
abbrev pub members_of : Schema → Option (List Schema)
members_of schema = layer_members (out-Schema schema)

-- a union of null and one other type, in either order
abbrev pub has_marked : (Schema → Bool) → List Schema → Bool
has_marked Base (one ∷ other ∷ []) = if is_null one then Base other else (is_null other && Base one)
has_marked Base _ = false

-- types nest at most so deep, itself counted
abbrev pub has_type : ℕ → Schema → Bool
has_type zero schema = false
has_type (suc depth) schema = option_map_or (has_marked (has_base (has_type depth))) (members_of schema) (has_base (has_type depth) schema)

-- ---- the word of a type that has one: Inner gives those of the types within

-- with this between each two
abbrev pub joined : List ℕ → List (List ℕ) → List ℕ
joined between [] = []
joined between (text ∷ texts) = text ++ flat_map (λ next. between ++ next) texts

abbrev pub decimal_word : ℕ → ℕ → List ℕ
decimal_word precision scale = codes "decimal(" ++ (decimal precision ++ (codes "," ++ decimal scale))

abbrev pub fixed_word : ℕ → Option FixedLogical → List ℕ
fixed_word size None = codes "fixed(" ++ (decimal size ++ codes ")")
fixed_word size (Some fixed_logical.Duration) = codes "duration"
fixed_word size (Some (fixed_logical.Decimal precision scale)) = decimal_word precision scale ++ (codes "," ++ (decimal size ++ codes ")"))

abbrev pub field_word : (Schema → List ℕ) → AvroField → List ℕ
field_word Inner f = f.name ++ (codes "=" ++ Inner f.schema)

abbrev pub int_word : Option IntLogical → List ℕ
int_word None = codes "int"
int_word (Some int_logical.Date) = codes "date"
int_word (Some int_logical.Time) = codes "time-millis"

abbrev pub long_word : Option LongLogical → List ℕ
long_word None = codes "long"
long_word (Some long_logical.Time) = codes "time-micros"
long_word (Some long_logical.TimestampMillis) = codes "timestamp-millis"
long_word (Some long_logical.TimestampMicros) = codes "timestamp-micros"
long_word (Some long_logical.TimestampNanos) = codes "timestamp-nanos"
long_word (Some long_logical.LocalTimestampMillis) = codes "local-timestamp-millis"
long_word (Some long_logical.LocalTimestampMicros) = codes "local-timestamp-micros"
long_word (Some long_logical.LocalTimestampNanos) = codes "local-timestamp-nanos"

abbrev pub bytes_word : Option BytesLogical → List ℕ
bytes_word None = codes "bytes"
bytes_word (Some (bytes_logical.Decimal precision scale)) = decimal_word precision scale ++ codes ")"

abbrev pub string_word : Option StringLogical → List ℕ
string_word None = codes "string"
string_word (Some string_logical.Uuid) = codes "uuid"

abbrev pub layer_word : (Schema → List ℕ) → Schema-F Schema AvroField TheRecord → List ℕ
layer_word Inner layer.Null = codes "null"
layer_word Inner layer.Boolean = codes "boolean"
layer_word Inner (layer.Int logical) = int_word logical
layer_word Inner (layer.Long logical) = long_word logical
layer_word Inner layer.Float = codes "float"
layer_word Inner layer.Double = codes "double"
layer_word Inner (layer.Bytes logical) = bytes_word logical
layer_word Inner (layer.String logical) = string_word logical
layer_word Inner (layer.Fixed f) = fixed_word f.size f.logical
layer_word Inner (layer.Enum e) = codes "<" ++ (joined (codes ",") e.symbols ++ codes ">")
layer_word Inner (layer.Record r) = codes "{" ++ (joined (codes ";") (map (field_word Inner) (out-Record r).fields) ++ codes "}")
layer_word Inner (layer.Array item) = codes "[" ++ (Inner item ++ codes "]")
layer_word Inner (layer.Map value) = []
layer_word Inner (layer.Union members) = []

-- a type without a mark
abbrev pub base_word : (Schema → List ℕ) → Schema → List ℕ
base_word Inner schema = layer_word Inner (out-Schema schema)

-- with null first '?', with null second '!'
abbrev pub marked_word : (Schema → List ℕ) → List Schema → List ℕ
marked_word Base (one ∷ other ∷ []) = if is_null one then Base other ++ codes "?" else Base one ++ codes "!"
marked_word Base _ = []

abbrev pub type_word : ℕ → Schema → List ℕ
type_word zero schema = []
type_word (suc depth) schema = option_map_or (marked_word (base_word (type_word depth))) (members_of schema) (base_word (type_word depth) schema)

-- ---- what is printed: the word of a type, or '-' where it has none

unfoldable pub type_text : Schema → List ℕ
type_text schema = if has_type 64 schema then type_word 64 schema else codes "-"

-- The text is a shortest word of the type, so that its numbers have no zeros before them, or '-' where it has none.
abbrev pub IsTypeText : Schema → List ℕ → Type 0
IsTypeText schema text =
    (IsType 64 text (unnamed schema) × ((word : List ℕ) → IsType 64 word (unnamed schema) → length text ≤ length word))
    ⊎ ((text ≡ codes "-") × ((word : List ℕ) → IsType 64 word (unnamed schema) → ⊥))
