-- The types that a field's word names.
use Rattle.std.specs.Prelude.{◌≡◌, ℕ, zero, suc, ◌≤◌, List, [], ◌∷◌, ◌++◌, codes, Some, None, ◌⊎◌}
use Rattle.avro_schema.specs.declared.schema.AvroField.{AvroField}
use Rattle.avro_schema.specs.declared.schema.Record.{roll-Record}
use Rattle.avro_schema.specs.declared.schema.Schema.{Schema, Null, Boolean, Int, Long, Float, Double, Bytes, String, Record, Enum, Array, Union, Fixed}
use Rattle.avro_schema.specs.declared.schema.IntLogical.TheVariants as int_logical
use Rattle.avro_schema.specs.declared.schema.LongLogical.TheVariants as long_logical
use Rattle.avro_schema.specs.declared.schema.StringLogical.TheVariants as string_logical
use Rattle.avro_schema.specs.declared.schema.BytesLogical.TheVariants as bytes_logical
use Rattle.avro_schema.specs.declared.schema.FixedLogical.TheVariants as fixed_logical
use Rattle.avro_schema.specs.TypeExamples.{fixed_of}
use Rattle.cli_words.specs.Names.{IsName, IsSize}

-- A word names no record, enum or fixed type: their names are empty, and they have no namespace and no doc.

abbrev pub record_of : List AvroField → Schema
record_of fields = Record (roll-Record (record { name = []; namespace = None; doc = None; fields = fields }))

abbrev pub enum_of : List (List ℕ) → Schema
enum_of symbols = Enum (record { name = []; namespace = None; doc = None; symbols = symbols })

-- a type of one word
abbrev pub IsPlain : List ℕ → Schema → Type 0
IsPlain word Null = word ≡ codes "null"
IsPlain word Boolean = word ≡ codes "boolean"
IsPlain word (Int None) = word ≡ codes "int"
IsPlain word (Int (Some int_logical.Date)) = word ≡ codes "date"
IsPlain word (Int (Some int_logical.Time)) = word ≡ codes "time-millis"
IsPlain word (Long None) = word ≡ codes "long"
IsPlain word (Long (Some long_logical.Time)) = word ≡ codes "time-micros"
IsPlain word (Long (Some long_logical.TimestampMillis)) = word ≡ codes "timestamp-millis"
IsPlain word (Long (Some long_logical.TimestampMicros)) = word ≡ codes "timestamp-micros"
IsPlain word (Long (Some long_logical.TimestampNanos)) = word ≡ codes "timestamp-nanos"
IsPlain word (Long (Some long_logical.LocalTimestampMillis)) = word ≡ codes "local-timestamp-millis"
IsPlain word (Long (Some long_logical.LocalTimestampMicros)) = word ≡ codes "local-timestamp-micros"
IsPlain word (Long (Some long_logical.LocalTimestampNanos)) = word ≡ codes "local-timestamp-nanos"
IsPlain word Float = word ≡ codes "float"
IsPlain word Double = word ≡ codes "double"
IsPlain word (Bytes None) = word ≡ codes "bytes"
IsPlain word (String None) = word ≡ codes "string"
IsPlain word (String (Some string_logical.Uuid)) = word ≡ codes "uuid"
IsPlain word (Fixed f) = (word ≡ codes "duration") × (Fixed f ≡ fixed_of 12 (Some fixed_logical.Duration))
IsPlain word _ = ⊥

-- N of `fixed(N)`
abbrev pub IsFixed : List ℕ → Schema → Type 0
IsFixed text schema = (size : ℕ) × IsSize text size × (schema ≡ fixed_of size None)

-- P and S: at least one digit in all, and no more after the point
abbrev pub AreDigits : List ℕ → List ℕ → ℕ → ℕ → Type 0
AreDigits precision_word scale_word precision scale =
    IsSize precision_word precision × IsSize scale_word scale × (1 ≤ precision) × (scale ≤ precision)

-- P,S of `decimal(P,S)`, over bytes
abbrev pub IsBytesDecimal : List ℕ → Schema → Type 0
IsBytesDecimal text schema = (p : List ℕ) × (s : List ℕ) × (precision : ℕ) × (scale : ℕ) × AreDigits p s precision scale
    × (text ≡ p ++ (codes "," ++ s)) × (schema ≡ Bytes (Some (bytes_logical.Decimal precision scale)))

-- P,S,N of `decimal(P,S,N)`, over a fixed type of N bytes
abbrev pub IsFixedDecimal : List ℕ → Schema → Type 0
IsFixedDecimal text schema = (p : List ℕ) × (s : List ℕ) × (n : List ℕ) × (precision : ℕ) × (scale : ℕ) × (size : ℕ)
    × AreDigits p s precision scale × IsSize n size
    × (text ≡ p ++ (codes "," ++ (s ++ (codes "," ++ n)))) × (schema ≡ fixed_of size (Some (fixed_logical.Decimal precision scale)))

abbrev pub IsDecimal : List ℕ → Schema → Type 0
IsDecimal text schema = IsBytesDecimal text schema ⊎ IsFixedDecimal text schema

-- a type with numbers in parentheses
abbrev pub IsSized : List ℕ → Schema → Type 0
IsSized word schema = (text : List ℕ)
    × ((IsFixed text schema × (word ≡ codes "fixed(" ++ (text ++ codes ")")))
    ⊎ (IsDecimal text schema × (word ≡ codes "decimal(" ++ (text ++ codes ")"))))

-- `NAME,NAME`: one symbol or more
abbrev pub AreSymbols : List ℕ → List (List ℕ) → Type 0
AreSymbols text [] = ⊥
AreSymbols text (symbol ∷ []) = IsName symbol × (text ≡ symbol)
AreSymbols text (symbol ∷ more) = (rest : List ℕ) × IsName symbol × (text ≡ symbol ++ (codes "," ++ rest)) × AreSymbols rest more

-- `<NAME,NAME>`
abbrev pub IsEnum : List ℕ → Schema → Type 0
IsEnum word schema = (inside : List ℕ) × (symbols : List (List ℕ)) × AreSymbols inside symbols
    × (word ≡ codes "<" ++ (inside ++ codes ">")) × (schema ≡ enum_of symbols)

-- ---- types that stand in types: Inner says which texts are types there

-- `NAME=TYPE`
abbrev pub IsNamed : (List ℕ → Schema → Type 0) → List ℕ → AvroField → Type 0
IsNamed Inner word field = IsName field.name × (field.doc ≡ None)
    × ((type : List ℕ) × Inner type field.schema × (word ≡ field.name ++ (codes "=" ++ type)))

-- `NAME=TYPE;NAME=TYPE`: one field or more
abbrev pub AreNamed : (List ℕ → Schema → Type 0) → List ℕ → List AvroField → Type 0
AreNamed Inner text [] = ⊥
AreNamed Inner text (field ∷ []) = IsNamed Inner text field
AreNamed Inner text (field ∷ more) = (one : List ℕ) × (rest : List ℕ) × IsNamed Inner one field
    × (text ≡ one ++ (codes ";" ++ rest)) × AreNamed Inner rest more

-- the fields between a record's braces: none, or one or more
abbrev pub AreFields : (List ℕ → Schema → Type 0) → List ℕ → List AvroField → Type 0
AreFields Inner inside fields = ((inside ≡ []) × (fields ≡ [])) ⊎ AreNamed Inner inside fields

-- `{}` or `{NAME=TYPE;NAME=TYPE}`
abbrev pub IsRecord : (List ℕ → Schema → Type 0) → List ℕ → Schema → Type 0
IsRecord Inner word schema = (inside : List ℕ) × (fields : List AvroField) × AreFields Inner inside fields
    × (word ≡ codes "{" ++ (inside ++ codes "}")) × (schema ≡ record_of fields)

-- `[TYPE]`
abbrev pub IsList : (List ℕ → Schema → Type 0) → List ℕ → Schema → Type 0
IsList Inner word schema = (inside : List ℕ) × (item : Schema) × Inner inside item
    × (word ≡ codes "[" ++ (inside ++ codes "]")) × (schema ≡ Array item)

-- a type without a mark
abbrev pub IsBase : (List ℕ → Schema → Type 0) → List ℕ → Schema → Type 0
IsBase Inner word schema =
    IsPlain word schema ⊎ (IsSized word schema ⊎ (IsEnum word schema ⊎ (IsRecord Inner word schema ⊎ IsList Inner word schema)))

-- with '?' after it a union with null first
abbrev pub IsNullFirst : (List ℕ → Schema → Type 0) → List ℕ → Schema → Type 0
IsNullFirst Inner word schema = (base : List ℕ) × (item : Schema) × IsBase Inner base item
    × (word ≡ base ++ codes "?") × (schema ≡ Union (Null ∷ item ∷ []))

-- and with '!' one with null second
abbrev pub IsNullSecond : (List ℕ → Schema → Type 0) → List ℕ → Schema → Type 0
IsNullSecond Inner word schema = (base : List ℕ) × (item : Schema) × IsBase Inner base item
    × (word ≡ base ++ codes "!") × (schema ≡ Union (item ∷ Null ∷ []))

-- a type in which types nest at most so deep, itself counted
abbrev pub IsType : ℕ → List ℕ → Schema → Type 0
IsType zero word schema = ⊥
IsType (suc depth) word schema =
    IsBase (IsType depth) word schema ⊎ (IsNullFirst (IsType depth) word schema ⊎ IsNullSecond (IsType depth) word schema)
