-- The JSON text that is written for an Avro schema (Avro 1.11, "Schema Declaration"): one text without spaces, with the attributes in
-- one fixed order.
use Rattle.std.specs.Prelude.{ℕ, List, [], ◌++◌, map, Option, Some, None, codes, decimal}
use Rattle.arrow_base.specs.Joined.{joined}
use Rattle.arrow_base.specs.WrittenString.{json_string}
use Rattle.avro_schema.specs.declared.schema.Schema.{Schema, Schema-F, fold-Schema}
use Rattle.avro_schema.specs.declared.schema.Schema.TheOpen as layer
use Rattle.avro_schema.specs.declared.schema.Record.{Record, Record-F, fold-Record}
use Rattle.avro_schema.specs.declared.schema.AvroField.{AvroField, AvroField-F, fold-AvroField}
use Rattle.avro_schema.specs.declared.schema.Enum.{Enum}
use Rattle.avro_schema.specs.declared.schema.Fixed.{Fixed}
use Rattle.avro_schema.specs.declared.schema.IntLogical.{IntLogical}
use Rattle.avro_schema.specs.declared.schema.IntLogical.TheVariants as int
use Rattle.avro_schema.specs.declared.schema.LongLogical.{LongLogical}
use Rattle.avro_schema.specs.declared.schema.LongLogical.TheVariants as long
use Rattle.avro_schema.specs.declared.schema.BytesLogical.{BytesLogical}
use Rattle.avro_schema.specs.declared.schema.BytesLogical.TheVariants as bytes
use Rattle.avro_schema.specs.declared.schema.StringLogical.{StringLogical}
use Rattle.avro_schema.specs.declared.schema.StringLogical.TheVariants as string
use Rattle.avro_schema.specs.declared.schema.FixedLogical.{FixedLogical}
use Rattle.avro_schema.specs.declared.schema.FixedLogical.TheVariants as fixed

-- an attribute that is written where it is given
abbrev pub given : List ℕ → Option (List ℕ) → List ℕ
given key None = []
given key (Some value) = key ++ json_string value

-- "Logical Types": the name of each

abbrev pub int_name : IntLogical → List ℕ
int_name int.Date = codes "date"
int_name int.Time = codes "time-millis"

abbrev pub long_name : LongLogical → List ℕ
long_name long.Time = codes "time-micros"
long_name long.TimestampMillis = codes "timestamp-millis"
long_name long.TimestampMicros = codes "timestamp-micros"
long_name long.LocalTimestampMillis = codes "local-timestamp-millis"
long_name long.LocalTimestampMicros = codes "local-timestamp-micros"
long_name long.TimestampNanos = codes "timestamp-nanos"
long_name long.LocalTimestampNanos = codes "local-timestamp-nanos"

-- a primitive type with a logical type
abbrev pub logical_text : List ℕ → List ℕ → List ℕ
logical_text type name = codes "{\"type\":\"" ++ type ++ codes "\",\"logicalType\":\"" ++ name ++ codes "\"}"

abbrev pub int_text : Option IntLogical → List ℕ
int_text None = codes "\"int\""
int_text (Some logical) = logical_text (codes "int") (int_name logical)

abbrev pub long_text : Option LongLogical → List ℕ
long_text None = codes "\"long\""
long_text (Some logical) = logical_text (codes "long") (long_name logical)

abbrev pub string_text : Option StringLogical → List ℕ
string_text None = codes "\"string\""
string_text (Some string.Uuid) = logical_text (codes "string") (codes "uuid")

-- "Decimal"
abbrev pub decimal_text : ℕ → ℕ → List ℕ
decimal_text precision scale = codes ",\"logicalType\":\"decimal\",\"precision\":" ++ decimal precision ++ codes ",\"scale\":" ++ decimal scale

abbrev pub bytes_text : Option BytesLogical → List ℕ
bytes_text None = codes "\"bytes\""
bytes_text (Some (bytes.Decimal precision scale)) = codes "{\"type\":\"bytes\"" ++ decimal_text precision scale ++ codes "}"

-- what a logical type adds to a fixed type ("Decimal", "Duration")
abbrev pub fixed_logical_text : Option FixedLogical → List ℕ
fixed_logical_text None = []
fixed_logical_text (Some (fixed.Decimal precision scale)) = decimal_text precision scale
fixed_logical_text (Some fixed.Duration) = codes ",\"logicalType\":\"duration\""

-- "Enums"
abbrev pub enum_text : Enum → List ℕ
enum_text e =
    codes "{\"type\":\"enum\",\"name\":" ++ json_string e.name ++ given (codes ",\"namespace\":") e.namespace ++ given (codes ",\"doc\":") e.doc
    ++ codes ",\"symbols\":[" ++ joined (map json_string e.symbols) ++ codes "]}"

-- "Fixed"
abbrev pub fixed_text : Fixed → List ℕ
fixed_text f =
    codes "{\"type\":\"fixed\",\"name\":" ++ json_string f.name ++ given (codes ",\"namespace\":") f.namespace ++ given (codes ",\"doc\":") f.doc
    ++ codes ",\"size\":" ++ decimal f.size ++ fixed_logical_text f.logical ++ codes "}"

-- In the following steps a text stands in the place of each schema, field and record within.

-- "Records": a field
abbrev pub field_step : AvroField-F (List ℕ) (List ℕ) (List ℕ) → List ℕ
field_step f = codes "{\"name\":" ++ json_string f.name ++ given (codes ",\"doc\":") f.doc ++ codes ",\"type\":" ++ f.schema ++ codes "}"

-- "Records"
abbrev pub record_step : Record-F (List ℕ) (List ℕ) (List ℕ) → List ℕ
record_step r =
    codes "{\"type\":\"record\",\"name\":" ++ json_string r.name ++ given (codes ",\"namespace\":") r.namespace ++ given (codes ",\"doc\":") r.doc
    ++ codes ",\"fields\":[" ++ joined r.fields ++ codes "]}"

-- "Primitive Types", "Arrays", "Maps" and "Unions"
abbrev pub schema_step : Schema-F (List ℕ) (List ℕ) (List ℕ) → List ℕ
schema_step layer.Null = codes "\"null\""
schema_step layer.Boolean = codes "\"boolean\""
schema_step (layer.Int logical) = int_text logical
schema_step (layer.Long logical) = long_text logical
schema_step layer.Float = codes "\"float\""
schema_step layer.Double = codes "\"double\""
schema_step (layer.Bytes logical) = bytes_text logical
schema_step (layer.String logical) = string_text logical
schema_step (layer.Record text) = text
schema_step (layer.Enum e) = enum_text e
schema_step (layer.Array text) = codes "{\"type\":\"array\",\"items\":" ++ text ++ codes "}"
schema_step (layer.Map text) = codes "{\"type\":\"map\",\"values\":" ++ text ++ codes "}"
schema_step (layer.Union texts) = codes "[" ++ joined texts ++ codes "]"
schema_step (layer.Fixed f) = fixed_text f

-- the text of a schema, of a field and of a record

unfoldable pub schema_text_of : Schema → List ℕ
schema_text_of = fold-Schema (List ℕ) (List ℕ) (List ℕ) schema_step field_step record_step

unfoldable pub field_text_of : AvroField → List ℕ
field_text_of = fold-AvroField (List ℕ) (List ℕ) (List ℕ) schema_step field_step record_step

unfoldable pub record_text_of : Record → List ℕ
record_text_of = fold-Record (List ℕ) (List ℕ) (List ℕ) schema_step field_step record_step
