-- The types of Avro by the names that schemas give them (Avro 1.11, "Primitive Types", "Complex Types" and "Logical Types"; of nanoseconds, Avro 1.12).
use Rattle.std.specs.Prelude.{ℕ, List, [], ◌∷◌, ◌&&◌, ◌==◌, nat_le, Option, Some, None, option_and_then, unwrap_or, codes, if◌then◌else◌}
use Rattle.std.specs.Str.{bytes_eq}
use Rattle.json_tree.specs.Tree.{Json}
use Rattle.json_tree.specs.Keys.{value_of}
use Rattle.json_tree.specs.declared.value.Object.{Object as Attributes}
use Rattle.avro_schema.specs.declared.schema.Schema.{Schema, Null, Boolean, Int, Long, Float, Double, Bytes, String}
use Rattle.avro_schema.specs.declared.schema.IntLogical.{IntLogical}
use Rattle.avro_schema.specs.declared.schema.IntLogical.TheVariants as int
use Rattle.avro_schema.specs.declared.schema.LongLogical.{LongLogical}
use Rattle.avro_schema.specs.declared.schema.LongLogical.TheVariants as long
use Rattle.avro_schema.specs.declared.schema.StringLogical.{StringLogical}
use Rattle.avro_schema.specs.declared.schema.StringLogical.TheVariants as string
use Rattle.avro_schema.specs.declared.schema.BytesLogical.{BytesLogical}
use Rattle.avro_schema.specs.declared.schema.BytesLogical.TheVariants as bytes
use Rattle.avro_schema.specs.declared.schema.FixedLogical.{FixedLogical}
use Rattle.avro_schema.specs.declared.schema.FixedLogical.TheVariants as fixed
use Rattle.avro_file.specs.Attributes.{attribute, string_at, count_at, count_of}

-- "Primitive Types"
abbrev pub primitives : List (List ℕ × Schema)
primitives =
    (codes "null", Null)
    ∷ (codes "boolean", Boolean)
    ∷ (codes "int", Int None)
    ∷ (codes "long", Long None)
    ∷ (codes "float", Float)
    ∷ (codes "double", Double)
    ∷ (codes "bytes", Bytes None)
    ∷ (codes "string", String None)
    ∷ []

-- "Logical Types", by the type that each is of

abbrev pub int_logicals : List (List ℕ × IntLogical)
int_logicals = (codes "date", int.Date) ∷ (codes "time-millis", int.Time) ∷ []

abbrev pub long_logicals : List (List ℕ × LongLogical)
long_logicals =
    (codes "time-micros", long.Time)
    ∷ (codes "timestamp-millis", long.TimestampMillis)
    ∷ (codes "timestamp-micros", long.TimestampMicros)
    ∷ (codes "timestamp-nanos", long.TimestampNanos)
    ∷ (codes "local-timestamp-millis", long.LocalTimestampMillis)
    ∷ (codes "local-timestamp-micros", long.LocalTimestampMicros)
    ∷ (codes "local-timestamp-nanos", long.LocalTimestampNanos)
    ∷ []

abbrev pub string_logicals : List (List ℕ × StringLogical)
string_logicals = (codes "uuid", string.Uuid) ∷ []

-- the name of the logical type, or no bytes where no string gives one
abbrev pub logical_name : Attributes → List ℕ
logical_name attributes = unwrap_or (string_at (codes "logicalType") attributes) []

-- "Decimal": the scale is 0 where it isn't given
abbrev pub scale_of : Option Json → Option ℕ
scale_of None = Some 0
scale_of (Some value) = count_of value

-- the precision and the scale: at least one digit in all, and no more after the point
abbrev pub digits_of : Option ℕ → Option ℕ → Option (ℕ × ℕ)
digits_of (Some precision) (Some scale) = if nat_le 1 precision && nat_le scale precision then Some (precision, scale) else None
digits_of _ _ = None

abbrev pub decimal_of : Attributes → Option (ℕ × ℕ)
decimal_of attributes = digits_of (count_at (codes "precision") attributes) (scale_of (attribute (codes "scale") attributes))

-- a logical type that doesn't belong to its type, or lacks what it needs, is ignored ("Logical Types")

unfoldable pub int_logical : Attributes → Option IntLogical
int_logical attributes = value_of (logical_name attributes) int_logicals

unfoldable pub long_logical : Attributes → Option LongLogical
long_logical attributes = value_of (logical_name attributes) long_logicals

unfoldable pub string_logical : Attributes → Option StringLogical
string_logical attributes = value_of (logical_name attributes) string_logicals

unfoldable pub bytes_logical : Attributes → Option BytesLogical
bytes_logical attributes =
    if bytes_eq (logical_name attributes) (codes "decimal")
    then option_and_then (λ digits. Some (bytes.Decimal digits.0 digits.1)) (decimal_of attributes)
    else None

-- "Duration": it has 12 bytes
abbrev pub duration_of : ℕ → Option FixedLogical
duration_of size = if size == 12 then Some fixed.Duration else None

-- "Decimal" and "Duration"
unfoldable pub fixed_logical : ℕ → Attributes → Option FixedLogical
fixed_logical size attributes =
    if bytes_eq (logical_name attributes) (codes "decimal")
    then option_and_then (λ digits. Some (fixed.Decimal digits.0 digits.1)) (decimal_of attributes)
    else if bytes_eq (logical_name attributes) (codes "duration") then duration_of size else None
