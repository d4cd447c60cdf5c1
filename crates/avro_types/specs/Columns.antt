-- Types of columns against schemas, of fields as lists and of items, as code tests them (the definitions by
-- recursion on a schema are the grammar's).
use Rattle.std.specs.Prelude.{◌≡◌, ℕ, List, Bool, true, false, Option, None}
use Rattle.std.specs.List.{AllZip}
use Rattle.arrow_core.specs.declared.types.Field.{Field}
use Rattle.arrow_core.specs.declared.types.DataType.{DataType, Struct}
use Rattle.avro_schema.specs.declared.schema.AvroField.{AvroField}
use Rattle.avro_schema.specs.declared.schema.Schema.{Schema}
use Rattle.avro_schema.specs.Types.{utc, IsListOf, HasColumnType, Typed, Fits}

-- each field has the type and the nullability of its schema, in small forms alone; names and metadata do not count
abbrev pub AllTyped : List Field → List AvroField → Type 0
AllTyped = AllZip (λ f a. Typed a.schema f)

abbrev pub HasListType : Schema → DataType → Type 0
HasListType item t = (f : Field) × IsListOf true f t × HasColumnType true item f

abbrev pub HasStructType : List AvroField → DataType → Type 0
HasStructType avro_fields t = (fields : List Field) × (t ≡ Struct fields) × Fits fields avro_fields

-- instants are told in UTC, readings of a local clock in no zone
abbrev pub zone_of : Bool → Option (List ℕ)
zone_of true = utc
zone_of false = None
