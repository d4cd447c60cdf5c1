-- Which schemas of columns JSON lines can be written under as an Avro file, and the record of the file.
use Rattle.std.specs.Prelude.{◌≡◌, ◌⊎◌, ℕ, ◌<◌, true, false, List, [], length, Some, None}
use Rattle.arrow_core.specs.declared.error.Error.{Error}
use Rattle.arrow_core.specs.declared.error.Error.TheVariants.{InvalidArgumentError, NotYetImplemented, OutOfMemory}
use Rattle.arrow_core.specs.declared.error.Reason.TheVariants as reason
use Rattle.arrow_core.specs.declared.types.DataType as types
use Rattle.arrow_core.specs.declared.types.Field.{Field}
use Rattle.avro_schema.specs.declared.schema.Record.{Record}
use Rattle.avro_types.specs.Named.{named_root}
use Rattle.avro_types.specs.Schemas.{record_of}
use Rattle.json_flat.specs.Names.{names_twice}
use Rattle.json_flat.specs.Reading.{has_reading}
use Rattle.ndjson_avro.specs.Nulls.{holds_null}

-- Rows of these fields can be read and written: no struct names a field twice, there is a field, the columns have an
-- Avro record and no Null among them, and JSON values are read under each type. The record of the file is theirs, under
-- this name, with names for its fixed types.
pub record HasTarget (fields : List Field) (name : List ℕ) (target : Record) : Type 0 where
  pub distinct : names_twice (types.Struct fields) ≡ false
  pub some : 0 < length fields
  pub nameless : Record
  pub recorded : record_of true fields ≡ Some nameless
  pub no_null : holds_null (types.Struct fields) ≡ false
  pub readable : has_reading (types.Struct fields) ≡ true
  pub named : target ≡ named_root name nameless

-- names don't repeat, and there is a field
abbrev pub AreNamed : List Field → Type 0
AreNamed fields = (names_twice (types.Struct fields) ≡ false) × (0 < length fields)

-- and the columns have an Avro record
abbrev pub AreWritable : List Field → Type 0
AreWritable fields = AreNamed fields × ((nameless : Record) × (record_of true fields ≡ Some nameless)) × (holds_null (types.Struct fields) ≡ false)

-- why the rows of these fields can't be, in this order; out of memory may come at any time
abbrev pub HasNoTarget : List Field → Error → Type 0
HasNoTarget fields (InvalidArgumentError reason.DuplicateName) = names_twice (types.Struct fields) ≡ true
HasNoTarget fields (NotYetImplemented reason.NoField) = (names_twice (types.Struct fields) ≡ false) × (fields ≡ [])
HasNoTarget fields (NotYetImplemented reason.NoAvroType) = AreNamed fields × ((record_of true fields ≡ None) ⊎ (holds_null (types.Struct fields) ≡ true))
HasNoTarget fields (NotYetImplemented reason.NoJsonReading) = AreWritable fields × (has_reading (types.Struct fields) ≡ false)
HasNoTarget fields OutOfMemory = Unit {0}
HasNoTarget fields _ = ⊥
