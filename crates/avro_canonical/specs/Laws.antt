-- What was decoded can be written again.
use Rattle.std.specs.Prelude.{◌≡◌, ℕ, ◌<◌, Bool, true, false, List, length, map, Some}
use Rattle.std.specs.List.{AllByRecursion, range_with_len}
use Rattle.arrow_core.specs.declared.slot.Slot.{Slot}
use Rattle.arrow_core.specs.declared.types.DataType.{DataType}
use Rattle.arrow_core.specs.declared.types.Field.{Field}
use Rattle.arrow_array.specs.declared.array.Array.{Array}
use Rattle.arrow_array.specs.Arrays.{array_slots, array_type}
use Rattle.avro_schema.specs.declared.schema.AvroField.{AvroField}
use Rattle.avro_schema.specs.declared.schema.Schema.{Schema}
use Rattle.avro_schema.specs.Carried.{Carried, CarriedList}
use Rattle.avro_schema.specs.Encodes.{Encodes}
use Rattle.avro_schema.specs.Inferred.{inferred, inferred_columns}
use Rattle.avro_schema.specs.Rows.{Rows, column}
use Rattle.avro_schema.specs.Types.{is_union}
use Rattle.avro_schema.specs.ValidBlock.{HasFloat, KeepNoFloat}
use Rattle.avro_types.specs.Listed.{named_all}
use Rattle.avro_types.specs.Named.{named}
use Rattle.avro_types.specs.Schemas.{can_serialize, columns_fields, optional, schema_of}
use Rattle.avro_write.specs.declared.flaws.Flaw.{Flaw}
use Rattle.avro_write.specs.Flaws.{shows}
use Rattle.avro_write.specs.Laws.{all_kept, plain_table}
use Rattle.avro_write.specs.Rows.{rows}
use Rattle.avro_canonical.specs.Columns.{AreAccepted, encodings}

abbrev pub AreBytes : List ℕ → Type 0
AreBytes = AllByRecursion (λ b. b < 256)

-- A carried schema without floats gives a column, and where that column's type has a schema, the type can be
-- serialized, and each slot that bytes encode shows no flaw under the column's schema: no null stands where none may,
-- and each interval is whole milliseconds in 32 bits.
abbrev pub DecodedIsSerializable : Type 0
DecodedIsSerializable =
    (null_first : Bool) (k n : ℕ) (s z : Schema) (t : DataType) → Carried s → (HasFloat s → ⊥) → inferred s ≡ Some t → schema_of null_first k t ≡ Some z
    → (can_serialize t ≡ true) × ((f : Flaw) (bytes : List ℕ) (x : Slot) → AreBytes bytes → Encodes s bytes x → shows f (named n (optional null_first (is_union s) z)) x ≡ false)

-- the rows of the columns of a table, each column's slots in their canonical encoding, are the table's canonical
-- encoding; each row of the table has a slot for each field
abbrev pub RowsAreTable : Type 0
RowsAreTable =
    (fields : List AvroField) (table : List (List Slot)) → AllByRecursion (λ xs. length xs ≡ length fields) table
    → rows (length table) (encodings fields (map (column table) (range_with_len 0 (length fields)))) ≡ plain_table fields table

-- Columns of rows that bytes encode are accepted under the fields of their record: those of carried fields without
-- floats.
abbrev pub DecodedIsAccepted : Type 0
DecodedIsAccepted =
    (n : ℕ) (avro_fields : List AvroField) (columns : List Field) (raw : List AvroField) (arrays : List Array) (bytes : List ℕ) (table : List (List Slot))
    → CarriedList avro_fields → KeepNoFloat avro_fields (all_kept avro_fields) → inferred_columns avro_fields ≡ Some columns → columns_fields true 0 columns ≡ Some raw
    → AreBytes bytes → Rows n avro_fields (all_kept avro_fields) bytes table → map array_type arrays ≡ map (λ c. c.data_type) columns → map array_slots arrays ≡ map (column table) (range_with_len 0 (length arrays))
    → AreAccepted (named_all 0 raw) arrays × AllByRecursion (λ xs. length xs ≡ length (named_all 0 raw)) table
