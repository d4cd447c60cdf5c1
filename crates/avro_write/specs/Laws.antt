-- Laws of the pairs of columns and schemas, which are proved and need no belief.
use Rattle.std.specs.Prelude.{◌≡◌, ℕ, Bool, true, Some, List, [], ◌∷◌, length, map, flat_map}
use Rattle.std.specs.List.{All, AllByRecursion, AllZip, range_with_len}
use Rattle.arrow_core.specs.declared.slot.Slot.{Slot}
use Rattle.avro_schema.specs.declared.schema.AvroField.{AvroField}
use Rattle.avro_schema.specs.Rows.{Rows}
use Rattle.arrow_core.specs.declared.types.Field.{Field}
use Rattle.arrow_array.specs.Slots.{slot_at}
use Rattle.avro_schema.specs.declared.schema.Record.{Record as TheRecord, out-Record}
use Rattle.avro_encode.specs.Listed.{PairsColumns, PairsFieldsOf, plain_fields_of}
use Rattle.avro_encode.specs.Pairs.{Pairs}
use Rattle.avro_encode.specs.Plain.{plain}
use Rattle.avro_write.specs.Rows.{rows}
use Rattle.arrow_core.specs.declared.types.DataType.{DataType}
use Rattle.avro_schema.specs.declared.schema.Schema.{Schema}
use Rattle.avro_encode.specs.PairTypes.{PairsType}
use Rattle.avro_types.specs.Named.{named, named_root}
use Rattle.avro_types.specs.Schemas.{can_serialize, optional, record_of, schema_of}

-- a type that can be serialized pairs with the schema that it gets, also where the column is nullable, and where
-- its fixed types got names
abbrev pub SerializablePairs : Type 0
SerializablePairs = (null_first is_nullable : Bool) (k n : ℕ) (t : DataType) (s : Schema) → schema_of null_first k t ≡ Some s → can_serialize t ≡ true
    → PairsType (optional null_first is_nullable s) t × PairsType (named n (optional null_first is_nullable s)) t

-- where the type of each column can be serialized, the columns' types pair with the fields of their record, in order, also where its
-- fixed types got names
abbrev pub RecordPairs : Type 0
RecordPairs = (null_first : Bool) (fields : List Field) (r : TheRecord) → record_of null_first fields ≡ Some r → AllByRecursion (λ f. can_serialize f.data_type ≡ true) fields
    → PairsColumns (out-Record r).fields fields × ((name : List ℕ) → PairsColumns (out-Record (named_root name r)).fields fields)

-- every field is kept
abbrev pub all_kept : List AvroField → List Bool
all_kept = map (λ f. true)

-- the canonical encodings of the rows, one after another
abbrev pub plain_table : List AvroField → List (List Slot) → List ℕ
plain_table fields = flat_map (plain_fields_of fields)

-- of rows whose slots pair with the fields, the canonical encodings are those rows by the grammar
abbrev pub TableEncodes : Type 0
TableEncodes = (fields : List AvroField) (table : List (List Slot)) → AllByRecursion (PairsFieldsOf fields) table → Rows (length table) fields (all_kept fields) (plain_table fields table) table

-- so equal bytes of as many rows are equal tables
abbrev pub TableTells : Type 0
TableTells = (fields : List AvroField) (t u : List (List Slot)) → AllByRecursion (PairsFieldsOf fields) t → AllByRecursion (PairsFieldsOf fields) u → length t ≡ length u → plain_table fields t ≡ plain_table fields u → t ≡ u

-- ---- the rows of serializers

-- as many columns as fields, each of n slots that pair with its field
abbrev pub ArePaired : ℕ → List AvroField → List (List Slot) → Type 0
ArePaired n = AllZip (λ f slots. (length slots ≡ n) × All (Pairs f.schema) slots)

-- the canonical encodings of each column's slots: what serializers of the columns have left at first
abbrev pub plain_columns : List AvroField → List (List Slot) → List (List (List ℕ))
plain_columns [] columns = []
plain_columns (f ∷ fields) [] = []
plain_columns (f ∷ fields) (slots ∷ columns) = map (plain f.schema) slots ∷ plain_columns fields columns

-- the table of n rows whose columns have these slots
abbrev pub table_of : ℕ → List (List Slot) → List (List Slot)
table_of n columns = map (λ i. map (λ slots. slot_at slots i) columns) (range_with_len 0 n)

-- what `serialize` makes of serializers of columns are the canonical encodings of the table of the columns, and so its rows by the grammar
abbrev pub RowsAreTable : Type 0
RowsAreTable = (n : ℕ) (fields : List AvroField) (columns : List (List Slot)) → ArePaired n fields columns → rows n (plain_columns fields columns) ≡ plain_table fields (table_of n columns)

abbrev pub RowsEncode : Type 0
RowsEncode = (n : ℕ) (fields : List AvroField) (columns : List (List Slot)) → ArePaired n fields columns → Rows n fields (all_kept fields) (rows n (plain_columns fields columns)) (table_of n columns)
