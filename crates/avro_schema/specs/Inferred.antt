-- The columns of a record's fields as they are made from its schema alone (the pairs are those of
-- `Types.antt`): types in small forms, with names and metadata.
use Rattle.std.specs.Prelude.{ℕ, ◌⊎◌, List, [], ◌∷◌, Bool, not, ◌&&◌, IsTrue, Option, Some, None, if◌then◌else◌}
use Rattle.arrow_core.specs.declared.types.Field.{Field}
use Rattle.arrow_core.specs.declared.types.DataType.{DataType}
use Rattle.arrow_core.specs.declared.types.DataType as data_type
use Rattle.avro_schema.specs.declared.schema.AvroField.{AvroField}
use Rattle.avro_schema.specs.declared.schema.BytesLogical.{BytesLogical}
use Rattle.avro_schema.specs.declared.schema.BytesLogical.TheVariants as bytes_logical
use Rattle.avro_schema.specs.declared.schema.Schema.{Schema, Null, Boolean, Int, Long, Float, Double, Bytes, String, Record, Enum, Array', Map', Union', Fixed, Row_of-Schema, end_of-Schema, more_of-Schema}
use Rattle.avro_schema.specs.declared.schema.Record.{Record as TheRecord, Record', out-Record, Row_of-AvroField, end_of-AvroField, more_of-AvroField}
use Rattle.avro_schema.specs.AndThen.{◌>>=◌}
use Rattle.avro_schema.specs.Encodes.{is_null}
use Rattle.avro_schema.specs.Types.{int_type, long_type, fixed_type, symbol_type, is_union}

abbrev pub bytes_type : Option BytesLogical → DataType
bytes_type None = data_type.Binary
bytes_type (Some (bytes_logical.Decimal precision scale)) = data_type.Decimal precision scale

-- item, and avro::doc
abbrev pub item_name : List ℕ
item_name = 0x69 ∷ 0x74 ∷ 0x65 ∷ 0x6d ∷ []

abbrev pub doc_key : List ℕ
doc_key = 0x61 ∷ 0x76 ∷ 0x72 ∷ 0x6f ∷ 0x3a ∷ 0x3a ∷ 0x64 ∷ 0x6f ∷ 0x63 ∷ []

-- a column's field by its name, its schema and that schema's type; metadata holds a doc alone
abbrev pub column_field : List ℕ → Option (List ℕ) → Schema → DataType → Field
column_field name None s t = record { name = name; data_type = t; is_nullable = is_union s; metadata = [] }
column_field name (Some doc) s t = record { name = name; data_type = t; is_nullable = is_union s; metadata = (doc_key, doc) ∷ [] }

-- what may stand beside null in a union
abbrev pub is_item : Schema → Bool
is_item s = not (is_null s) && not (is_union s)

abbrev mutual
  -- None: a map stands in the schema, or a union that is not of null and an item
  pub inferred : Schema → Option DataType
  inferred Null = Some data_type.Null
  inferred Boolean = Some data_type.Boolean
  inferred (Int logical) = Some (int_type logical)
  inferred (Long logical) = Some (long_type logical)
  inferred Float = Some data_type.Float32
  inferred Double = Some data_type.Float64
  inferred (Bytes logical) = Some (bytes_type logical)
  inferred (String logical) = Some data_type.Utf8
  inferred (Record r) = (inferred_record r >>= λ fs. Some (data_type.Struct fs))
  inferred (Enum e) = Some symbol_type
  inferred (Array' shape item) = (inferred_item item >>= λ f. Some (data_type.List f))
  inferred (Map' shape value) = None
  inferred (Union' shape members) = inferred_member members
  inferred (Fixed f) = Some (fixed_type f.size f.logical)

  pub inferred_item : {m : _} → Row_of-Schema m → Option Field
  inferred_item end_of-Schema = None
  inferred_item (more_of-Schema s rest) = (inferred s >>= λ t. Some (column_field item_name None s t))

  pub inferred_member : {m : _} → Row_of-Schema m → Option DataType
  inferred_member (more_of-Schema s (more_of-Schema u end_of-Schema)) = if is_null s && is_item u then inferred u else (if is_item s && is_null u then inferred s else None)
  inferred_member _ = None

  pub inferred_record : TheRecord → Option (List Field)
  inferred_record (Record' name namespace doc shape fields) = inferred_fields fields

  pub inferred_fields : {m : _} → Row_of-AvroField m → Option (List Field)
  inferred_fields end_of-AvroField = Some []
  inferred_fields (more_of-AvroField name doc s rest) = (inferred s >>= λ t. inferred_fields rest >>= λ fs. Some (column_field name doc s t ∷ fs))

-- the columns of fields in order, each with a doc of its own
abbrev pub columns_of : (AvroField → Option (List ℕ)) → List AvroField → Option (List Field)
columns_of doc [] = Some []
columns_of doc (a ∷ rest) = (inferred a.schema >>= λ t. columns_of doc rest >>= λ fs. Some (column_field a.name (doc a) a.schema t ∷ fs))

-- the doc that a record or an enum has itself
abbrev pub own_doc : AvroField → Option (List ℕ)
own_doc a = doc_of a.schema
  where
    doc_of : Schema → Option (List ℕ)
    doc_of (Record r) = (out-Record r).doc
    doc_of (Enum e) = e.doc
    doc_of _ = None

-- the columns of the fields of a file's record
abbrev pub inferred_columns : List AvroField → Option (List Field)
inferred_columns = columns_of own_doc

abbrev pub IsNullable : {m : _} → Row_of-Schema m → Type 0
IsNullable (more_of-Schema s (more_of-Schema u end_of-Schema)) = IsTrue (is_null s && is_item u) ⊎ IsTrue (is_item s && is_null u)
IsNullable _ = ⊥

abbrev mutual
  -- a map stands at some depth, or a union that is not of null and an item
  pub HasMapOrUnion : Schema → Type 0
  HasMapOrUnion (Record r) = RecordHasMapOrUnion r
  HasMapOrUnion (Array' shape item) = ItemHasMapOrUnion item
  HasMapOrUnion (Map' shape value) = Unit {0}
  HasMapOrUnion (Union' shape members) = (IsNullable members → ⊥) ⊎ AnyHasMapOrUnion members
  HasMapOrUnion _ = ⊥

  pub RecordHasMapOrUnion : TheRecord → Type 0
  RecordHasMapOrUnion (Record' name namespace doc shape fields) = FieldHasMapOrUnion fields

  -- an array's row of schemas has one
  pub ItemHasMapOrUnion : {m : _} → Row_of-Schema m → Type 0
  ItemHasMapOrUnion end_of-Schema = Unit {0}
  ItemHasMapOrUnion (more_of-Schema s rest) = HasMapOrUnion s

  pub AnyHasMapOrUnion : {m : _} → Row_of-Schema m → Type 0
  AnyHasMapOrUnion end_of-Schema = ⊥
  AnyHasMapOrUnion (more_of-Schema s rest) = HasMapOrUnion s ⊎ AnyHasMapOrUnion rest

  pub FieldHasMapOrUnion : {m : _} → Row_of-AvroField m → Type 0
  FieldHasMapOrUnion end_of-AvroField = ⊥
  FieldHasMapOrUnion (more_of-AvroField name doc s rest) = HasMapOrUnion s ⊎ FieldHasMapOrUnion rest
