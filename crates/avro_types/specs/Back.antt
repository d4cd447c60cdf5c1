-- From columns to a schema and back, which is a law and needs no belief.
use Rattle.std.specs.Prelude.{◌≡◌, List, [], ◌∷◌, map, Bool, false, Some, IsTrue, All}
use Rattle.arrow_core.specs.declared.types.Field.{Field}
use Rattle.arrow_core.specs.declared.types.DataType.{DataType, LargeUtf8, Utf8, LargeBinary, Binary, List', LargeList', Struct', List as ListType, Struct, Row_of-Field, end_of-Field, more_of-Field}
use Rattle.avro_schema.specs.declared.schema.Record.{Record as TheRecord, out-Record}
use Rattle.avro_schema.specs.Inferred.{item_name, inferred_columns}
use Rattle.avro_types.specs.Schemas.{record_of, can_serialize}

-- ---- large forms made small, items named item, and metadata dropped

-- the one item's field of a list, which is named item
abbrev pub first_item : List Field → DataType
first_item [] = ListType (record { name = item_name; data_type = Utf8; is_nullable = false; metadata = [] })
first_item (f ∷ rest) = ListType (record f { name = item_name })

abbrev mutual
  pub small : DataType → DataType
  small LargeUtf8 = Utf8
  small LargeBinary = Binary
  small (List' shape item) = first_item (small_row item)
  small (LargeList' shape item) = first_item (small_row item)
  small (Struct' shape fields) = Struct (small_row fields)
  small t = t

  pub small_row : {m : _} → Row_of-Field m → List Field
  small_row end_of-Field = []
  small_row (more_of-Field name t is_nullable metadata rest) = (record { name = name; data_type = small t; is_nullable = is_nullable; metadata = [] }) ∷ small_row rest

abbrev pub small_field : Field → Field
small_field f = record { name = f.name; data_type = small f.data_type; is_nullable = f.is_nullable; metadata = [] }

-- where the types can be serialized, the columns of the record's schema are the columns that it was made of
abbrev pub SchemaAndBack : Type 0
SchemaAndBack = (null_first : Bool) (fields : List Field) (r : TheRecord) → record_of null_first fields ≡ Some r → All (λ f. IsTrue (can_serialize f.data_type)) fields
    → inferred_columns (out-Record r).fields ≡ Some (map small_field fields)
