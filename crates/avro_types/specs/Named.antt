-- Names for fixed types that have none (Avro 1.11, "Fixed": a name is required).
use Rattle.std.specs.Prelude.{ℕ, ◌+◌, ◌++◌, List, [], ◌∷◌, codes, decimal}
use Rattle.avro_schema.specs.declared.schema.AvroField.{AvroField}
use Rattle.avro_schema.specs.declared.schema.Record.{Record as TheRecord, Record', out-Record, roll-Record, Row_of-AvroField, end_of-AvroField, more_of-AvroField}
use Rattle.avro_schema.specs.declared.schema.Schema.{Schema, Null, Record, Array', Map', Union', Fixed, Array, Map, Union, Row_of-Schema, end_of-Schema, more_of-Schema}

-- f1, f2 and so on
abbrev pub fixed_name : ℕ → List ℕ
fixed_name k = codes "f" ++ decimal k

-- 1 for an empty name, else 0
abbrev pub count_nameless : List ℕ → ℕ
count_nameless [] = 1
count_nameless _ = 0

abbrev mutual
  -- how many fixed types with an empty name stand in a schema, at every depth
  pub nameless_in : Schema → ℕ
  nameless_in (Fixed f) = count_nameless f.name
  nameless_in (Record r) = nameless_in_record r
  nameless_in (Array' shape item) = nameless_in_row item
  nameless_in (Map' shape value) = nameless_in_row value
  nameless_in (Union' shape members) = nameless_in_row members
  nameless_in _ = 0

  pub nameless_in_record : TheRecord → ℕ
  nameless_in_record (Record' name namespace doc shape fields) = nameless_in_fields fields

  pub nameless_in_fields : {m : _} → Row_of-AvroField m → ℕ
  nameless_in_fields end_of-AvroField = 0
  nameless_in_fields (more_of-AvroField name doc s rest) = nameless_in s + nameless_in_fields rest

  pub nameless_in_row : {m : _} → Row_of-Schema m → ℕ
  nameless_in_row end_of-Schema = 0
  nameless_in_row (more_of-Schema s rest) = nameless_in s + nameless_in_row rest

-- an empty name becomes f and the number of the type; another name stays
abbrev pub name_or : ℕ → List ℕ → List ℕ
name_or k [] = fixed_name (k + 1)
name_or k name = name

-- the first of the schemas of an array's or a map's row, which has one
abbrev pub first_schema : List Schema → Schema
first_schema [] = Null
first_schema (s ∷ rest) = s

-- k fixed types have got a name already: they are numbered in preorder
abbrev mutual
  pub named : ℕ → Schema → Schema
  named k (Fixed f) = Fixed (record f { name = name_or k f.name })
  named k (Record r) = Record (named_record k r)
  named k (Array' shape item) = Array (first_schema (named_row k item))
  named k (Map' shape value) = Map (first_schema (named_row k value))
  named k (Union' shape members) = Union (named_row k members)
  named k s = s

  pub named_record : ℕ → TheRecord → TheRecord
  named_record k (Record' name namespace doc shape fields) = roll-Record (record { name = name; namespace = namespace; doc = doc; fields = named_fields k fields })

  pub named_fields : {m : _} → ℕ → Row_of-AvroField m → List AvroField
  named_fields k end_of-AvroField = []
  named_fields k (more_of-AvroField name doc s rest) = (record { name = name; doc = doc; schema = named k s }) ∷ named_fields (k + nameless_in s) rest

  pub named_row : {m : _} → ℕ → Row_of-Schema m → List Schema
  named_row k end_of-Schema = []
  named_row k (more_of-Schema s rest) = named k s ∷ named_row (k + nameless_in s) rest

-- the record under this name, with a name for each fixed type
abbrev pub named_root : List ℕ → TheRecord → TheRecord
named_root name r =
    let open_record = out-Record (named_record 0 r) in
    roll-Record (record { name = name; namespace = open_record.namespace; doc = open_record.doc; fields = open_record.fields })
