-- The schemas of lists and structs, in terms of the fields that code sees; the definitions themselves go by recursion on a data
-- type, whose fields are a row of that recursion. Private contracts cite these, and what `avro_canonical` states of the record
-- that a file is rewritten under.
use Rattle.std.specs.Prelude.{ℕ, ◌+◌, ◌==◌, List, [], ◌∷◌, length, Bool, not, ◌&&◌, Option, Some}
use Rattle.std.specs.List.{list_all}
use Rattle.arrow_core.specs.declared.types.DataType.{DataType, List', LargeList', Struct'}
use Rattle.arrow_core.specs.declared.types.Field.{Field}
use Rattle.avro_schema.specs.declared.schema.AvroField.{AvroField}
use Rattle.avro_schema.specs.declared.schema.Schema.{Schema, Record, Array}
use Rattle.avro_schema.specs.AndThen.{◌>>=◌}
use Rattle.avro_types.specs.Named.{nameless_in, named}
use Rattle.avro_types.specs.Schemas.{can_serialize, column_schema, columns_fields, plain_record, record_name, structs_in}

-- how many structs stand in columns
abbrev pub structs_in_all : List Field → ℕ
structs_in_all [] = 0
structs_in_all (f ∷ rest) = structs_in f.data_type + structs_in_all rest

-- the schema of lists of this field
abbrev pub array_schema : Bool → ℕ → Field → Option Schema
array_schema null_first k item = (column_schema null_first k item >>= λ s. Some (Array s))

-- a type with no types in it
abbrev pub HasNoFields : DataType → Type 0
HasNoFields (List' shape item) = ⊥
HasNoFields (LargeList' shape item) = ⊥
HasNoFields (Struct' shape fields) = ⊥
HasNoFields _ = Unit {0}

-- the record of a struct of these fields, where k have names already
abbrev pub struct_schema : Bool → ℕ → List Field → Option Schema
struct_schema null_first k fields = (columns_fields null_first (k + 1) fields >>= λ fs. Some (Record (plain_record (record_name (k + 1)) fs)))

-- the type of each field can be serialized
abbrev pub can_serialize_all : List Field → Bool
can_serialize_all = list_all (λ (f : Field). can_serialize f.data_type)

-- and there is one
abbrev pub can_serialize_struct : List Field → Bool
can_serialize_struct fields = not (length fields == 0) && can_serialize_all fields

-- how many nameless fixed types stand in fields, and in members
abbrev pub nameless_in_all : List AvroField → ℕ
nameless_in_all [] = 0
nameless_in_all (f ∷ rest) = nameless_in f.schema + nameless_in_all rest

abbrev pub nameless_in_members : List Schema → ℕ
nameless_in_members [] = 0
nameless_in_members (s ∷ rest) = nameless_in s + nameless_in_members rest

-- fields, and members, with names for their fixed types, of which k have one already
abbrev pub named_all : ℕ → List AvroField → List AvroField
named_all k [] = []
named_all k (f ∷ rest) = (record { name = f.name; doc = f.doc; schema = named k f.schema }) ∷ named_all (k + nameless_in f.schema) rest

abbrev pub named_members : ℕ → List Schema → List Schema
named_members k [] = []
named_members k (s ∷ rest) = named k s ∷ named_members (k + nameless_in s) rest
