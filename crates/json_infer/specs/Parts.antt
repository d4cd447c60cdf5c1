-- What data types are made of.
use Rattle.std.specs.Prelude.{ℕ, suc, ◌+◌, List, [], ◌∷◌, Bool, true, Option, Some, None}
use Rattle.arrow_core.specs.declared.types.DataType.{DataType, out-DataType, List', Struct', Row_of-Field, end_of-Field, more_of-Field}
use Rattle.arrow_core.specs.declared.types.DataType as data_type
use Rattle.arrow_core.specs.declared.types.DataType.TheOpen as layer
use Rattle.arrow_core.specs.declared.types.Field.{Field}
use Rattle.arrow_core.specs.contracts.types.DataTypePartialEq.TheImpl as type_comparison
use Rattle.json_infer.specs.Lists.{total}

-- `==` of types, which is true exactly where they are equal
unfoldable pub same : DataType → DataType → Bool
same = (type_comparison.ghosts).eq

-- the item of a List
abbrev pub item_of : DataType → Option Field
item_of t = elim (out-DataType t) as (λ _. Option Field) [ layer.List item ↦ Some item | _ ↦ None ]

-- the fields of a Struct
abbrev pub fields_of : DataType → Option (List Field)
fields_of t = elim (out-DataType t) as (λ _. Option (List Field)) [ layer.Struct fields ↦ Some fields | _ ↦ None ]

abbrev pub or_none : Option (List Field) → List Field
or_none None = []
or_none (Some fields) = fields

-- the fields of a Struct, and none of another type
abbrev pub members_of : DataType → List Field
members_of t = or_none (fields_of t)

-- a field that may be null, without metadata
abbrev pub nullable : List ℕ → DataType → Field
nullable name t = record { name = name; data_type = t; is_nullable = true; metadata = [] }

-- item
abbrev pub item_name : List ℕ
item_name = 0x69 ∷ 0x74 ∷ 0x65 ∷ 0x6d ∷ []

-- the List of items of this type, which may be null
abbrev pub list_of : DataType → DataType
list_of t = data_type.List (nullable item_name t)

abbrev mutual
  -- how many types stand in a type, itself too
  pub size_of : DataType → ℕ
  size_of (List' shape item) = suc (fields_size item)
  size_of (Struct' shape fields) = suc (fields_size fields)
  size_of _ = 1

  pub fields_size : {m : _} → Row_of-Field m → ℕ
  fields_size end_of-Field = 0
  fields_size (more_of-Field name t nullable metadata rest) = size_of t + fields_size rest

-- how many types stand in these types, themselves too
abbrev pub sizes : List DataType → ℕ
sizes ts = total size_of ts
