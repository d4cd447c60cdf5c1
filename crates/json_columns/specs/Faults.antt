-- When the values of a column are more than it can count.
use Rattle.std.specs.Prelude.{◌≡◌, ◌⊎◌, ◌<◌, ℕ, Bool, true, false, List, [], ◌∷◌, length}
use Rattle.std.specs.List.{AllZip, Any}
use Rattle.arrow_array.specs.declared.array.Array.{Array}
use Rattle.arrow_array.specs.Arrays.{array_slots, array_type}
use Rattle.arrow_core.specs.declared.error.Error.{Error}
use Rattle.arrow_core.specs.declared.error.Error.TheVariants.{OutOfMemory, Overflow}
use Rattle.arrow_core.specs.Numbers.{greatest_offset}
use Rattle.arrow_core.specs.declared.types.DataType.{DataType, Row_of-Field, end_of-Field, more_of-Field, Row_of-DataType, end_of-DataType, more_of-DataType}
use Rattle.arrow_core.specs.declared.types.DataType as types
use Rattle.arrow_core.specs.declared.types.Field.{Field}
use Rattle.arrow_core.specs.declared.types.IntegerType.{IntegerType}
use Rattle.arrow_core.specs.declared.slot.Slot.{Slot}
use Rattle.json_tree.specs.Tree.{Json}
use Rattle.json_flat.specs.Meaning.{text_in, bytes_in}
use Rattle.json_flat.specs.Columns.{AreSlotsOf, IsColumnFault, IsTooLong, means}
use Rattle.json_columns.specs.Dictionaries.{TooManyDistinct}
use Rattle.json_columns.specs.Gathered.{all_items, all_sized, field_meanings, members_named}
use Rattle.json_flat.specs.Reading.{list_in, reading, sized_list_in, struct_in}

-- the distinct slots of a dictionary, by the one type of its values
abbrev pub TooManyInner : {m : _} → IntegerType → Row_of-DataType m → List Json → Type 0
TooManyInner key end_of-DataType values = ⊥
TooManyInner key (more_of-DataType t rest) values = TooManyDistinct key t values

abbrev mutual
  -- Somewhere beneath the type the items of lists, or the bytes of strings or of binary values, are more together than the greatest
  -- offset, 2^31 - 1 or of large types 2^63 - 1, or the distinct slots of a dictionary are more than its keys number. Of the strings
  -- of a dictionary each distinct one counts once.
  pub TooMany : DataType → List Json → Type 0
  TooMany types.Utf8 values = IsTooLong (greatest_offset false) text_in values
  TooMany types.LargeUtf8 values = IsTooLong (greatest_offset true) text_in values
  TooMany types.Binary values = IsTooLong (greatest_offset false) bytes_in values
  TooMany types.LargeBinary values = IsTooLong (greatest_offset true) bytes_in values
  TooMany (types.List' shape item) values = (greatest_offset false < length (all_items values)) ⊎ TooManyItems item (all_items values)
  TooMany (types.LargeList' shape item) values = (greatest_offset true < length (all_items values)) ⊎ TooManyItems item (all_items values)
  TooMany (types.FixedSizeList' shape item size) values = TooManyItems item (all_sized size values)
  TooMany (types.Struct' shape fields) values = TooManyMembers fields values
  TooMany (types.Dictionary' key shape value is_sorted) values = TooManyInner key value values
  TooMany _ values = ⊥

  -- by the one field of a type of lists
  pub TooManyItems : {m : _} → Row_of-Field m → List Json → Type 0
  TooManyItems end_of-Field values = ⊥
  TooManyItems (more_of-Field name t is_nullable metadata rest) values = TooMany t values

  -- in the members of a field
  pub TooManyMembers : {m : _} → Row_of-Field m → List Json → Type 0
  TooManyMembers end_of-Field values = ⊥
  TooManyMembers (more_of-Field name t is_nullable metadata rest) values = TooMany t (members_named name values) ⊎ TooManyMembers rest values

-- in the members of some of these fields
abbrev pub TooManyFields : List Field → List Json → Type 0
TooManyFields [] values = ⊥
TooManyFields (f ∷ fields) values = TooMany f.data_type (members_named f.name values) ⊎ TooManyFields fields values

-- a column of a field's members
abbrev pub IsMemberColumn : Field → List Json → DataType → List Slot → Type 0
IsMemberColumn f values t slots = (f.data_type ≡ t) × AreSlotsOf (reading f.data_type) (members_named f.name values) slots

-- one for each field
abbrev pub AreMemberColumns : List Field → List Json → List Array → Type 0
AreMemberColumns fields values = AllZip (λ f a. IsMemberColumn f values (array_type a) (array_slots a)) fields

-- ---- Contracts of private functions alone cite what follows.

-- why there is no column of this type
abbrev pub IsFault : DataType → List Json → Error → Type 0
IsFault t values = IsColumnFault (reading t) (TooMany t values) values

-- the items of lists of this field are more than can be counted
abbrev pub TooManyListed : Bool → Field → List Json → Type 0
TooManyListed is_large item values = (greatest_offset is_large < length (all_items values)) ⊎ TooMany item.data_type (all_items values)

-- there are more items than can be counted, or no memory
abbrev pub IsCountFault : ℕ → ℕ → Error → Type 0
IsCountFault greatest n e = (e ≡ OutOfMemory) ⊎ ((e ≡ Overflow) × (greatest < n))

-- why there are no lists of this field
abbrev pub IsListFault : Bool → Field → List Json → Error → Type 0
IsListFault is_large item values = IsColumnFault (list_in (means (reading item.data_type))) (TooManyListed is_large item values) values

-- why there are no lists of so many items of this field
abbrev pub IsSizedFault : ℕ → Field → List Json → Error → Type 0
IsSizedFault size item values = IsColumnFault (sized_list_in size (means (reading item.data_type))) (TooMany item.data_type (all_sized size values)) values

-- why there are no structs of these fields
abbrev pub IsStructFault : List Field → List Json → Error → Type 0
IsStructFault fields values = IsColumnFault (struct_in (field_meanings fields)) (TooManyFields fields values) values

-- why there is no column of a field's members
abbrev pub IsMemberFault : Field → List Json → Error → Type 0
IsMemberFault field values = IsFault field.data_type (members_named field.name values)

-- why there are no columns of the members of fields
abbrev pub IsFieldsFault : List Field → List Json → Error → Type 0
IsFieldsFault fields values e = (e ≡ OutOfMemory) ⊎ Any (λ f. IsMemberFault f values e) fields
