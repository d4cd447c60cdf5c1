-- The values beneath several values, in order.
use Rattle.std.specs.Prelude.{ℕ, zero, suc, cond, Bool, true, false, ◌&&◌, not, ◌==◌, Option, Some, None, List, [], ◌∷◌, ◌++◌, length, map}
use Rattle.std.specs.List.{list_all}
use Rattle.arrow_core.specs.declared.types.DataType.{DataType, List', LargeList', FixedSizeList', Struct', Dictionary'}
use Rattle.arrow_core.specs.declared.types.Field.{Field}
use Rattle.json_tree.specs.Keys.{value_of}
use Rattle.json_tree.specs.Tree.{Json, null, or_null}
use Rattle.json_tree.specs.declared.value.Value.{out-Value}
use Rattle.json_tree.specs.declared.value.Value.TheOpen as layer
use Rattle.json_flat.specs.Meaning.{Meaning, Layer}
use Rattle.json_flat.specs.Columns.{means}
use Rattle.json_flat.specs.Reading.{has_reading, reading}

-- the items of an array, and none of another value
abbrev pub items_in : Layer → List Json
items_in (layer.Array items) = items
items_in _ = []

-- the items of each array, one array after another
abbrev pub all_items : List Json → List Json
all_items [] = []
all_items (value ∷ values) = items_in (out-Value value) ++ all_items values

-- so many nulls
abbrev pub nulls : ℕ → List Json
nulls zero = []
nulls (suc n) = null ∷ nulls n

-- the items of an array of so many, and as many nulls of another value
abbrev pub sized_items : ℕ → Layer → List Json
sized_items size (layer.Array items) = cond (length items == size) items (nulls size)
sized_items size _ = nulls size

-- the same of each value, one after another
abbrev pub all_sized : ℕ → List Json → List Json
all_sized size [] = []
all_sized size (value ∷ values) = sized_items size (out-Value value) ++ all_sized size values

-- the member of this name; null where there is none
abbrev pub member_in : List ℕ → Layer → Json
member_in name (layer.Object object) = or_null (value_of name object.members)
member_in name _ = null

-- the member of this name in each value
abbrev pub members_named : List ℕ → List Json → List Json
members_named name values = map (λ value. member_in name (out-Value value)) values

-- the members of an object by the names of fields
abbrev pub field_meanings : List Field → List (List ℕ × Json) → List Meaning
field_meanings fields members = map (λ (f : Field). means (reading f.data_type) (or_null (value_of f.name members))) fields

-- ---- Contracts of private functions alone cite what follows.

-- how many items an array has; None for another value
abbrev pub len_in : Layer → Option ℕ
len_in (layer.Array items) = Some (length items)
len_in _ = None

abbrev pub list_lens : List Json → List (Option ℕ)
list_lens values = map (λ value. len_in (out-Value value)) values

-- whether a value is an array of so many items
abbrev pub is_sized : ℕ → Layer → Bool
is_sized size (layer.Array items) = length items == size
is_sized size _ = false

abbrev pub are_sized : ℕ → List Json → List Bool
are_sized size values = map (λ value. is_sized size (out-Value value)) values

-- whether a value is an object
abbrev pub is_object : Layer → Bool
is_object (layer.Object object) = true
is_object _ = false

abbrev pub are_objects : List Json → List Bool
are_objects values = map (λ value. is_object (out-Value value)) values

-- a type with no types in it
abbrev pub HasNoFields : DataType → Type 0
HasNoFields (List' shape item) = ⊥
HasNoFields (LargeList' shape item) = ⊥
HasNoFields (FixedSizeList' shape item size) = ⊥
HasNoFields (Struct' shape fields) = ⊥
HasNoFields (Dictionary' key shape value is_sorted) = ⊥
HasNoFields _ = Unit {0}

-- lists have items, and values are read under the type of these
abbrev pub sized_list_has_reading : ℕ → Field → Bool
sized_list_has_reading size item = not (size == 0) && has_reading item.data_type

-- values are read under the type of each field
abbrev pub all_have_reading : List Field → Bool
all_have_reading = list_all (λ (f : Field). has_reading f.data_type)

-- and there is one
abbrev pub struct_has_reading : List Field → Bool
struct_has_reading fields = not (length fields == 0) && all_have_reading fields
