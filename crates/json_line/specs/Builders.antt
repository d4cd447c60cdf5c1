-- The builders of columns, the names that are kept beside them, and what builders take. Contracts of private functions, and the model of `LineBuilders`, alone cite this file.
use Rattle.std.specs.Prelude.{◌≡◌, ◌≢◌, ◌<◌, ◌⊎◌, ◌++◌, ◌∷◌, [], ℕ, pos, negsuc, Bool, true, false, cond, List, length, map, get_or, set, Option, MatchOption, Result, OnOk}
use Rattle.arrow_array.specs.FixedLists.{list_size}
use Rattle.arrow_builders.specs.Children.{fields_of}
use Rattle.arrow_builders.specs.MutableArrays.{builder_slots}
use Rattle.arrow_builders.specs.Shapes.{Shape, flat, lists, fixed_lists, records, no_field, field, shape as shape_of}
use Rattle.arrow_builders.specs.Tight.{IsTight}
use Rattle.arrow_builders.specs.declared.array.MutableArray.{MutableArray}
use Rattle.arrow_core.specs.Layouts.{physical_type}
use Rattle.arrow_core.specs.declared.physical.PhysicalType.{PhysicalType}
use Rattle.arrow_core.specs.declared.physical.PhysicalType.TheVariants as physical
use Rattle.arrow_core.specs.declared.physical.PrimitiveType.TheVariants as primitive
use Rattle.arrow_core.specs.declared.slot.Slot.{Slot}
use Rattle.arrow_core.specs.declared.types.DataType.{DataType, Timestamp, List', LargeList', FixedSizeList', Struct', Row_of-Field, end_of-Field, more_of-Field}
use Rattle.arrow_core.specs.declared.types.Field.{Field}
use Rattle.json_tree.specs.Layout.{distinct}
use Rattle.json_tree.specs.Reading.{Outcome, found, array_at, object_at, value_at}
use Rattle.json_tree.specs.Tree.{Json, null, array, object}
use Rattle.json_tree.specs.declared.value.Value.{out-Value}
use Rattle.json_flat.specs.Columns.{AreSlotsOf, Pushes}
use Rattle.json_flat.specs.Meaning.{Layer, Meaning, null_in, boolean_in, whole_in, int64_in, moment_in, text_in, bytes_in}
use Rattle.json_flat.specs.Reading.{int32_in, list_in, sized_list_in, struct_in}
use Rattle.json_lend.specs.Fields.{value_named, values_of}
use Rattle.json_line.specs.declared.field_names.FieldNames.{FieldNames, Flat, Items', Sized', Fields', Row_of-FieldNames, end_of-FieldNames, more_of-FieldNames}
use Rattle.json_lend.specs.declared.given_up.GivenUp.{GivenUp}
use Rattle.json_flat.specs.Names.{names_of, row_names}
use Rattle.json_line.specs.Lines.{are_line_fields, values_named}

-- ---- null, booleans, numbers and strings

abbrev pub is_timestamp : DataType → Bool
is_timestamp (Timestamp unit timezone) = true
is_timestamp _ = false

-- what a value means in a column whose slots lie in memory so, of timestamps or of another type
abbrev pub kind_reading : Bool → PhysicalType → Layer → Meaning
kind_reading of_timestamps physical.Boolean = boolean_in
kind_reading of_timestamps (physical.Primitive primitive.Int8) = whole_in (negsuc 127) (pos 127)
kind_reading of_timestamps (physical.Primitive primitive.Int16) = whole_in (negsuc 32767) (pos 32767)
kind_reading of_timestamps (physical.Primitive primitive.Int32) = int32_in
kind_reading of_timestamps (physical.Primitive primitive.Int64) = cond of_timestamps moment_in int64_in
kind_reading of_timestamps (physical.Primitive primitive.UInt8) = whole_in (pos 0) (pos 255)
kind_reading of_timestamps (physical.Primitive primitive.UInt16) = whole_in (pos 0) (pos 65535)
kind_reading of_timestamps (physical.Primitive primitive.UInt32) = whole_in (pos 0) (pos 4294967295)
kind_reading of_timestamps (physical.Primitive primitive.UInt64) = whole_in (pos 0) (pos 18446744073709551615)
kind_reading of_timestamps physical.Utf8 = text_in
kind_reading of_timestamps physical.LargeUtf8 = text_in
kind_reading of_timestamps physical.Binary = bytes_in
kind_reading of_timestamps physical.LargeBinary = bytes_in
kind_reading of_timestamps _ = null_in

-- ---- shapes of builders

-- none of List, LargeList, FixedSizeList and Struct
abbrev pub IsNotNested : DataType → Type 0
IsNotNested (List' shape item) = ⊥
IsNotNested (LargeList' shape item) = ⊥
IsNotNested (FixedSizeList' shape item size) = ⊥
IsNotNested (Struct' shape fields) = ⊥
IsNotNested _ = Unit {0}

abbrev mutual
  -- the shape of the builder of a type's columns
  pub line_shape : DataType → Shape
  line_shape (List' shape item) = lists physical.List (List' shape item) (item_shape item)
  line_shape (LargeList' shape item) = lists physical.LargeList (LargeList' shape item) (item_shape item)
  line_shape (FixedSizeList' shape item size) = fixed_lists (FixedSizeList' shape item size) (item_shape item)
  line_shape (Struct' shape fields) = records (Struct' shape fields) (row_shapes fields)
  line_shape data_type = flat (physical_type data_type) data_type

  pub item_shape : {m : _} → Row_of-Field m → Shape
  item_shape end_of-Field = no_field
  item_shape (more_of-Field name t is_nullable metadata rest) = line_shape t

  pub row_shapes : {m : _} → Row_of-Field m → Shape
  row_shapes end_of-Field = no_field
  row_shapes (more_of-Field name t is_nullable metadata rest) = field (line_shape t) (row_shapes rest)

abbrev pub shapes_of : List Field → List Shape
shapes_of fields = map (λ (f : Field). line_shape f.data_type) fields

-- the names of a struct's fields
abbrev pub struct_names : DataType → List (List ℕ)
struct_names (Struct' shape fields) = row_names fields
struct_names _ = []

abbrev mutual
  -- what a value means in a builder of a shape
  pub shape_reading : Shape → Layer → Meaning
  shape_reading (flat kind data_type) = kind_reading (is_timestamp data_type) kind
  shape_reading (lists kind data_type item) = list_in (λ value. shape_reading item (out-Value value))
  shape_reading (fixed_lists data_type item) = sized_list_in (list_size data_type) (λ value. shape_reading item (out-Value value))
  shape_reading (records data_type fields) = struct_in (shape_members (struct_names data_type) fields)
  shape_reading _ = null_in

  -- the members of an object, by these names
  pub shape_members : List (List ℕ) → Shape → List (List ℕ × Json) → List Meaning
  shape_members (name ∷ names) (field first more) members = shape_reading first (out-Value (value_named members name)) ∷ shape_members names more members
  shape_members _ _ members = []

-- ---- names beside builders

abbrev mutual
  -- names that stand beside a builder of a shape
  pub Suits : FieldNames → Shape → Type 0
  Suits Flat s = Unit {0}
  Suits (Items' p item) (lists kind data_type s) = Suits item s
  Suits (Sized' size p item) (fixed_lists data_type s) = (size ≡ list_size data_type) × Suits item s
  Suits (Fields' own shape below) (records data_type fields) = (own.items ≡ struct_names data_type) × (distinct own.items ≡ true) × SuitsBelow below fields
  Suits _ _ = ⊥

  pub SuitsBelow : {m : _} → Row_of-FieldNames m → Shape → Type 0
  SuitsBelow end_of-FieldNames no_field = Unit {0}
  SuitsBelow (more_of-FieldNames names rest) (field first more) = Suits names first × SuitsBelow rest more
  SuitsBelow _ _ = ⊥

-- names beside a builder of lists
abbrev pub SuitsItems : FieldNames → Shape → Type 0
SuitsItems names (lists kind data_type s) = Suits names s
SuitsItems names _ = ⊥

-- names beside a builder of lists of `size` items
abbrev pub SuitsSized : ℕ → FieldNames → Shape → Type 0
SuitsSized size names (fixed_lists data_type s) = (size ≡ list_size data_type) × Suits names s
SuitsSized size names _ = ⊥

-- a builder of lists of any kind
abbrev pub IsOfLists : Shape → Type 0
IsOfLists (lists kind data_type s) = Unit {0}
IsOfLists (fixed_lists data_type s) = Unit {0}
IsOfLists _ = ⊥

-- names beside builders, one after another
abbrev pub AllSuit : List FieldNames → Shape → Type 0
AllSuit [] no_field = Unit {0}
AllSuit (names ∷ rest) (field first more) = Suits names first × AllSuit rest more
AllSuit _ _ = ⊥

-- the fields' names and those below each, beside a builder of structs
abbrev pub SuitsFields : List (List ℕ) → List FieldNames → Shape → Type 0
SuitsFields own below (records data_type fields) = (own ≡ struct_names data_type) × (distinct own ≡ true) × AllSuit below fields
SuitsFields own below _ = ⊥

abbrev pub AreTight : List MutableArray → Type 0
AreTight [] = Unit {0}
AreTight (b ∷ bs) = IsTight b × AreTight bs

-- builders of the columns of fields, beside the fields' names
pub record AreLineBuilders (fields : List Field) (names : List (List ℕ)) (below : List FieldNames) (builders : List MutableArray) : Type 0 where
  pub fit : are_line_fields fields ≡ true
  pub names_are : names ≡ names_of fields
  pub suits : AllSuit below (fields_of (shapes_of fields))
  pub shapes_are : map shape_of builders ≡ shapes_of fields

-- ---- what builders take

-- a builder took the slot that the value means
abbrev pub Takes : Json → MutableArray → MutableArray → Type 0
Takes value old new = Pushes (shape_reading (shape_of old)) value (builder_slots old) (builder_slots new)

-- a builder was given a value, and its shape stays; it took the slot, or gave the value up
pub record IsGiven (value : Json) (old new : MutableArray) (result : Result (Unit {0}) GivenUp) : Type 0 where
  pub same_shape : shape_of new ≡ shape_of old
  pub tight : OnOk result (IsTight new)
  pub ok : OnOk result (Takes value old new)

-- a builder took the slots that the values mean
abbrev pub TakesAll : List Json → MutableArray → MutableArray → Type 0
TakesAll values old new =
    (added : List Slot) × AreSlotsOf (shape_reading (shape_of old)) values added × (builder_slots new ≡ builder_slots old ++ added)

-- each builder took the value of its name among the members
abbrev pub TakesRow : List (List ℕ) → List (List ℕ × Json) → List MutableArray → List MutableArray → Type 0
TakesRow names members old new =
    (k : ℕ) (name : List ℕ) (b : MutableArray) → k < length old → Takes (value_named members (get_or names k name)) (get_or old k b) (get_or new k b)

-- each builder took the values of its name in the rows
abbrev pub TakesRows : List (List ℕ) → List (List (List ℕ × Json)) → List MutableArray → List MutableArray → Type 0
TakesRows names rows old new =
    (k : ℕ) (name : List ℕ) (b : MutableArray) → k < length old → TakesAll (values_named rows (get_or names k name)) (get_or old k b) (get_or new k b)

-- ---- what is read into builders

-- a value was read, and a builder took it
abbrev pub ReadsInto : (List ℕ → Outcome Json) → List ℕ → List ℕ → MutableArray → MutableArray → Type 0
ReadsInto read before after old new = (value : Json) × (read before ≡ found value after) × Takes value old new

-- an array was read, and a builder took its items
abbrev pub ReadsItems : ℕ → List ℕ → List ℕ → MutableArray → MutableArray → Type 0
ReadsItems depth before after old new = (items : List Json) × (array_at (value_at depth) before ≡ found (array items) after) × TakesAll items old new

-- the builder at the index had `count` slots, and took the value; the others stay
abbrev pub TakesAt : ℕ → Json → List MutableArray → List MutableArray → ℕ → Type 0
TakesAt count value old new i =
    (b : MutableArray) × (new ≡ set old i b) × (length (builder_slots (get_or old i b)) ≡ count) × IsTight b × Takes value (get_or old i b) b

-- a member's value was read, and the builder at the index, if there is one, took it
abbrev pub ReadsMember : ℕ → ℕ → Option ℕ → List ℕ → List ℕ → List MutableArray → List MutableArray → Type 0
ReadsMember depth count at before after old new =
    (value : Json) × (value_at depth before ≡ found value after) × MatchOption at (new ≡ old) (TakesAt count value old new)

-- a builder took the value; or the value is null and the builder stays, to take null when the object ends
abbrev pub TakesOrWaits : Json → MutableArray → MutableArray → Type 0
TakesOrWaits value old new = (Takes value old new × IsTight new) ⊎ ((value ≡ null) × (new ≡ old))

-- the same of each builder and its value
abbrev pub AllTakeOrWait : List Json → List MutableArray → List MutableArray → Type 0
AllTakeOrWait [] [] [] = Unit {0}
AllTakeOrWait (value ∷ values) (old ∷ olds) (new ∷ news) = TakesOrWaits value old new × AllTakeOrWait values olds news
AllTakeOrWait _ _ _ = ⊥

-- an object was read, and each builder whose name is a key took its value
abbrev pub ReadsObject : ℕ → List (List ℕ) → List ℕ → List ℕ → List MutableArray → List MutableArray → Type 0
ReadsObject depth names before after old new =
    (members : List (List ℕ × Json)) × (object_at (value_at depth) before ≡ found (object members) after) × AllTakeOrWait (values_of members names) old new

-- a builder that had `count` slots took null, and another stays
abbrev pub Fills : ℕ → MutableArray → MutableArray → Type 0
Fills count old new =
    ((length (builder_slots old) ≡ count) × Takes null old new × IsTight new) ⊎ ((length (builder_slots old) ≢ count) × (new ≡ old))
