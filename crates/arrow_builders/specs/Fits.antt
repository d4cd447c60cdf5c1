-- Whether a builder's children, which it lends out, make an array of its type.
use Rattle.std.specs.Prelude.{◌≡◌, ℕ, ◌*◌, ◌<◌, ◌≤◌, Bool, true, false, List, [], ◌∷◌, length, map, All}
use Rattle.arrow_core.specs.declared.slot.Slot.{Slot}
use Rattle.arrow_core.specs.declared.types.DataType.{DataType}
use Rattle.arrow_core.specs.declared.types.DataType.TheVariants as types
use Rattle.arrow_core.specs.declared.physical.PhysicalType.TheVariants as physical
use Rattle.arrow_core.specs.declared.types.Field.{Field}
use Rattle.arrow_array.specs.FixedLists.{IsFixedListOf, list_size}
use Rattle.arrow_array.specs.Lists.{IsListOf}
use Rattle.arrow_builders.specs.MutableArrays.{builder_type, builder_slots, slots_below, types_below}
use Rattle.arrow_flat.specs.Nested.{items_of}
use Rattle.arrow_builders.specs.Shapes.{Shape, flat, dictionary, lists, fixed_lists, records, no_field, field, shape_type}
use Rattle.arrow_builders.specs.declared.array.MutableArray.{MutableArray, List', LargeList', FixedSizeList', Struct', Row_of-MutableArray, end_of-MutableArray, more_of-MutableArray}

-- a child of this type with n slots, whose own children fit, and into which lists reach up to an index
pub record ListsFit (is_large : Bool) (data_type item : DataType) (reach n : ℕ) (ChildFits : Type 0) : Type 0 where
  pub kind : IsListOf is_large data_type item
  pub within : reach ≤ n
  pub below : ChildFits

-- a child of this type with n slots, whose own children fit, and which are the items of so many fixed-size lists
pub record FixedListsFit (data_type item : DataType) (count n : ℕ) (ChildFits : Type 0) : Type 0 where
  pub filled : 0 < list_size data_type
  pub kind : IsFixedListOf data_type item
  pub whole : n ≡ count * list_size data_type
  pub below : ChildFits

-- the type of structs whose fields have these types
abbrev pub IsRecordOf : DataType → List DataType → Type 0
IsRecordOf data_type field_types = (fields : List Field) × (data_type ≡ types.Struct fields) × (map (λ f. f.data_type) fields ≡ field_types)

-- children of these types, at least one, whose own children fit, and each with a slot for each struct
pub record RecordsFit (data_type : DataType) (field_types : List DataType) (count : ℕ) (children : List (List Slot)) (AllFit : Type 0) : Type 0 where
  pub filled : 0 < length field_types
  pub kind : IsRecordOf data_type field_types
  pub lengths : All (λ slots. length slots ≡ count) children
  pub below : AllFit

-- the types of the fields of a struct's shape
abbrev pub field_types : Shape → List DataType
field_types (field first more) = shape_type first ∷ field_types more
field_types _ = []

-- the data types of children are those that the types of their builders ask for, and a struct has a field
abbrev pub TypesFit : Shape → Type 0
TypesFit (flat kind data_type) = Unit {0}
TypesFit (dictionary data_type items) = Unit {0}
TypesFit (lists physical.LargeList data_type item) = IsListOf true data_type (shape_type item) × TypesFit item
TypesFit (lists kind data_type item) = IsListOf false data_type (shape_type item) × TypesFit item
TypesFit (fixed_lists data_type item) = (0 < list_size data_type) × IsFixedListOf data_type (shape_type item) × TypesFit item
TypesFit (records data_type fields) = (0 < length (field_types fields)) × IsRecordOf data_type (field_types fields) × TypesFit fields
TypesFit no_field = Unit {0}
TypesFit (field first more) = TypesFit first × TypesFit more

-- a flat builder has no children, and always makes an array
abbrev mutual
  pub ChildrenFit : MutableArray → Type 0
  ChildrenFit (List' marks p child) = ListsFit false marks.data_type (builder_type child) (items_of marks.lens) (length (builder_slots child)) (ChildrenFit child)
  ChildrenFit (LargeList' marks p child) = ListsFit true marks.data_type (builder_type child) (items_of marks.lens) (length (builder_slots child)) (ChildrenFit child)
  ChildrenFit (FixedSizeList' marks p child) = FixedListsFit marks.data_type (builder_type child) (length marks.booleans) (length (builder_slots child)) (ChildrenFit child)
  ChildrenFit (Struct' marks size row) = RecordsFit marks.data_type (types_below row) (length marks.booleans) (slots_below row) (FitBelow row)
  ChildrenFit b = Unit {0}

  pub FitBelow : {m : _} → Row_of-MutableArray m → Type 0
  FitBelow end_of-MutableArray = Unit {0}
  FitBelow (more_of-MutableArray b rest) = ChildrenFit b × FitBelow rest
