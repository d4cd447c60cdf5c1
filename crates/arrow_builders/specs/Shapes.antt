-- What a builder of any kind keeps at every call, and what nulls add to its nodes.
use Rattle.std.specs.Prelude.{◌≡◌, ℕ, ◌+◌, ◌*◌, ◌≤◌, List, [], ◌∷◌, ◌++◌}
use Rattle.arrow_core.specs.declared.slot.Slot.{Slot}
use Rattle.arrow_core.specs.declared.types.DataType.{DataType}
use Rattle.arrow_core.specs.declared.types.DataType.TheVariants as types
use Rattle.arrow_core.specs.declared.types.IntegerType.TheVariants as integer
use Rattle.arrow_core.specs.declared.physical.PhysicalType.{PhysicalType}
use Rattle.arrow_core.specs.declared.physical.PhysicalType.TheVariants as physical
use Rattle.arrow_array.specs.FixedLists.{list_size}
use Rattle.arrow_array.specs.Parts.{byte_width}
use Rattle.arrow_flat.specs.Nested.{null_slots}
use Rattle.arrow_flat.specs.Nodes.{Node, Takes}
use Rattle.arrow_builders.specs.MutableArrays.{builder_type, builder_kind}
use Rattle.arrow_builders.specs.declared.array.MutableArray.{MutableArray}
use Rattle.arrow_builders.specs.declared.array.MutableArray.{Dictionary, List', LargeList', FixedSizeList', Struct', Row_of-MutableArray, end_of-MutableArray, more_of-MutableArray}

-- a builder without its slots and its capacity: its kind and its data type, a dictionary's values, and the shapes of its children
pub data Shape : Type 0 where
  flat : PhysicalType → DataType → Shape
  dictionary : DataType → List Slot → Shape
  lists : PhysicalType → DataType → Shape → Shape
  fixed_lists : DataType → Shape → Shape
  records : DataType → Shape → Shape
  no_field : Shape
  field : Shape → Shape → Shape

abbrev mutual
  pub shape : MutableArray → Shape
  shape (List' marks p child) = lists physical.List marks.data_type (shape child)
  shape (LargeList' marks p child) = lists physical.LargeList marks.data_type (shape child)
  shape (FixedSizeList' marks p child) = fixed_lists marks.data_type (shape child)
  shape (Struct' marks size row) = records marks.data_type (shapes_below row)
  shape (Dictionary b) = dictionary b.data_type b.items
  shape b = flat (builder_kind b) (builder_type b)

  pub shapes_below : {m : _} → Row_of-MutableArray m → Shape
  shapes_below end_of-MutableArray = no_field
  shapes_below (more_of-MutableArray b rest) = field (shape b) (shapes_below rest)

-- the kind of the builders of a shape
abbrev pub shape_kind : Shape → PhysicalType
shape_kind (flat kind data_type) = kind
shape_kind (dictionary data_type items) = physical.Dictionary integer.Int32
shape_kind (lists kind data_type item) = kind
shape_kind (fixed_lists data_type item) = physical.FixedSizeList
shape_kind _ = physical.Struct

-- the data type of the builders of a shape
abbrev pub shape_type : Shape → DataType
shape_type (flat kind data_type) = data_type
shape_type (dictionary data_type items) = data_type
shape_type (lists kind data_type item) = data_type
shape_type (fixed_lists data_type item) = data_type
shape_type (records data_type fields) = data_type
shape_type _ = types.Null

-- a builder without children
abbrev pub IsFlat : MutableArray → Type 0
IsFlat (List' marks p child) = ⊥
IsFlat (LargeList' marks p child) = ⊥
IsFlat (FixedSizeList' marks p child) = ⊥
IsFlat (Struct' marks size row) = ⊥
IsFlat b = Unit {0}

-- the slots and the content bytes that come to a node
pub record Added : Type 0 where
  pub slots : ℕ
  pub bytes : ℕ

-- the content bytes of a null: of fixed-size binary values as many as a value's, and else none
abbrev pub null_bytes : PhysicalType → DataType → ℕ
null_bytes physical.FixedSizeBinary data_type = byte_width data_type
null_bytes _ data_type = 0

-- what n nulls add at each node, in preorder: nothing beneath lists, n nulls beneath structs, and beneath fixed-size lists as many as n lists have items
abbrev pub nulls_in : ℕ → Shape → List Added
nulls_in n (flat kind data_type) = record { slots = n; bytes = n * null_bytes kind data_type } ∷ []
nulls_in n (dictionary data_type items) = record { slots = n; bytes = 0 } ∷ []
nulls_in n (lists kind data_type item) = record { slots = n; bytes = 0 } ∷ nulls_in 0 item
nulls_in n (fixed_lists data_type item) = record { slots = n; bytes = 0 } ∷ nulls_in (n * list_size data_type) item
nulls_in n (records data_type fields) = record { slots = n; bytes = 0 } ∷ nulls_in n fields
nulls_in n no_field = []
nulls_in n (field first more) = nulls_in n first ++ nulls_in n more

abbrev pub nulls_at : ℕ → MutableArray → List Added
nulls_at n b = nulls_in n (shape b)

-- at each node this holds of what is added, of what was there and of what is there now
abbrev pub AllAdded : {X : Type 0} → (Added → X → X → Type 0) → List Added → List X → List X → Type 0
AllAdded Adds [] [] [] = Unit {0}
AllAdded Adds (a ∷ more) (x ∷ xs) (y ∷ ys) = Adds a x y × AllAdded Adds more xs ys
AllAdded Adds _ _ _ = ⊥

-- at each node, at most what is told is added, and no capacity is lost besides
abbrev pub AllTake : List Added → List Node → List Node → Type 0
AllTake adds xs ys = AllAdded (λ a x y. Takes a.slots a.bytes x y) adds xs ys

-- at each node, as many nulls as are told come after its slots
abbrev pub AllGetNulls : List Added → List (List Slot) → List (List Slot) → Type 0
AllGetNulls adds xs ys = AllAdded (λ a x y. y ≡ x ++ null_slots a.slots) adds xs ys

-- at each node, as many content bytes as are told come to those that it had
abbrev pub AllGetBytes : List Added → List Node → List Node → Type 0
AllGetBytes adds xs ys = AllAdded (λ a x y. y.bytes ≡ x.bytes + a.bytes) adds xs ys

-- a node has spare capacity for what is added
pub record FitsIn (a : Added) (x : Node) : Type 0 where
  pub slots : a.slots ≤ x.spare
  pub bytes : a.bytes ≤ x.byte_spare

-- a node has spare capacity for the content bytes that are added
abbrev pub BytesFitIn : Added → Node → Type 0
BytesFitIn a x = a.bytes ≤ x.byte_spare
