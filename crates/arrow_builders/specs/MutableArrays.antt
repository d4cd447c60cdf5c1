-- What contracts see of a builder of any kind.
use Rattle.std.specs.Prelude.{List, [], ◌∷◌, ◌++◌}
use Rattle.arrow_core.specs.declared.slot.Slot.{Slot}
use Rattle.arrow_core.specs.declared.types.DataType.{DataType}
use Rattle.arrow_core.specs.declared.types.IntegerType.TheVariants as integer
use Rattle.arrow_core.specs.declared.physical.PhysicalType.{PhysicalType}
use Rattle.arrow_core.specs.declared.physical.PhysicalType.TheVariants as physical
use Rattle.arrow_core.specs.declared.physical.PrimitiveType.TheVariants as primitive
use Rattle.arrow_array.specs.FixedLists.{list_size}
use Rattle.arrow_array.specs.Structs.{record_at}
use Rattle.arrow_flat.specs.Nodes.{Node}
use Rattle.arrow_flat.specs.Builders.{plain_node, content_node, slots_where}
use Rattle.arrow_flat.specs.Dictionaries.{dictionary_node}
use Rattle.arrow_flat.specs.Nested.{marks_node, lists_node, lists_from, fixed_list_slot}
use Rattle.arrow_flat.specs.declared.lengths.NodeLengths.{NodeLengths}
use Rattle.arrow_builders.specs.declared.array.MutableArray.{MutableArray, List', LargeList', FixedSizeList', Struct', Row_of-MutableArray, end_of-MutableArray, more_of-MutableArray}
use Rattle.arrow_builders.specs.declared.array.MutableArray.{Null, Boolean, Int8, Int16, Int32, Int64, UInt8, UInt16, UInt32, UInt64, Int128, MonthDayNano, Utf8, LargeUtf8, Binary, LargeBinary, FixedSizeBinary, Dictionary}

abbrev pub builder_type : MutableArray → DataType
builder_type (Null b) = b.data_type
builder_type (Boolean b) = b.data_type
builder_type (Int8 b) = b.data_type
builder_type (Int16 b) = b.data_type
builder_type (Int32 b) = b.data_type
builder_type (Int64 b) = b.data_type
builder_type (UInt8 b) = b.data_type
builder_type (UInt16 b) = b.data_type
builder_type (UInt32 b) = b.data_type
builder_type (UInt64 b) = b.data_type
builder_type (Int128 b) = b.data_type
builder_type (MonthDayNano b) = b.data_type
builder_type (Utf8 b) = b.data_type
builder_type (LargeUtf8 b) = b.data_type
builder_type (Binary b) = b.data_type
builder_type (LargeBinary b) = b.data_type
builder_type (FixedSizeBinary b) = b.data_type
builder_type (List' lists p child) = lists.data_type
builder_type (LargeList' lists p child) = lists.data_type
builder_type (FixedSizeList' marks p child) = marks.data_type
builder_type (Struct' marks size row) = marks.data_type
builder_type (Dictionary b) = b.data_type

-- the kind of a builder, by how its values lie in memory
abbrev pub builder_kind : MutableArray → PhysicalType
builder_kind (Null b) = physical.Null
builder_kind (Boolean b) = physical.Boolean
builder_kind (Int8 b) = physical.Primitive primitive.Int8
builder_kind (Int16 b) = physical.Primitive primitive.Int16
builder_kind (Int32 b) = physical.Primitive primitive.Int32
builder_kind (Int64 b) = physical.Primitive primitive.Int64
builder_kind (UInt8 b) = physical.Primitive primitive.UInt8
builder_kind (UInt16 b) = physical.Primitive primitive.UInt16
builder_kind (UInt32 b) = physical.Primitive primitive.UInt32
builder_kind (UInt64 b) = physical.Primitive primitive.UInt64
builder_kind (Int128 b) = physical.Primitive primitive.Int128
builder_kind (MonthDayNano b) = physical.Primitive primitive.MonthDayNano
builder_kind (Utf8 b) = physical.Utf8
builder_kind (LargeUtf8 b) = physical.LargeUtf8
builder_kind (Binary b) = physical.Binary
builder_kind (LargeBinary b) = physical.LargeBinary
builder_kind (FixedSizeBinary b) = physical.FixedSizeBinary
builder_kind (List' lists p child) = physical.List
builder_kind (LargeList' lists p child) = physical.LargeList
builder_kind (FixedSizeList' marks p child) = physical.FixedSizeList
builder_kind (Struct' marks size row) = physical.Struct
builder_kind (Dictionary b) = physical.Dictionary integer.Int32

-- The slots. Where a child has fewer than its parent's lists or structs reach, the missing ones count as null.
abbrev mutual
  pub builder_slots : MutableArray → List Slot
  builder_slots (Null b) = b.slots
  builder_slots (Boolean b) = b.slots
  builder_slots (Int8 b) = b.slots
  builder_slots (Int16 b) = b.slots
  builder_slots (Int32 b) = b.slots
  builder_slots (Int64 b) = b.slots
  builder_slots (UInt8 b) = b.slots
  builder_slots (UInt16 b) = b.slots
  builder_slots (UInt32 b) = b.slots
  builder_slots (UInt64 b) = b.slots
  builder_slots (Int128 b) = b.slots
  builder_slots (MonthDayNano b) = b.slots
  builder_slots (Utf8 b) = b.slots
  builder_slots (LargeUtf8 b) = b.slots
  builder_slots (Binary b) = b.slots
  builder_slots (LargeBinary b) = b.slots
  builder_slots (FixedSizeBinary b) = b.slots
  builder_slots (List' lists p child) = lists_from 0 lists.lens (builder_slots child)
  builder_slots (LargeList' lists p child) = lists_from 0 lists.lens (builder_slots child)
  builder_slots (FixedSizeList' marks p child) = slots_where marks.booleans (fixed_list_slot (list_size marks.data_type) (builder_slots child))
  builder_slots (Struct' marks size row) = slots_where marks.booleans (record_at (slots_below row))
  builder_slots (Dictionary b) = b.slots

  -- the slots of each child
  pub slots_below : {m : _} → Row_of-MutableArray m → List (List Slot)
  slots_below end_of-MutableArray = []
  slots_below (more_of-MutableArray b rest) = builder_slots b ∷ slots_below rest

-- the nodes in preorder: the builder, then the nodes beneath each of its children in turn
abbrev mutual
  pub nodes : MutableArray → List Node
  nodes (Null b) = plain_node b ∷ []
  nodes (Boolean b) = plain_node b ∷ []
  nodes (Int8 b) = plain_node b ∷ []
  nodes (Int16 b) = plain_node b ∷ []
  nodes (Int32 b) = plain_node b ∷ []
  nodes (Int64 b) = plain_node b ∷ []
  nodes (UInt8 b) = plain_node b ∷ []
  nodes (UInt16 b) = plain_node b ∷ []
  nodes (UInt32 b) = plain_node b ∷ []
  nodes (UInt64 b) = plain_node b ∷ []
  nodes (Int128 b) = plain_node b ∷ []
  nodes (MonthDayNano b) = plain_node b ∷ []
  nodes (Utf8 b) = content_node b ∷ []
  nodes (LargeUtf8 b) = content_node b ∷ []
  nodes (Binary b) = content_node b ∷ []
  nodes (LargeBinary b) = content_node b ∷ []
  nodes (FixedSizeBinary b) = content_node b ∷ []
  nodes (List' lists p child) = lists_node lists ∷ nodes child
  nodes (LargeList' lists p child) = lists_node lists ∷ nodes child
  nodes (FixedSizeList' marks p child) = marks_node marks ∷ nodes child
  nodes (Struct' marks size row) = marks_node marks ∷ nodes_below row
  nodes (Dictionary b) = dictionary_node b ∷ []

  pub nodes_below : {m : _} → Row_of-MutableArray m → List Node
  nodes_below end_of-MutableArray = []
  nodes_below (more_of-MutableArray b rest) = nodes b ++ nodes_below rest

-- the slots at each node in preorder, those of a child too that its parent's lists or structs don't reach
abbrev mutual
  pub slots_at : MutableArray → List (List Slot)
  slots_at (List' lists p child) = builder_slots (List' lists p child) ∷ slots_at child
  slots_at (LargeList' lists p child) = builder_slots (LargeList' lists p child) ∷ slots_at child
  slots_at (FixedSizeList' marks p child) = builder_slots (FixedSizeList' marks p child) ∷ slots_at child
  slots_at (Struct' marks size row) = builder_slots (Struct' marks size row) ∷ slots_at_below row
  slots_at b = builder_slots b ∷ []

  pub slots_at_below : {m : _} → Row_of-MutableArray m → List (List Slot)
  slots_at_below end_of-MutableArray = []
  slots_at_below (more_of-MutableArray b rest) = slots_at b ++ slots_at_below rest

-- the dictionaries at every depth, in the order of the fields: of each its slots, and the slots of its values
abbrev mutual
  pub builder_dictionaries : MutableArray → List (List Slot × List Slot)
  builder_dictionaries (List' lists p child) = builder_dictionaries child
  builder_dictionaries (LargeList' lists p child) = builder_dictionaries child
  builder_dictionaries (FixedSizeList' marks p child) = builder_dictionaries child
  builder_dictionaries (Struct' marks size row) = dictionaries_below row
  builder_dictionaries (Dictionary b) = (b.slots, b.items) ∷ []
  builder_dictionaries b = []

  pub dictionaries_below : {m : _} → Row_of-MutableArray m → List (List Slot × List Slot)
  dictionaries_below end_of-MutableArray = []
  dictionaries_below (more_of-MutableArray b rest) = builder_dictionaries b ++ dictionaries_below rest

-- the types of a struct's children
abbrev pub types_below : {m : _} → Row_of-MutableArray m → List DataType
types_below end_of-MutableArray = []
types_below (more_of-MutableArray b rest) = builder_type b ∷ types_below rest

-- what a node holds, without its spare capacity
abbrev pub lengths_of : Node → NodeLengths
lengths_of x = record { slots = x.slots; bytes = x.bytes }
