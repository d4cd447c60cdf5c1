-- The first node of a builder, and what its shape tells.
use Rattle.std.proofs.Common.{◌≡◌, ◌∙◌, ap, sym, subst, List, [], ◌∷◌, length, refl}
use Rattle.std.proofs.lemmas.List.Elements.{All-head}
use Rattle.std.proofs.Common.{All, arith}
use Rattle.arrow_core.specs.declared.slot.Slot.{Slot}
use Rattle.arrow_array.specs.FixedLists.{list_size}
use Rattle.arrow_array.specs.Structs.{record_at}
use Rattle.arrow_flat.specs.Builders.{plain_node, content_node}
use Rattle.arrow_flat.specs.Dictionaries.{dictionary_node}
use Rattle.arrow_flat.specs.Nested.{lists_node, marks_node, fixed_list_slot}
use Rattle.arrow_flat.specs.Nodes.{Node, IsEmpty}
use Rattle.arrow_flat.proofs.ListOffsets.{length-lists}
use Rattle.arrow_flat.proofs.Slots.{length-slots_of}
use Rattle.arrow_builders.specs.MutableArrays.{builder_type, builder_slots, builder_kind, slots_below, nodes, nodes_below, slots_at, slots_at_below}
use Rattle.arrow_builders.specs.Shapes.{shape, shape_kind, shape_type}
use Rattle.arrow_builders.specs.declared.array.MutableArray.{MutableArray, List', LargeList', FixedSizeList', Struct'}
use Rattle.arrow_builders.specs.declared.array.MutableArray.{Null, Boolean, Int8, Int16, Int32, Int64, UInt8, UInt16, UInt32, UInt64, Int128, MonthDayNano, Utf8, LargeUtf8, Binary, LargeBinary, FixedSizeBinary, Dictionary}

-- ---- the first node holds the builder's slots

pub first_node : (b : MutableArray) → (x : Node) × (xs : List Node) × (nodes b ≡ x ∷ xs) × (x.slots ≡ length (builder_slots b))
first_node (Null b) = (plain_node b, [], refl, refl)
first_node (Boolean b) = (plain_node b, [], refl, refl)
first_node (Int8 b) = (plain_node b, [], refl, refl)
first_node (Int16 b) = (plain_node b, [], refl, refl)
first_node (Int32 b) = (plain_node b, [], refl, refl)
first_node (Int64 b) = (plain_node b, [], refl, refl)
first_node (UInt8 b) = (plain_node b, [], refl, refl)
first_node (UInt16 b) = (plain_node b, [], refl, refl)
first_node (UInt32 b) = (plain_node b, [], refl, refl)
first_node (UInt64 b) = (plain_node b, [], refl, refl)
first_node (Int128 b) = (plain_node b, [], refl, refl)
first_node (MonthDayNano b) = (plain_node b, [], refl, refl)
first_node (Utf8 b) = (content_node b, [], refl, refl)
first_node (LargeUtf8 b) = (content_node b, [], refl, refl)
first_node (Binary b) = (content_node b, [], refl, refl)
first_node (LargeBinary b) = (content_node b, [], refl, refl)
first_node (FixedSizeBinary b) = (content_node b, [], refl, refl)
first_node (Dictionary b) = (dictionary_node b, [], refl, refl)
first_node (List' lists p child) = (lists_node lists, nodes child, refl, sym (length-lists 0 lists.lens (builder_slots child)))
first_node (LargeList' lists p child) = (lists_node lists, nodes child, refl, sym (length-lists 0 lists.lens (builder_slots child)))
first_node (FixedSizeList' marks p child) = (marks_node marks, nodes child, refl, sym (length-slots_of (fixed_list_slot (list_size marks.data_type) (builder_slots child)) marks.booleans (length marks.booleans)))
first_node (Struct' marks size row) = (marks_node marks, nodes_below row, refl, sym (length-slots_of (record_at (slots_below row)) marks.booleans (length marks.booleans)))

pub first_slots : (b : MutableArray) → (more : List (List Slot)) × (slots_at b ≡ builder_slots b ∷ more)
first_slots (Null b) = ([], refl)
first_slots (Boolean b) = ([], refl)
first_slots (Int8 b) = ([], refl)
first_slots (Int16 b) = ([], refl)
first_slots (Int32 b) = ([], refl)
first_slots (Int64 b) = ([], refl)
first_slots (UInt8 b) = ([], refl)
first_slots (UInt16 b) = ([], refl)
first_slots (UInt32 b) = ([], refl)
first_slots (UInt64 b) = ([], refl)
first_slots (Int128 b) = ([], refl)
first_slots (MonthDayNano b) = ([], refl)
first_slots (Utf8 b) = ([], refl)
first_slots (LargeUtf8 b) = ([], refl)
first_slots (Binary b) = ([], refl)
first_slots (LargeBinary b) = ([], refl)
first_slots (FixedSizeBinary b) = ([], refl)
first_slots (Dictionary b) = ([], refl)
first_slots (List' l p child) = (slots_at child, refl)
first_slots (LargeList' l p child) = (slots_at child, refl)
first_slots (FixedSizeList' l p child) = (slots_at child, refl)
first_slots (Struct' m p row) = (slots_at_below row, refl)

-- ---- a shape tells kind and type

pub kind_is : (b : MutableArray) → builder_kind b ≡ shape_kind (shape b)
kind_is (Null b) = refl
kind_is (Boolean b) = refl
kind_is (Int8 b) = refl
kind_is (Int16 b) = refl
kind_is (Int32 b) = refl
kind_is (Int64 b) = refl
kind_is (UInt8 b) = refl
kind_is (UInt16 b) = refl
kind_is (UInt32 b) = refl
kind_is (UInt64 b) = refl
kind_is (Int128 b) = refl
kind_is (MonthDayNano b) = refl
kind_is (Utf8 b) = refl
kind_is (LargeUtf8 b) = refl
kind_is (Binary b) = refl
kind_is (LargeBinary b) = refl
kind_is (FixedSizeBinary b) = refl
kind_is (Dictionary b) = refl
kind_is (List' l p child) = refl
kind_is (LargeList' l p child) = refl
kind_is (FixedSizeList' l p child) = refl
kind_is (Struct' m p row) = refl

pub type_is : (b : MutableArray) → builder_type b ≡ shape_type (shape b)
type_is (Null b) = refl
type_is (Boolean b) = refl
type_is (Int8 b) = refl
type_is (Int16 b) = refl
type_is (Int32 b) = refl
type_is (Int64 b) = refl
type_is (UInt8 b) = refl
type_is (UInt16 b) = refl
type_is (UInt32 b) = refl
type_is (UInt64 b) = refl
type_is (Int128 b) = refl
type_is (MonthDayNano b) = refl
type_is (Utf8 b) = refl
type_is (LargeUtf8 b) = refl
type_is (Binary b) = refl
type_is (LargeBinary b) = refl
type_is (FixedSizeBinary b) = refl
type_is (Dictionary b) = refl
type_is (List' l p child) = refl
type_is (LargeList' l p child) = refl
type_is (FixedSizeList' l p child) = refl
type_is (Struct' m p row) = refl

pub same_kind : (b c : MutableArray) → shape c ≡ shape b → builder_kind c ≡ builder_kind b
same_kind b c e = kind_is c ∙ ap shape_kind e ∙ sym (kind_is b)

pub same_type : (b c : MutableArray) → shape c ≡ shape b → builder_type c ≡ builder_type b
same_type b c e = type_is c ∙ ap shape_type e ∙ sym (type_is b)

-- ---- the slots of the builder, by those at its nodes

pub same_slots : (b c : MutableArray) → slots_at c ≡ slots_at b → builder_slots c ≡ builder_slots b
same_slots b c e =
    let x = first_slots b in
    let y = first_slots c in
    let k : builder_slots c ∷ y.0 ≡ builder_slots b ∷ x.0 = sym y.1 ∙ e ∙ x.1 in
    heads (builder_slots c) (builder_slots b) y.0 x.0 k
  where
    heads : (x y : List Slot) (xs ys : List (List Slot)) → x ∷ xs ≡ y ∷ ys → x ≡ y
    heads x y xs ys e = cc

none : (xs : List Slot) → length xs ≡ 0 → xs ≡ []
none [] l = refl
none (x ∷ xs) l = absurd (omega (arith, l))

pub no_slots : (b : MutableArray) → All IsEmpty (nodes b) → builder_slots b ≡ []
no_slots b h =
    let f = first_node b in
    let e : IsEmpty f.0 = All-head IsEmpty f.0 f.1 (subst (All IsEmpty) f.2 h) in
    none (builder_slots b) (sym f.3 ∙ e.slots)
