-- The slots of arrays are of their types.
use Rattle.std.proofs.Common.{◌≡◌, sym, refl, arith, ℕ, ◌+◌, ◌-◌, ◌*◌, ◌/◌, ◌<◌, ◌≤◌, Bool, false, true, ℤ, pos, negsuc, List, [], ◌∷◌, map, length, take, drop, Option, None, IsTrue, subst, length-take, slice_index_or}
use Rattle.std.specs.List.{All, AllZip}
use Rattle.std.proofs.lemmas.List.{length-map}
use Rattle.std.proofs.lemmas.List.Elements.{All-from_get_or, All-get_or, All-weaker, All-take, All-drop, All-nil, All-head, All-tail, All-map}
use Rattle.arrow_core.specs.declared.physical.PhysicalType.TheVariants as physical
use Rattle.arrow_core.specs.declared.physical.PrimitiveType.{PrimitiveType}
use Rattle.arrow_core.specs.declared.slot.Slot.{Slot, Null, Boolean as BooleanSlot, Integer as IntegerSlot, String as StringSlot, Binary as BinarySlot, List' as ListSlot', Struct' as StructSlot'}
use Rattle.arrow_core.specs.declared.slot.Slot.TheVariants as slot
use Rattle.arrow_core.specs.declared.types.DataType.{DataType, FixedSizeBinary, List', FixedSizeList', LargeList', Struct', Dictionary', Extension', Row_of-DataType, end_of-DataType, more_of-DataType}
use Rattle.arrow_core.specs.declared.types.DataType.TheBlock.{shape-the_row-Field-0, hidden-the_row-Field-0, shape-the_row-Field-1, hidden-the_row-Field-1, hidden-the_row-DataType-2}
use Rattle.arrow_core.specs.declared.types.DataType.TheVariants as types
use Rattle.arrow_core.specs.declared.types.Field.{Field}
use Rattle.arrow_core.specs.declared.types.IntegerType.{IntegerType}
use Rattle.arrow_core.specs.Numbers.{greatest_offset}
use Rattle.arrow_array.specs.Bits.{Packed}
use Rattle.arrow_array.specs.declared.array.Array.{Array}
use Rattle.arrow_array.specs.Arrays.{array_type, array_slots}
use Rattle.arrow_array.specs.Dictionaries.{IsDictionaryOf, IsKeyInto, looked_up}
use Rattle.arrow_array.specs.FixedLists.{FixedListParts, fixed_list_at, list_size}
use Rattle.arrow_array.specs.Lists.{ListFits, list_at, list_type}
use Rattle.arrow_array.specs.Offsets.{AreUtf8, between, offset_at, part}
use Rattle.arrow_array.specs.Parts.{IsPlain, binary_type, utf8_type}
use Rattle.arrow_array.specs.Slots.{binary_at, boolean_at, fixed_at, is_held, native_at, null_at, slot_at, slots_of, utf8_at}
use Rattle.arrow_array.specs.SlotTypes.{FieldsOf, IfHeld, IsBinary, IsBoolean, IsFixedBinary, IsFixedListOfSlots, IsFlat, IsListOfSlots, IsPrimitive, IsString, IsStructOfSlots, IsTyped, SlotOf, ValueOf}
use Rattle.arrow_array.specs.Structs.{AreChildren, record_at, StructParts}
use Rattle.arrow_array.proofs.Cuts.{length_cut, slot_within}
use Rattle.arrow_array.proofs.Windows.{Window, count_slots, read_made, read_slot}

-- slots that are made by index are such as what is made
pub made_typed : {f : ℕ → Slot} {v : Option Packed} {n len : ℕ} {xs : List Slot} (P : Slot → Type 0) → Window f v 0 n len → slots_of f v 0 n ≡ xs → ((k : ℕ) → k < n → P (f k)) → All (IfHeld P) xs
made_typed {f} {v} {n} {len} {xs} P w is h = All-from_get_or (IfHeld P) xs slot.Null (λ i l d.
    let m : i < n = omega (arith, l, count_slots w is) in
    subst P (sym (read_made w is i m d)) (h i m))

not_held : (x y : Slot) → x ≡ y → IsTrue (is_held x) → (IsTrue (is_held y) → ⊥) → ⊥
not_held x y e d h = h (subst (λ z. IsTrue (is_held z)) e d)

pub nulls_typed : {n len : ℕ} {xs : List Slot} → Window null_at None 0 n len → slots_of null_at None 0 n ≡ xs → All (SlotOf types.Null) xs
nulls_typed {n} {len} {xs} w is = All-from_get_or (SlotOf types.Null) xs slot.Null (λ i l d.
    not_held _ _ (read_slot w is i (omega (arith, l, count_slots w is))) d (λ t. let e : false ≡ true = t in absurd cc))

pub booleans_typed : (t : DataType) → t ≡ types.Boolean → (bs : List Bool) {v : Option Packed} {n len : ℕ} {xs : List Slot} → Window (boolean_at bs) v 0 n len → slots_of (boolean_at bs) v 0 n ≡ xs → All (SlotOf t) xs
booleans_typed t e bs {v} {n} {len} {xs} w is = subst (λ z. All (SlotOf z) xs) (sym e) (made_typed IsBoolean w is (λ k l. (slice_index_or bs k false, refl)))

-- ---- values that lie in memory as they are

plain_slot : (p : PrimitiveType) (t : DataType) → IsPlain p t → (x : Slot) → IfHeld (IsPrimitive p) x → SlotOf t x
plain_slot p (FixedSizeBinary width) h x g = let e : physical.FixedSizeBinary ≡ physical.Primitive p = h.0 in absurd cc
plain_slot p (List' shape item) h x g = let e : physical.List ≡ physical.Primitive p = h.0 in absurd cc
plain_slot p (LargeList' shape item) h x g = let e : physical.LargeList ≡ physical.Primitive p = h.0 in absurd cc
plain_slot p (FixedSizeList' shape item size) h x g = let e : physical.FixedSizeList ≡ physical.Primitive p = h.0 in absurd cc
plain_slot p (Struct' shape fields) h x g = let e : physical.Struct ≡ physical.Primitive p = h.0 in absurd cc
plain_slot p (Dictionary' key shape value is_sorted) h x g = let e : physical.Dictionary key ≡ physical.Primitive p = h.0 in absurd cc
plain_slot p (Extension' name shape inner metadata) h x g = let e : true ≡ false = h.1 in absurd cc
plain_slot p _ h x g = λ d. subst (λ k. IsFlat k x) (sym h.0) (g d)

natives_at : {X : Type 0} (native : X → Slot) (P : Slot → Type 0) (values : List X) → All (λ x. P (native x)) values → (k : ℕ) → k < length values → P (native_at native values k)
natives_at native P values h k l = All-get_or P (map native values) k slot.Null (omega (arith, l, length-map values native)) (All-map P native values h)

pub natives_typed : {X : Type 0} (native : X → Slot) (p : PrimitiveType) (t : DataType) → IsPlain p t → (values : List X) → All (λ x. IsPrimitive p (native x)) values → {v : Option Packed} {n len : ℕ} {xs : List Slot}
    → Window (native_at native values) v 0 n len → n ≤ length values → slots_of (native_at native values) v 0 n ≡ xs → All (SlotOf t) xs
natives_typed native p t h values all {v} {n} {len} {xs} w m is = All-weaker (IfHeld (IsPrimitive p)) (SlotOf t) (plain_slot p t h) xs
    (made_typed (IsPrimitive p) w is (λ k l. natives_at native (IsPrimitive p) values all k (omega (arith, l, m))))

-- ---- parts between offsets

between_all : {X : Type 0} (P : X → Type 0) (a b : ℤ) (xs : List X) → All P xs → All P (between a b xs)
between_all P (pos a) (pos b) xs h = All-take P (b - a) (drop a xs) (All-drop P a xs h)
between_all P (negsuc a) b xs h = All-nil P
between_all P (pos a) (negsuc b) xs h = All-nil P

between_most : {X : Type 0} (most : ℕ) (a b : ℤ) (xs : List X) → ((n : ℕ) → b ≡ pos n → n ≤ most) → length (between a b xs) ≤ most
between_most most (pos a) (pos b) xs h = let l = h b refl in omega (arith, l, length-take (b - a) (drop a xs))
between_most most (negsuc a) b xs h = omega arith
between_most most (pos a) (negsuc b) xs h = omega arith

-- offsets of so many bits count no more than they can
abbrev pub Countable : Bool → List ℤ → Type 0
Countable is_large offsets = (k n : ℕ) → k < length offsets → offset_at offsets k ≡ pos n → n ≤ greatest_offset is_large

pub countable : {X : Type 0} (number : X → ℤ) (is_large : Bool) (offsets : List X) → All (λ x. (n : ℕ) → number x ≡ pos n → n ≤ greatest_offset is_large) offsets → Countable is_large (map number offsets)
countable number is_large offsets all k n l e =
    All-get_or (λ z. (m : ℕ) → z ≡ pos m → m ≤ greatest_offset is_large) (map number offsets) k (pos 0) l (All-map (λ z. (m : ℕ) → z ≡ pos m → m ≤ greatest_offset is_large) number offsets all) n e

part_most : {X : Type 0} (is_large : Bool) (offsets : List ℤ) (xs : List X) → Countable is_large offsets → (k : ℕ) → k < length offsets - 1 → length (part offsets xs k) ≤ greatest_offset is_large
part_most is_large offsets xs h k l = between_most (greatest_offset is_large) (offset_at offsets k) (offset_at offsets (k + 1)) xs (λ n e. h (k + 1) n (omega (arith, l)) e)

string_slot : (is_large : Bool) (x : Slot) → IfHeld (IsString is_large) x → SlotOf (utf8_type is_large) x
string_slot false x h = h
string_slot true x h = h

binary_slot : (is_large : Bool) (x : Slot) → IfHeld (IsBinary is_large) x → SlotOf (binary_type is_large) x
binary_slot false x h = h
binary_slot true x h = h

module _ (is_large : Bool) (t : DataType) (offsets : List ℤ) (bytes : List ℕ) (c : Countable is_large offsets) where
  pub strings_typed : t ≡ utf8_type is_large → AreUtf8 offsets bytes → {v : Option Packed} {len : ℕ} {xs : List Slot} → Window (utf8_at offsets bytes) v 0 (length offsets - 1) len → slots_of (utf8_at offsets bytes) v 0 (length offsets - 1) ≡ xs → All (SlotOf t) xs
  strings_typed e utf8 {v} {len} {xs} w is = subst (λ z. All (SlotOf z) xs) (sym e) (All-weaker (IfHeld (IsString is_large)) (SlotOf (utf8_type is_large)) (string_slot is_large) xs
      (made_typed (IsString is_large) w is (λ k l. (part offsets bytes k, refl, utf8 k (omega (arith, l)), part_most is_large offsets bytes c k l))))

  pub binaries_typed : t ≡ binary_type is_large → {v : Option Packed} {len : ℕ} {xs : List Slot} → Window (binary_at offsets bytes) v 0 (length offsets - 1) len → slots_of (binary_at offsets bytes) v 0 (length offsets - 1) ≡ xs → All (SlotOf t) xs
  binaries_typed e {v} {len} {xs} w is = subst (λ z. All (SlotOf z) xs) (sym e) (All-weaker (IfHeld (IsBinary is_large)) (SlotOf (binary_type is_large)) (binary_slot is_large) xs
      (made_typed (IsBinary is_large) w is (λ k l. (part offsets bytes k, refl, part_most is_large offsets bytes c k l))))

pub fixed_length : (width k : ℕ) (bytes : List ℕ) → k < length bytes / width → length (take width (drop (k * width) bytes)) ≡ width
fixed_length width k bytes l = length_cut (k * width) width bytes (slot_within k width (length bytes) l)

pub fixed_typed : (t : DataType) (width : ℕ) → t ≡ types.FixedSizeBinary width → (bytes : List ℕ) {v : Option Packed} {len : ℕ} {xs : List Slot} → Window (fixed_at width bytes) v 0 (length bytes / width) len → slots_of (fixed_at width bytes) v 0 (length bytes / width) ≡ xs → All (SlotOf t) xs
fixed_typed t width e bytes {v} {len} {xs} w is = subst (λ z. All (SlotOf z) xs) (sym e)
    (made_typed (IsFixedBinary width) w is (λ k l. (take width (drop (k * width) bytes), refl, fixed_length width k bytes l)))

-- ---- lists

pub list_slot : (is_large : Bool) (field : Field) (x : Slot) → IfHeld (IsListOfSlots is_large (SlotOf field.data_type)) x → SlotOf (list_type is_large field) x
unfolding shape-the_row-Field-0 hidden-the_row-Field-0 denote.Hole.Carrier.hidden
list_slot false field x h = h
list_slot true field x h = h

pub fixed_list_slot : (field : Field) (size : ℕ) (x : Slot) → IfHeld (IsFixedListOfSlots size (SlotOf field.data_type)) x → SlotOf (types.FixedSizeList field size) x
unfolding shape-the_row-Field-0 hidden-the_row-Field-0 denote.Hole.Carrier.hidden
fixed_list_slot field size x h = h

pub lists_typed : {is_large : Bool} {t item : DataType} {offsets : List ℤ} {items : List Slot} {v : Option Packed} {xs : List Slot} → ListFits is_large t item offsets items v → slots_of (list_at offsets items) v 0 (length offsets - 1) ≡ xs → Countable is_large offsets → All (SlotOf item) items
    → All (SlotOf t) xs
lists_typed {is_large} {t} {item} {offsets} {items} {v} {xs} h is c all =
    let w : Window (list_at offsets items) v 0 (length offsets - 1) (length offsets) = record { within = omega arith; validity_fits = h.validity_fits } in
    let same : All (SlotOf (h.kind.0).data_type) items = subst (λ z. All (SlotOf z) items) (sym h.kind.2) all in
    subst (λ z. All (SlotOf z) xs) (sym h.kind.1) (All-weaker (IfHeld (IsListOfSlots is_large (SlotOf (h.kind.0).data_type))) (SlotOf (list_type is_large h.kind.0)) (list_slot is_large h.kind.0) xs
    (made_typed (IsListOfSlots is_large (SlotOf (h.kind.0).data_type)) w is (λ k l.
    (part offsets items k, refl, part_most is_large offsets items c k l, between_all (SlotOf (h.kind.0).data_type) (offset_at offsets k) (offset_at offsets (k + 1)) items same))))

pub fixed_lists_typed : {t item : DataType} (items : List Slot) {v : Option Packed} {size count : ℕ} {xs : List Slot} → FixedListParts t item (length items) v size count → slots_of (fixed_list_at (list_size t) items) v 0 (length items / list_size t) ≡ xs → All (SlotOf item) items → All (SlotOf t) xs
fixed_lists_typed {t} {item} items {v} {size} {count} {xs} h is all =
    let w : Window (fixed_list_at (list_size t) items) v 0 (length items / list_size t) (length items / list_size t) = record { within = omega arith; validity_fits = h.fits.validity_fits } in
    let kind = h.fits.kind in
    let same : All (SlotOf (kind.0).data_type) items = subst (λ z. All (SlotOf z) items) (sym kind.2) all in
    subst (λ z. All (SlotOf z) xs) (sym kind.1) (All-weaker (IfHeld (IsFixedListOfSlots (list_size t) (SlotOf (kind.0).data_type))) (SlotOf (types.FixedSizeList kind.0 (list_size t))) (fixed_list_slot kind.0 (list_size t)) xs
    (made_typed (IsFixedListOfSlots (list_size t) (SlotOf (kind.0).data_type)) w is (λ k l.
    (take (list_size t) (drop (k * list_size t) items), refl, length_cut (k * list_size t) (list_size t) items (slot_within k (list_size t) (length items) l), All-take (SlotOf (kind.0).data_type) (list_size t) (drop (k * list_size t) items) (All-drop (SlotOf (kind.0).data_type) (k * list_size t) items same)))))

-- ---- structs

row_of_slots : (fields : List Field) (ys : List Slot) → AllZip (λ field y. SlotOf field.data_type y) fields ys → FieldsOf (hidden-the_row-Field-1 fields) ys
unfolding shape-the_row-Field-1 hidden-the_row-Field-1 denote.Hole.Carrier.hidden
row_of_slots [] [] h = tt
row_of_slots [] (y ∷ ys) h = absurd h
row_of_slots (f ∷ fields) [] h = absurd h
row_of_slots (f ∷ fields) (y ∷ ys) h = (h.0, row_of_slots fields ys h.1)

pub struct_slot : (fields : List Field) (x : Slot) → IfHeld (IsStructOfSlots (AllZip (λ field y. SlotOf field.data_type y) fields)) x → SlotOf (types.Struct fields) x
unfolding shape-the_row-Field-1 hidden-the_row-Field-1 denote.Hole.Carrier.hidden
struct_slot fields x h d = let s = h d in (s.0, s.1, row_of_slots fields s.0 s.2)

children_typed : (n k : ℕ) (fields : List Field) (children : List Array) → k < n → AreChildren n fields children → All IsTyped children → AllZip (λ field y. SlotOf field.data_type y) fields (map (λ slots. slot_at slots k) (map array_slots children))
children_typed n k [] [] l h all = tt
children_typed n k [] (a ∷ children) l h all = absurd h
children_typed n k (f ∷ fields) [] l h all = absurd h
children_typed n k (f ∷ fields) (a ∷ children) l h all =
    let typed : IsTyped a = All-head IsTyped a children all in
    let here : SlotOf (array_type a) (slot_at (array_slots a) k) = typed k slot.Null (omega (arith, l, h.0.1)) in
    (subst (λ z. SlotOf z (slot_at (array_slots a) k)) (sym h.0.0) here, children_typed n k fields children l h.1 (All-tail IsTyped a children all))

pub structs_typed : {t : DataType} {children : List Array} {n : ℕ} {v : Option Packed} {xs : List Slot} → StructParts t children n v → slots_of (record_at (map array_slots children)) v 0 n ≡ xs → All IsTyped children → All (SlotOf t) xs
structs_typed {t} {children} {n} {v} {xs} h is all =
    let w : Window (record_at (map array_slots children)) v 0 n n = record { within = omega arith; validity_fits = h.validity_fits } in
    let fields = h.kind.0 in
    subst (λ z. All (SlotOf z) xs) (sym h.kind.1) (All-weaker (IfHeld (IsStructOfSlots (AllZip (λ field y. SlotOf field.data_type y) fields))) (SlotOf (types.Struct fields)) (struct_slot fields) xs
    (made_typed (IsStructOfSlots (AllZip (λ field y. SlotOf field.data_type y) fields)) w is (λ k l.
    (map (λ slots. slot_at slots k) (map array_slots children), refl, children_typed n k fields children l h.kind.2 all))))

-- ---- dictionaries

mutual
  -- a null is a slot of any type
  pub null_typed : (t : DataType) → SlotOf t slot.Null
  null_typed (Dictionary' key shape value is_sorted) = null_value value
  null_typed (Extension' name shape inner metadata) = null_value inner
  null_typed _ = λ d. let e : false ≡ true = d in absurd cc

  null_value : {m : _} (row : Row_of-DataType m) → ValueOf row slot.Null
  null_value end_of-DataType = refl
  null_value (more_of-DataType t rest) = null_typed t

pub dictionary_slot : (key : IntegerType) (value : DataType) (is_sorted : Bool) (x : Slot) → SlotOf value x → SlotOf (types.Dictionary key value is_sorted) x
unfolding hidden-the_row-DataType-2 denote.Hole.Carrier.hidden
dictionary_slot key value is_sorted x h = h

found_typed : (value : DataType) (items : List Slot) (key : Slot) → All (SlotOf value) items → IsKeyInto (length items) key → SlotOf value (looked_up items key)
found_typed value items Null all h = null_typed value
found_typed value items (BooleanSlot b) all h = absurd h
found_typed value items (IntegerSlot (pos k)) all h = all k slot.Null h
found_typed value items (IntegerSlot (negsuc k)) all h = absurd h
found_typed value items (StringSlot text) all h = absurd h
found_typed value items (BinarySlot bytes) all h = absurd h
found_typed value items (ListSlot' a b) all h = absurd h
found_typed value items (StructSlot' a b) all h = absurd h

pub dictionary_typed : (key : IntegerType) (t value : DataType) → IsDictionaryOf key t value → (items keys xs : List Slot) → map (looked_up items) keys ≡ xs → ((i : ℕ) → i < length keys → IsKeyInto (length items) (slot_at keys i)) → All (SlotOf value) items → All (SlotOf t) xs
dictionary_typed key t value h items keys xs is fits all =
    let keyed : All (IsKeyInto (length items)) keys = All-from_get_or (IsKeyInto (length items)) keys slot.Null fits in
    let found : All (λ k. SlotOf value (looked_up items k)) keys = All-weaker (IsKeyInto (length items)) (λ k. SlotOf value (looked_up items k)) (λ k f. found_typed value items k all f) keys keyed in
    let there : All (SlotOf value) xs = subst (All (SlotOf value)) is (All-map (SlotOf value) (looked_up items) keys found) in
    subst (λ z. All (SlotOf z) xs) (sym h.1) (All-weaker (SlotOf value) (SlotOf (types.Dictionary key value h.0)) (dictionary_slot key value h.0) xs there)

-- ---- the same the other way, for callers

pub items_of_list : (is_large : Bool) (field : Field) (x : Slot) → SlotOf (list_type is_large field) x → IfHeld (IsListOfSlots is_large (SlotOf field.data_type)) x
unfolding shape-the_row-Field-0 hidden-the_row-Field-0 denote.Hole.Carrier.hidden
items_of_list false field x h = h
items_of_list true field x h = h

slots_of_row : (fields : List Field) (ys : List Slot) → FieldsOf (hidden-the_row-Field-1 fields) ys → AllZip (λ field y. SlotOf field.data_type y) fields ys
unfolding shape-the_row-Field-1 hidden-the_row-Field-1 denote.Hole.Carrier.hidden
slots_of_row [] [] h = tt
slots_of_row [] (y ∷ ys) h = absurd h
slots_of_row (f ∷ fields) [] h = absurd h
slots_of_row (f ∷ fields) (y ∷ ys) h = (h.0, slots_of_row fields ys h.1)

pub fields_of_struct : (fields : List Field) (x : Slot) → SlotOf (types.Struct fields) x → IfHeld (IsStructOfSlots (AllZip (λ field y. SlotOf field.data_type y) fields)) x
unfolding shape-the_row-Field-1 hidden-the_row-Field-1 denote.Hole.Carrier.hidden
fields_of_struct fields x h d = let s = h d in (s.0, s.1, slots_of_row fields s.0 s.2)
