-- Rows that are objects: the structs of columns of what their members mean are what the objects mean.
use Rattle.std.proofs.Common.{◌≡◌, ◌∙◌, ℕ, zero, suc, ◌+◌, ◌<◌, Bool, true, false, cond, List, [], ◌∷◌, length, map, refl, sym, ap, subst, arith, slice_index_or, None}
use Rattle.std.specs.Prelude.{Result, Ok}
use Rattle.std.specs.List.{AllZip, range_with_len}
use Rattle.arrow_array.specs.Arrays.{array_slots, array_type}
use Rattle.arrow_array.specs.Structs.{AreChildren, first_len, record_at}
use Rattle.arrow_array.specs.Slots.{slots_of}
use Rattle.arrow_array.specs.declared.array.Array.{Array}
use Rattle.arrow_core.specs.declared.error.Error.{Error}
use Rattle.arrow_flat.specs.Builders.{slots_where}
use Rattle.arrow_core.specs.declared.slot.Slot.{Slot}
use Rattle.arrow_core.specs.declared.slot.Slot.TheVariants as slot
use Rattle.arrow_core.specs.declared.types.DataType as types
use Rattle.arrow_core.specs.declared.types.DataType.{DataType}
use Rattle.arrow_core.specs.declared.types.Field.{Field}
use Rattle.json_tree.specs.Keys.{value_of}
use Rattle.json_tree.specs.Tree.{Json, object, or_null}
use Rattle.json_tree.specs.declared.value.Object.{Object}
use Rattle.json_tree.specs.declared.value.Value.{out-Value}
use Rattle.json_flat.specs.Columns.{AreSlotsOf}
use Rattle.json_flat.specs.Reading.{reading}
use Rattle.json_columns.specs.Faults.{AreMemberColumns}
use Rattle.json_columns.specs.Gathered.{are_objects, is_object, member_in, members_named}
use Rattle.json_columns.proofs.ByFields.{struct_ok}
use Rattle.json_columns.proofs.FieldColumns.{children}
use Rattle.json_columns.proofs.Layers.{object_member}
use Rattle.json_columns.proofs.Rows.{structs_column}

-- ---- rows

abbrev pub objects_of : List (List (List ℕ × Json)) → List Json
objects_of rows = map object rows

-- each row's value of a name, null where no member has it
abbrev pub values_under : List ℕ → List (List (List ℕ × Json)) → List Json
values_under name rows = map (λ (members : List (List ℕ × Json)). or_null (value_of name members)) rows

member_of : (name : List ℕ) (members : List (List ℕ × Json)) → or_null (value_of name members) ≡ member_in name (out-Value (object members))
member_of name members =
    let o : Object = record { members = members } in
    sym (object_member name (object members) o refl)

members_of : (name : List ℕ) (rows : List (List (List ℕ × Json))) → values_under name rows ≡ members_named name (objects_of rows)
members_of name [] = refl
members_of name (members ∷ rows) = λ i. member_of name members i ∷ members_of name rows i

-- ---- columns

-- a column of the rows' values of a field's name
abbrev pub IsRowsColumn : List (List (List ℕ × Json)) → Field → Array → Type 0
IsRowsColumn rows f a = (array_type a ≡ f.data_type) × AreSlotsOf (reading f.data_type) (values_under f.name rows) (array_slots a)

member_columns : (IsColumn : Field → Array → Type 0) (rows : List (List (List ℕ × Json))) → ((f : Field) (a : Array) → IsColumn f a → IsRowsColumn rows f a) → (fields : List Field) (columns : List Array)
    → AllZip IsColumn fields columns → AreMemberColumns fields (objects_of rows) columns
member_columns IsColumn rows told [] [] h = tt
member_columns IsColumn rows told [] (a ∷ columns) h = absurd h
member_columns IsColumn rows told (f ∷ fields) [] h = absurd h
member_columns IsColumn rows told (f ∷ fields) (a ∷ columns) h =
    let c = told f a h.0 in
    ((sym c.0, subst (λ vs. AreSlotsOf (reading f.data_type) vs (array_slots a)) (members_of f.name rows) c.1), member_columns IsColumn rows told fields columns h.1)

-- all slots are valid

shown_object : (members : List (List ℕ × Json)) → is_object (out-Value (object members)) ≡ true
unfolding out-Value denote.Hole.Carrier.out
shown_object members = refl

flags_of : (rows : List (List (List ℕ × Json))) → are_objects (objects_of rows) ≡ map (λ members. true) rows
flags_of [] = refl
flags_of (members ∷ rows) = λ i. shown_object members i ∷ flags_of rows i

length_map : {A B : Type 0} (f : A → B) (xs : List A) → length (map f xs) ≡ length xs
length_map f [] = refl
length_map f (x ∷ xs) = ap suc (length_map f xs)

is_flagged : {A : Type 0} (xs : List A) (i : ℕ) → i < length xs → slice_index_or (map (λ x. true) xs) i false ≡ true
is_flagged [] i l = absurd (omega (arith, l))
is_flagged (x ∷ xs) zero l = refl
is_flagged (x ∷ xs) (suc i) l = is_flagged xs i (omega (arith, l))

by_range : (g h : ℕ → Slot) (s n : ℕ) → ((k : ℕ) → k < s + n → g k ≡ h k) → map g (range_with_len s n) ≡ map h (range_with_len s n)
by_range g h s zero same = refl
by_range g h s (suc n) same =
    let others : map g (range_with_len (s + 1) n) ≡ map h (range_with_len (s + 1) n) = by_range g h (s + 1) n (λ k l. same k (omega (arith, l))) in
    λ i. same s (omega arith) i ∷ others i

all_shown : {A : Type 0} (f : ℕ → Slot) (xs : List A) (n : ℕ) → n ≡ length xs → slots_of f None 0 n ≡ slots_where (map (λ x. true) xs) f
all_shown f xs n e =
    let flags : List Bool = map (λ x. true) xs in
    let g : ℕ → Slot = λ i. f (0 + i) in
    let h : ℕ → Slot = λ i. cond (slice_index_or flags i false) (f (0 + i)) slot.Null in
    by_range g h 0 n (λ k l. ap (λ b. cond b (f (0 + k)) slot.Null) (sym (is_flagged xs k (omega (arith, l, e)))))
    ∙ ap (λ m. map h (range_with_len 0 m)) (e ∙ sym (length_map (λ x. true) xs))

first_of : (n : ℕ) (fields : List Field) (columns : List Array) → 0 < length columns → AreChildren n fields columns → first_len columns ≡ n
first_of n fields [] some h = absurd (omega (arith, some))
first_of n [] (a ∷ columns) some h = absurd h
first_of n (f ∷ fields) (a ∷ columns) some h = h.0.1

-- the structs of columns of which it is known that they are such
pub structs_of_rows : (IsColumn : Field → Array → Type 0) (t : DataType) (fields : List Field) (rows : List (List (List ℕ × Json))) (columns : List Array) (a : Array)
    → ((f : Field) (b : Array) → IsColumn f b → IsRowsColumn rows f b) → t ≡ types.Struct fields → AllZip IsColumn fields columns → 0 < length columns
    → array_slots a ≡ slots_of (record_at (map array_slots columns)) None 0 (first_len columns) → AreSlotsOf (reading t) (objects_of rows) (array_slots a)
structs_of_rows IsColumn t fields rows columns a told is h some slots =
    let ms = member_columns IsColumn rows told fields columns h in
    let long : first_len columns ≡ length rows = first_of (length (objects_of rows)) fields columns some (children fields (objects_of rows) (length (objects_of rows)) columns refl ms) ∙ length_map object rows in
    let shown : array_slots a ≡ slots_where (are_objects (objects_of rows)) (record_at (map array_slots columns)) =
    slots ∙ (all_shown (record_at (map array_slots columns)) rows (first_len columns) long ∙ ap (λ (bs : List Bool). slots_where bs (record_at (map array_slots columns))) (sym (flags_of rows))) in
    let made : Result Array Error = Ok a in
    struct_ok t fields (objects_of rows) made is (structs_column fields (objects_of rows) columns (are_objects (objects_of rows)) made ms refl shown)
