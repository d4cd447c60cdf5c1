-- How slots of each type are written.
use Rattle.std.proofs.Common.{◌≡◌, ◌++◌, ℕ, Bool, true, false, ℤ, List, [], ◌∷◌, map, refl, sym, ap, ◌∙◌, if◌then◌else◌, IsTrue, true≢false, Result, Ok, Err, OnOk}
use Rattle.std.specs.Fmt.{signed_decimal}
use Rattle.arrow_core.specs.declared.slot.Slot.{Slot, Null, Boolean, Integer, String, Binary, List', Struct', items_hidden-the_row-Slot-0}
use Rattle.arrow_core.specs.declared.slot.Slot.TheVariants as slot
use Rattle.arrow_core.specs.declared.types.DataType.{DataType}
use Rattle.arrow_core.specs.declared.types.DataType as data_type
use Rattle.arrow_core.specs.declared.types.DataType.TheVariants as types
use Rattle.arrow_core.specs.declared.types.DataType.TheBlock.{shape-the_row-Field-0, hidden-the_row-Field-0, shape-the_row-Field-1, hidden-the_row-Field-1, shape-the_row-DataType-2, hidden-the_row-DataType-2}
use Rattle.arrow_core.specs.declared.types.Field.{Field}
use Rattle.arrow_core.specs.declared.types.IntegerType.{IntegerType}
use Rattle.arrow_core.specs.declared.physical.PrimitiveType.{PrimitiveType}
use Rattle.arrow_core.specs.declared.physical.PrimitiveType.TheVariants as primitive
use Rattle.arrow_array.specs.FixedLists.{IsFixedListOf, list_size}
use Rattle.arrow_array.specs.Lists.{list_type, IsListOf}
use Rattle.arrow_array.specs.Dictionaries.{IsDictionaryOf}
use Rattle.arrow_array.specs.Parts.{IsPlain}
use Rattle.arrow_array.specs.Slots.{is_held}
use Rattle.json_text.specs.JsonText.{Form, form, text, slot_text, null, of_integers, of_lists, member_texts, field_members, member, array, object}

-- a slot that is null or holds this
pub if_held : (t : DataType) (x y : Slot) (v : Bool) (held : List ℕ) → v ≡ is_held x → (IsTrue (is_held x) → x ≡ y) → held ≡ text t y → (if v then held else null) ≡ text t x
if_held t Null y v held e h k = rw e refl
if_held t (Boolean b) y v held e h k = rw e (k ∙ ap (text t) (sym (h refl)))
if_held t (Integer n) y v held e h k = rw e (k ∙ ap (text t) (sym (h refl)))
if_held t (String s) y v held e h k = rw e (k ∙ ap (text t) (sym (h refl)))
if_held t (Binary s) y v held e h k = rw e (k ∙ ap (text t) (sym (h refl)))
if_held t (List' m row) y v held e h k = rw e (k ∙ ap (text t) (sym (h refl)))
if_held t (Struct' m row) y v held e h k = rw e (k ∙ ap (text t) (sym (h refl)))

-- the same, after it was appended
pub appended : {A E : Type 0} (r : Result A E) (old new : List ℕ) (t : DataType) (x y : Slot) (v : Bool) (held : List ℕ)
    → v ≡ is_held x → (IsTrue (is_held x) → x ≡ y) → held ≡ text t y → OnOk r (new ≡ old ++ (if v then held else null)) → OnOk r (new ≡ old ++ text t x)
appended (Ok a) old new t x y v held e h k d = d ∙ ap (λ z. old ++ z) (if_held t x y v held e h k)
appended (Err b) old new t x y v held e h k d = tt

-- a slot that is null or holds what stands for null
pub if_null : (t : DataType) (x y : Slot) → (IsTrue (is_held x) → x ≡ y) → null ≡ text t y → null ≡ text t x
if_null t Null y h k = refl
if_null t (Boolean b) y h k = k ∙ ap (text t) (sym (h refl))
if_null t (Integer n) y h k = k ∙ ap (text t) (sym (h refl))
if_null t (String s) y h k = k ∙ ap (text t) (sym (h refl))
if_null t (Binary s) y h k = k ∙ ap (text t) (sym (h refl))
if_null t (List' m row) y h k = k ∙ ap (text t) (sym (h refl))
if_null t (Struct' m row) y h k = k ∙ ap (text t) (sym (h refl))

-- a slot that is null
pub if_not_held : (t : DataType) (x : Slot) → is_held x ≡ false → null ≡ text t x
if_not_held t Null h = refl
if_not_held t (Boolean b) h = absurd (true≢false h)
if_not_held t (Integer n) h = absurd (true≢false h)
if_not_held t (String s) h = absurd (true≢false h)
if_not_held t (Binary s) h = absurd (true≢false h)
if_not_held t (List' m row) h = absurd (true≢false h)
if_not_held t (Struct' m row) h = absurd (true≢false h)

in_list : (w : Form) (xs : List Slot) → slot_text w (slot.List xs) ≡ w.list xs
in_list w xs = ap w.list (items_hidden-the_row-Slot-0 xs)

in_struct : (w : Form) (xs : List Slot) → slot_text w (slot.Struct xs) ≡ w.struct xs
in_struct w xs = ap w.struct (items_hidden-the_row-Slot-0 xs)

list_form : (is_large : Bool) (f : Field) → form (list_type is_large f) ≡ of_lists (text f.data_type)
unfolding shape-the_row-Field-0 hidden-the_row-Field-0 denote.Hole.Carrier.hidden
list_form false f = refl
list_form true f = refl

fixed_form : (f : Field) (n : ℕ) → form (types.FixedSizeList f n) ≡ of_lists (text f.data_type)
unfolding shape-the_row-Field-0 hidden-the_row-Field-0 denote.Hole.Carrier.hidden
fixed_form f n = refl

dictionary_form : (key : IntegerType) (value : DataType) (b : Bool) → form (types.Dictionary key value b) ≡ form value
unfolding shape-the_row-DataType-2 hidden-the_row-DataType-2 denote.Hole.Carrier.hidden
dictionary_form key value b = refl

member_row : (fs : List Field) (xs : List Slot) → member_texts (hidden-the_row-Field-1 fs) xs ≡ field_members fs xs
unfolding shape-the_row-Field-1 hidden-the_row-Field-1 denote.Hole.Carrier.hidden
member_row [] [] = refl
member_row [] (x ∷ xs) = refl
member_row (f ∷ fs) [] = refl
member_row (f ∷ fs) (x ∷ xs) = ap (λ z. member f.name (text f.data_type x) ∷ z) (member_row fs xs)

struct_members : (fs : List Field) (xs : List Slot) → (form (types.Struct fs)).struct xs ≡ object (field_members fs xs)
unfolding shape-the_row-Field-1 hidden-the_row-Field-1 denote.Hole.Carrier.hidden
struct_members fs xs = ap object (member_row fs xs)

-- the text of a list
pub list_is : (is_large : Bool) (t item : DataType) (xs : List Slot) → IsListOf is_large t item → array (map (text item) xs) ≡ text t (slot.List xs)
list_is is_large t item xs h =
    sym (in_list (form t) xs ∙ ap (λ w. w.list xs) (ap form h.1 ∙ list_form is_large h.0) ∙ ap (λ u. array (map (text u) xs)) h.2)

pub fixed_list_is : (t item : DataType) (xs : List Slot) → IsFixedListOf t item → array (map (text item) xs) ≡ text t (slot.List xs)
fixed_list_is t item xs h =
    sym (in_list (form t) xs ∙ ap (λ w. w.list xs) (ap form h.1 ∙ fixed_form h.0 (list_size t)) ∙ ap (λ u. array (map (text u) xs)) h.2)

-- the text of a struct
pub struct_is : (t : DataType) (fs : List Field) (xs : List Slot) → t ≡ types.Struct fs → object (field_members fs xs) ≡ text t (slot.Struct xs)
struct_is t fs xs e = sym (in_struct (form t) xs ∙ ap (λ u. (form u).struct xs) e ∙ struct_members fs xs)

-- the text of a dictionary's value
pub value_is : (key : IntegerType) (t value : DataType) (x : Slot) → IsDictionaryOf key t value → text value x ≡ text t x
value_is key t value x h = sym (ap (λ u. text u x) h.1 ∙ ap (λ w. slot_text w x) (dictionary_form key value h.0))

-- a type whose values lie in memory as primitive values do, and which isn't of dates or timestamps, is written in decimal
abbrev IsDate : DataType → Type 0
IsDate data_type.Date32 = Unit {0}
IsDate data_type.Date64 = Unit {0}
IsDate (data_type.Timestamp unit timezone) = Unit {0}
IsDate _ = ⊥

pub plain_is : (p : PrimitiveType) (t : DataType) → IsPlain p t → (IsDate t → ⊥) → form t ≡ of_integers signed_decimal
plain_is p (data_type.Dictionary' key shape value sorted) h d = absurd (cc)
plain_is p (data_type.List' shape item) h d = absurd (cc)
plain_is p (data_type.LargeList' shape item) h d = absurd (cc)
plain_is p (data_type.FixedSizeList' shape item size) h d = absurd (cc)
plain_is p (data_type.Struct' shape fields) h d = absurd (cc)
plain_is p data_type.Date32 h d = absurd (d tt)
plain_is p data_type.Date64 h d = absurd (d tt)
plain_is p (data_type.Timestamp unit timezone) h d = absurd (d tt)
plain_is p _ h d = refl

no_date : (p : PrimitiveType) (t : DataType) → IsPlain p t → (p ≡ primitive.Int32 → ⊥) → (p ≡ primitive.Int64 → ⊥) → IsDate t → ⊥
no_date p data_type.Date32 h a b d = a (cc)
no_date p data_type.Date64 h a b d = b (cc)
no_date p (data_type.Timestamp unit timezone) h a b d = b (cc)
no_date p _ h a b d = absurd d

-- an interval
pub interval_is : (p : PrimitiveType) (t : DataType) (xs : List Slot) → IsPlain p t → (p ≡ primitive.Int32 → ⊥) → (p ≡ primitive.Int64 → ⊥) → null ≡ text t (slot.Struct xs)
interval_is p t xs h a b = sym (in_struct (form t) xs ∙ ap (λ w. w.struct xs) (plain_is p t h (no_date p t h a b)))
