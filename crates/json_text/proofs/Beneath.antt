-- Which types of lists, structs and dictionaries have a text, offsets and dates in range.
use Rattle.std.proofs.Common.{◌≡◌, ℕ, Bool, true, false, ◌&&◌, List, [], ◌∷◌, refl, sym, ap, ◌∙◌, zero, suc, ◌+◌, ◌<◌, length, take, get_or, add-one, arith}
use Rattle.std.specs.Bool.{OnFalse}
use Rattle.std.specs.List.{list_all}
use Rattle.arrow_core.specs.declared.slot.Slot.{Slot, Null, Boolean, Integer, String, Binary, List', Struct', items_hidden-the_row-Slot-0, items-the_row-Slot}
use Rattle.arrow_core.specs.declared.slot.Slot.TheVariants as slot
use Rattle.arrow_core.specs.declared.types.DataType.{DataType}
use Rattle.arrow_core.specs.declared.types.DataType.TheVariants as types
use Rattle.arrow_core.specs.declared.types.DataType.TheBlock.{shape-the_row-Field-0, hidden-the_row-Field-0, shape-the_row-Field-1, hidden-the_row-Field-1, shape-the_row-DataType-2, hidden-the_row-DataType-2}
use Rattle.arrow_core.specs.declared.types.Field.{Field}
use Rattle.arrow_core.specs.declared.types.IntegerType.{IntegerType}
use Rattle.arrow_array.specs.FixedLists.{IsFixedListOf, list_size}
use Rattle.arrow_array.specs.Lists.{list_type, IsListOf}
use Rattle.arrow_array.specs.Dictionaries.{IsDictionaryOf}
use Rattle.json_text.specs.Refusals.{Range, range_of, in_range, all_in_range, slot_in_range, lists_in, structs_in, fields_in_range, has_text, have_texts, is_string_type, has_offsets, have_offsets}

and_true : (b : Bool) → (b && true) ≡ b
and_true true = refl
and_true false = refl

pub list_text : (f : Field) → has_text (types.List f) ≡ has_text f.data_type
unfolding shape-the_row-Field-0 hidden-the_row-Field-0 denote.Hole.Carrier.hidden
list_text f = and_true (has_text f.data_type)

pub large_list_text : (f : Field) → has_text (types.LargeList f) ≡ has_text f.data_type
unfolding shape-the_row-Field-0 hidden-the_row-Field-0 denote.Hole.Carrier.hidden
large_list_text f = and_true (has_text f.data_type)

fixed_list_text : (f : Field) (n : ℕ) → has_text (types.FixedSizeList f n) ≡ has_text f.data_type
unfolding shape-the_row-Field-0 hidden-the_row-Field-0 denote.Hole.Carrier.hidden
fixed_list_text f n = and_true (has_text f.data_type)

pub fixed_type_text : (t : DataType) (f : Field) (n : ℕ) → t ≡ types.FixedSizeList f n → has_text t ≡ has_text f.data_type
fixed_type_text t f n e = ap has_text e ∙ fixed_list_text f n

texts_row : (fs : List Field) → have_texts (hidden-the_row-Field-1 fs) ≡ list_all (λ (f : Field). has_text f.data_type) fs
unfolding shape-the_row-Field-1 hidden-the_row-Field-1 denote.Hole.Carrier.hidden
texts_row [] = refl
texts_row (f ∷ fs) = ap (λ z. has_text f.data_type && z) (texts_row fs)

pub struct_text : (fs : List Field) → has_text (types.Struct fs) ≡ list_all (λ (f : Field). has_text f.data_type) fs
unfolding shape-the_row-Field-1 hidden-the_row-Field-1 denote.Hole.Carrier.hidden
struct_text fs = texts_row fs

dictionary_text : (key : IntegerType) (value : DataType) (b : Bool) → has_text (types.Dictionary key value b) ≡ is_string_type value
unfolding shape-the_row-DataType-2 hidden-the_row-DataType-2 denote.Hole.Carrier.hidden
dictionary_text key value b = refl

pub dictionary_type_text : (t : DataType) (key : IntegerType) (value : DataType) (b : Bool) → t ≡ types.Dictionary key value b → has_text t ≡ is_string_type value
dictionary_type_text t key value b e = ap has_text e ∙ dictionary_text key value b

pub list_offsets : (f : Field) → has_offsets (types.List f) ≡ has_offsets f.data_type
unfolding shape-the_row-Field-0 hidden-the_row-Field-0 denote.Hole.Carrier.hidden
list_offsets f = and_true (has_offsets f.data_type)

pub large_list_offsets : (f : Field) → has_offsets (types.LargeList f) ≡ has_offsets f.data_type
unfolding shape-the_row-Field-0 hidden-the_row-Field-0 denote.Hole.Carrier.hidden
large_list_offsets f = and_true (has_offsets f.data_type)

fixed_list_offsets : (f : Field) (n : ℕ) → has_offsets (types.FixedSizeList f n) ≡ has_offsets f.data_type
unfolding shape-the_row-Field-0 hidden-the_row-Field-0 denote.Hole.Carrier.hidden
fixed_list_offsets f n = and_true (has_offsets f.data_type)

pub fixed_type_offsets : (t : DataType) (f : Field) (n : ℕ) → t ≡ types.FixedSizeList f n → has_offsets t ≡ has_offsets f.data_type
fixed_type_offsets t f n e = ap has_offsets e ∙ fixed_list_offsets f n

offsets_row : (fs : List Field) → have_offsets (hidden-the_row-Field-1 fs) ≡ list_all (λ (f : Field). has_offsets f.data_type) fs
unfolding shape-the_row-Field-1 hidden-the_row-Field-1 denote.Hole.Carrier.hidden
offsets_row [] = refl
offsets_row (f ∷ fs) = ap (λ z. has_offsets f.data_type && z) (offsets_row fs)

pub struct_offsets : (fs : List Field) → has_offsets (types.Struct fs) ≡ list_all (λ (f : Field). has_offsets f.data_type) fs
unfolding shape-the_row-Field-1 hidden-the_row-Field-1 denote.Hole.Carrier.hidden
struct_offsets fs = offsets_row fs

-- ---- dates in range

in_list : (r : Range) (xs : List Slot) → slot_in_range r (slot.List xs) ≡ r.list xs
in_list r xs = ap r.list (items_hidden-the_row-Slot-0 xs)

in_struct : (r : Range) (xs : List Slot) → slot_in_range r (slot.Struct xs) ≡ r.struct xs
in_struct r xs = ap r.struct (items_hidden-the_row-Slot-0 xs)

list_range : (is_large : Bool) (f : Field) → range_of (list_type is_large f) ≡ lists_in (in_range f.data_type)
unfolding shape-the_row-Field-0 hidden-the_row-Field-0 denote.Hole.Carrier.hidden
list_range false f = refl
list_range true f = refl

fixed_list_range : (f : Field) (n : ℕ) → range_of (types.FixedSizeList f n) ≡ lists_in (in_range f.data_type)
unfolding shape-the_row-Field-0 hidden-the_row-Field-0 denote.Hole.Carrier.hidden
fixed_list_range f n = refl

dictionary_range : (key : IntegerType) (value : DataType) (b : Bool) → range_of (types.Dictionary key value b) ≡ range_of value
unfolding shape-the_row-DataType-2 hidden-the_row-DataType-2 denote.Hole.Carrier.hidden
dictionary_range key value b = refl

fields_row : (fs : List Field) (xs : List Slot) → fields_in_range (hidden-the_row-Field-1 fs) xs ≡ all_in_range fs xs
unfolding shape-the_row-Field-1 hidden-the_row-Field-1 denote.Hole.Carrier.hidden
fields_row [] [] = refl
fields_row [] (x ∷ xs) = refl
fields_row (f ∷ fs) [] = refl
fields_row (f ∷ fs) (x ∷ xs) = ap (λ z. in_range f.data_type x && z) (fields_row fs xs)

struct_range : (fs : List Field) (xs : List Slot) → (range_of (types.Struct fs)).struct xs ≡ all_in_range fs xs
unfolding shape-the_row-Field-1 hidden-the_row-Field-1 denote.Hole.Carrier.hidden
struct_range fs xs = fields_row fs xs

pub list_in_range : (is_large : Bool) (t item : DataType) (xs : List Slot) → IsListOf is_large t item → list_all (in_range item) xs ≡ in_range t (slot.List xs)
list_in_range is_large t item xs h =
    sym (in_list (range_of t) xs ∙ ap (λ (r : Range). r.list xs) (ap range_of h.1 ∙ list_range is_large h.0) ∙ ap (λ u. list_all (in_range u) xs) h.2)

pub fixed_list_in_range : (t item : DataType) (xs : List Slot) → IsFixedListOf t item → list_all (in_range item) xs ≡ in_range t (slot.List xs)
fixed_list_in_range t item xs h =
    sym (in_list (range_of t) xs ∙ ap (λ (r : Range). r.list xs) (ap range_of h.1 ∙ fixed_list_range h.0 (list_size t)) ∙ ap (λ u. list_all (in_range u) xs) h.2)

pub struct_in_range : (t : DataType) (fs : List Field) (xs : List Slot) → t ≡ types.Struct fs → all_in_range fs xs ≡ in_range t (slot.Struct xs)
struct_in_range t fs xs e = sym (in_struct (range_of t) xs ∙ ap (λ u. (range_of u).struct xs) e ∙ struct_range fs xs)

pub value_in_range : (key : IntegerType) (t value : DataType) (x : Slot) → IsDictionaryOf key t value → in_range value x ≡ in_range t x
value_in_range key t value x h = sym (ap (λ u. in_range u x) h.1 ∙ ap (λ r. slot_in_range r x) (dictionary_range key value h.0))

-- ---- types without dates

list_of_all : (p : Slot → Bool) → ((x : Slot) → p x ≡ true) → (xs : List Slot) → list_all p xs ≡ true
list_of_all p h [] = refl
list_of_all p h (x ∷ xs) = ap (λ b. b && list_all p xs) (h x) ∙ list_of_all p h xs

pub all_of_list : (t : DataType) → ((x : Slot) → in_range t x ≡ true) → (xs : List Slot) → true ≡ list_all (in_range t) xs
all_of_list t h xs = sym (list_of_all (in_range t) h xs)

lists_in_all : (p : Slot → Bool) → ((x : Slot) → p x ≡ true) → (x : Slot) → slot_in_range (lists_in p) x ≡ true
lists_in_all p h Null = refl
lists_in_all p h (Boolean b) = refl
lists_in_all p h (Integer n) = refl
lists_in_all p h (String s) = refl
lists_in_all p h (Binary s) = refl
lists_in_all p h (List' m row) = list_of_all p h (items-the_row-Slot _ row)
lists_in_all p h (Struct' m row) = refl

structs_in_all : (p : List Slot → Bool) → ((xs : List Slot) → p xs ≡ true) → (x : Slot) → slot_in_range (structs_in p) x ≡ true
structs_in_all p h Null = refl
structs_in_all p h (Boolean b) = refl
structs_in_all p h (Integer n) = refl
structs_in_all p h (String s) = refl
structs_in_all p h (Binary s) = refl
structs_in_all p h (List' m row) = refl
structs_in_all p h (Struct' m row) = h (items-the_row-Slot _ row)

pub list_without_dates : (is_large : Bool) (t : DataType) (f : Field) → t ≡ list_type is_large f → ((x : Slot) → in_range f.data_type x ≡ true) → (x : Slot) → in_range t x ≡ true
list_without_dates is_large t f e h x = ap (λ r. slot_in_range r x) (ap range_of e ∙ list_range is_large f) ∙ lists_in_all (in_range f.data_type) h x

pub fixed_list_without_dates : (t : DataType) (f : Field) (n : ℕ) → t ≡ types.FixedSizeList f n → ((x : Slot) → in_range f.data_type x ≡ true) → (x : Slot) → in_range t x ≡ true
fixed_list_without_dates t f n e h x = ap (λ r. slot_in_range r x) (ap range_of e ∙ fixed_list_range f n) ∙ lists_in_all (in_range f.data_type) h x

struct_form : (fs : List Field) → range_of (types.Struct fs) ≡ structs_in (fields_in_range (hidden-the_row-Field-1 fs))
unfolding shape-the_row-Field-1 hidden-the_row-Field-1 denote.Hole.Carrier.hidden
struct_form fs = refl

pub struct_without_dates : (t : DataType) (fs : List Field) → t ≡ types.Struct fs → ((xs : List Slot) → all_in_range fs xs ≡ true) → (x : Slot) → in_range t x ≡ true
struct_without_dates t fs e h x = ap (λ r. slot_in_range r x) (ap range_of e ∙ struct_form fs) ∙ structs_in_all (fields_in_range (hidden-the_row-Field-1 fs)) (λ xs. fields_row fs xs ∙ h xs) x

pub dictionary_without_dates : (t : DataType) (key : IntegerType) (value : DataType) (b : Bool) → t ≡ types.Dictionary key value b → ((x : Slot) → in_range value x ≡ true) → (x : Slot) → in_range t x ≡ true
dictionary_without_dates t key value b e h x = ap (λ r. slot_in_range r x) (ap range_of e ∙ dictionary_range key value b) ∙ h x

pub on_false_map : (b : Bool) (P Q : Type 0) → (P → Q) → OnFalse b P → OnFalse b Q
on_false_map true P Q f h = h
on_false_map false P Q f h = f h

and_left : (a b : Bool) → (a && b) ≡ true → a ≡ true
and_left true b h = refl
and_left false b h = h

and_right : (a b : Bool) → (a && b) ≡ true → b ≡ true
and_right true b h = h
and_right false true h = refl
and_right false false h = h

more_without_dates : (fs : List Field) (k : ℕ) (f : Field) → k < length fs → f ≡ get_or fs k f → ((xs : List Slot) → all_in_range (take k fs) xs ≡ true) → ((x : Slot) → in_range f.data_type x ≡ true)
    → (xs : List Slot) → all_in_range (take (suc k) fs) xs ≡ true
more_without_dates [] k f l e h q xs = absurd (omega (arith, l))
more_without_dates (g ∷ fs) zero f l e h q [] = refl
more_without_dates (g ∷ fs) zero f l e h q (x ∷ xs) = ap (λ b. b && true) (ap (λ (z : Field). in_range z.data_type x) (sym e) ∙ q x)
more_without_dates (g ∷ fs) (suc k) f l e h q [] = refl
more_without_dates (g ∷ fs) (suc k) f l e h q (x ∷ xs) =
    ap (λ b. b && all_in_range (take (suc k) fs) xs) (and_left _ _ (h (x ∷ xs)))
    ∙ more_without_dates fs k f (omega (arith, l)) e (λ ys. and_right _ _ (h (x ∷ ys))) q xs

pub one_more_without_dates : (fs : List Field) (k : ℕ) (f : Field) → k < length fs → f ≡ get_or fs k f → ((xs : List Slot) → all_in_range (take k fs) xs ≡ true) → ((x : Slot) → in_range f.data_type x ≡ true)
    → (xs : List Slot) → all_in_range (take (k + 1) fs) xs ≡ true
one_more_without_dates fs k f l e h q xs = rw add-one (more_without_dates fs k f l e h q xs)
