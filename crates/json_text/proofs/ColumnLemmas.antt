-- The columns beneath rows, by what types are made of, and the texts that they make.
use Rattle.std.proofs.Common.{◌≡◌, ℕ, zero, suc, ◌+◌, ◌-◌, ◌<◌, ◌≤◌, ◌==◌, ℤ, Bool, true, false, List, [], ◌∷◌, ◌++◌, length, map, take, drop, get_or, codes, if◌then◌else◌, subst, sym, ap, ◌∙◌, refl, append_assoc, append-nil, add-one, arith, Result, Ok, Err, OnOk, is_ok}
use Rattle.std.proofs.Math.Seq.{take-length, drop-cons, drop-length}
use Rattle.std.proofs.lemmas.Bool.Decides.{nat_tests}
use Rattle.std.proofs.lemmas.List.{take-append-le, drop-append-le, length-append, length-drop}
use Rattle.arrow_core.specs.declared.slot.Slot.TheVariants as slot
use Rattle.arrow_core.specs.declared.types.DataType.{DataType}
use Rattle.arrow_core.specs.declared.types.DataType as data_type
use Rattle.arrow_core.specs.declared.types.DataType.TheVariants as types
use Rattle.arrow_core.specs.declared.types.DataType.TheBlock.{shape-the_row-Field-0, hidden-the_row-Field-0, shape-the_row-Field-1, hidden-the_row-Field-1, shape-the_row-DataType-2, hidden-the_row-DataType-2}
use Rattle.arrow_core.specs.declared.types.Field.{Field}
use Rattle.arrow_core.specs.declared.types.IntegerType.{IntegerType}
use Rattle.arrow_core.specs.declared.physical.PrimitiveType.{PrimitiveType}
use Rattle.arrow_array.specs.declared.array.Array.{Array}
use Rattle.arrow_array.specs.Arrays.{array_type, array_slots}
use Rattle.arrow_array.specs.Dictionaries.{IsDictionaryOf}
use Rattle.arrow_array.specs.FixedLists.{IsFixedListOf, list_size}
use Rattle.arrow_array.specs.Lists.{list_type, IsListOf}
use Rattle.arrow_array.specs.Parts.{IsPlain}
use Rattle.arrow_array.specs.Slots.{slot_at}
use Rattle.arrow_array.specs.Structs.{AreChildren, IsStructOf}
use Rattle.arrow_base.specs.WrittenString.{json_string}
use Rattle.json_text.specs.declared.columns.Column.{Column}
use Rattle.json_text.specs.declared.integers.IntegerForm.{IntegerForm}
use Rattle.json_text.specs.JsonText.{text, joined, member, object, field_members}
use Rattle.json_text.specs.Refusals.{in_range}
use Rattle.json_text.specs.Columns.{IsForm, integer_in_range, integer_text, AreWithin, AreMembers, AreNamedFrom, AreNamed, AreFields, AreColumns, AddsColumn, key_bytes, key_of, columns_text, columns_object}
use Rattle.json_text.proofs.Forms.{struct_is}
use Rattle.json_text.proofs.Records.{fields_at}

-- ---- the form of integers

item_form : (is_large : Bool) (form : IntegerForm) (f : Field) → IsForm form (list_type is_large f) → IsForm form f.data_type
unfolding shape-the_row-Field-0 hidden-the_row-Field-0 denote.Hole.Carrier.hidden
item_form false form f h = h
item_form true form f h = h

list_form : (is_large : Bool) (form : IntegerForm) (f : Field) → IsForm form f.data_type → IsForm form (list_type is_large f)
unfolding shape-the_row-Field-0 hidden-the_row-Field-0 denote.Hole.Carrier.hidden
list_form false form f h = h
list_form true form f h = h

fixed_item_form : (form : IntegerForm) (f : Field) (n : ℕ) → IsForm form (types.FixedSizeList f n) → IsForm form f.data_type
unfolding shape-the_row-Field-0 hidden-the_row-Field-0 denote.Hole.Carrier.hidden
fixed_item_form form f n h = h

fixed_form : (form : IntegerForm) (f : Field) (n : ℕ) → IsForm form f.data_type → IsForm form (types.FixedSizeList f n)
unfolding shape-the_row-Field-0 hidden-the_row-Field-0 denote.Hole.Carrier.hidden
fixed_form form f n h = h

value_form : (form : IntegerForm) (key : IntegerType) (value : DataType) (b : Bool) → IsForm form (types.Dictionary key value b) → IsForm form value
unfolding shape-the_row-DataType-2 hidden-the_row-DataType-2 denote.Hole.Carrier.hidden
value_form form key value b h = h

dictionary_form : (form : IntegerForm) (key : IntegerType) (value : DataType) (b : Bool) → IsForm form value → IsForm form (types.Dictionary key value b)
unfolding shape-the_row-DataType-2 hidden-the_row-DataType-2 denote.Hole.Carrier.hidden
dictionary_form form key value b h = h

pub of_list : (is_large : Bool) (form : IntegerForm) (t : DataType) (f : Field) → t ≡ list_type is_large f → IsForm form f.data_type → IsForm form t
of_list is_large form t f e h = subst (IsForm form) (sym e) (list_form is_large form f h)

pub of_fixed_list : (form : IntegerForm) (t : DataType) (f : Field) (n : ℕ) → t ≡ types.FixedSizeList f n → IsForm form f.data_type → IsForm form t
of_fixed_list form t f n e h = subst (IsForm form) (sym e) (fixed_form form f n h)

pub of_dictionary : (form : IntegerForm) (t : DataType) (key : IntegerType) (value : DataType) (b : Bool) → t ≡ types.Dictionary key value b → IsForm form value → IsForm form t
of_dictionary form t key value b e h = subst (IsForm form) (sym e) (dictionary_form form key value b h)

pub in_list : (is_large : Bool) (form : IntegerForm) (t item : DataType) → IsListOf is_large t item → IsForm form t → IsForm form item
in_list is_large form t item k h = subst (IsForm form) k.2 (item_form is_large form k.0 (subst (IsForm form) k.1 h))

pub in_fixed_list : (form : IntegerForm) (t item : DataType) → IsFixedListOf t item → IsForm form t → IsForm form item
in_fixed_list form t item k h = subst (IsForm form) k.2 (fixed_item_form form k.0 (list_size t) (subst (IsForm form) k.1 h))

pub in_dictionary : (form : IntegerForm) (key : IntegerType) (t value : DataType) → IsDictionaryOf key t value → IsForm form t → IsForm form value
in_dictionary form key t value k h = value_form form key value k.0 (subst (IsForm form) k.1 h)

-- of a type whose values lie in memory as primitive values do, the form is that of the type itself
pub plain_form : (p : PrimitiveType) (form : IntegerForm) (t : DataType) (n : ℤ) → IsPlain p t → IsForm form t → integer_text form n ≡ text t (slot.Integer n)
plain_form p form (data_type.Dictionary' key shape value sorted) n h k = absurd (cc)
plain_form p form (data_type.List' shape item) n h k = absurd (cc)
plain_form p form (data_type.LargeList' shape item) n h k = absurd (cc)
plain_form p form (data_type.FixedSizeList' shape item size) n h k = absurd (cc)
plain_form p form _ n h k = (k n).0

-- and so are the integers in range
pub plain_range : (p : PrimitiveType) (form : IntegerForm) (t : DataType) (n : ℤ) → IsPlain p t → IsForm form t → integer_in_range form n ≡ in_range t (slot.Integer n)
plain_range p form (data_type.Dictionary' key shape value sorted) n h k = absurd (cc)
plain_range p form (data_type.List' shape item) n h k = absurd (cc)
plain_range p form (data_type.LargeList' shape item) n h k = absurd (cc)
plain_range p form (data_type.FixedSizeList' shape item size) n h k = absurd (cc)
plain_range p form _ n h k = (k n).1

-- ---- the columns within a type

item_within : (is_large : Bool) (f : Field) (cs : List Column) → AreWithin (list_type is_large f) cs → AreWithin f.data_type cs
unfolding shape-the_row-Field-0 hidden-the_row-Field-0 denote.Hole.Carrier.hidden
item_within false f cs h = h
item_within true f cs h = h

list_within : (is_large : Bool) (f : Field) (cs : List Column) → AreWithin f.data_type cs → AreWithin (list_type is_large f) cs
unfolding shape-the_row-Field-0 hidden-the_row-Field-0 denote.Hole.Carrier.hidden
list_within false f cs h = h
list_within true f cs h = h

fixed_item_within : (f : Field) (n : ℕ) (cs : List Column) → AreWithin (types.FixedSizeList f n) cs → AreWithin f.data_type cs
unfolding shape-the_row-Field-0 hidden-the_row-Field-0 denote.Hole.Carrier.hidden
fixed_item_within f n cs h = h

fixed_within : (f : Field) (n : ℕ) (cs : List Column) → AreWithin f.data_type cs → AreWithin (types.FixedSizeList f n) cs
unfolding shape-the_row-Field-0 hidden-the_row-Field-0 denote.Hole.Carrier.hidden
fixed_within f n cs h = h

value_within : (key : IntegerType) (value : DataType) (b : Bool) (cs : List Column) → AreWithin (types.Dictionary key value b) cs → AreWithin value cs
unfolding shape-the_row-DataType-2 hidden-the_row-DataType-2 denote.Hole.Carrier.hidden
value_within key value b cs h = h

dictionary_within : (key : IntegerType) (value : DataType) (b : Bool) (cs : List Column) → AreWithin value cs → AreWithin (types.Dictionary key value b) cs
unfolding shape-the_row-DataType-2 hidden-the_row-DataType-2 denote.Hole.Carrier.hidden
dictionary_within key value b cs h = h

abbrev names_of : List Field → List (List ℕ)
names_of = map (λ f. f.name)

abbrev types_of : List Field → List DataType
types_of = map (λ f. f.data_type)

row_named : (b : Bool) (fs : List Field) (cs : List Column) → AreMembers b (hidden-the_row-Field-1 fs) cs → AreNamedFrom b (names_of fs) (types_of fs) cs
unfolding shape-the_row-Field-1 hidden-the_row-Field-1 denote.Hole.Carrier.hidden
row_named b [] cs h = h
row_named b (f ∷ fs) [] h = h
row_named b (f ∷ fs) (c ∷ cs) h = (h.0, row_named false fs (drop c.within cs) h.1)

named_row : (b : Bool) (fs : List Field) (cs : List Column) → AreNamedFrom b (names_of fs) (types_of fs) cs → AreMembers b (hidden-the_row-Field-1 fs) cs
unfolding shape-the_row-Field-1 hidden-the_row-Field-1 denote.Hole.Carrier.hidden
named_row b [] cs h = h
named_row b (f ∷ fs) [] h = h
named_row b (f ∷ fs) (c ∷ cs) h = (h.0, named_row false fs (drop c.within cs) h.1)

struct_fields : (fs : List Field) (cs : List Column) → AreWithin (types.Struct fs) cs → AreFields fs cs
unfolding shape-the_row-Field-1 hidden-the_row-Field-1 denote.Hole.Carrier.hidden
struct_fields fs cs h = row_named true fs cs h

fields_struct : (fs : List Field) (cs : List Column) → AreFields fs cs → AreWithin (types.Struct fs) cs
unfolding shape-the_row-Field-1 hidden-the_row-Field-1 denote.Hole.Carrier.hidden
fields_struct fs cs h = named_row true fs cs h

pub within_list : (is_large : Bool) (t : DataType) (f : Field) (cs : List Column) → t ≡ list_type is_large f → AreWithin f.data_type cs → AreWithin t cs
within_list is_large t f cs e h = subst (λ z. AreWithin z cs) (sym e) (list_within is_large f cs h)

pub within_fixed_list : (t : DataType) (f : Field) (n : ℕ) (cs : List Column) → t ≡ types.FixedSizeList f n → AreWithin f.data_type cs → AreWithin t cs
within_fixed_list t f n cs e h = subst (λ z. AreWithin z cs) (sym e) (fixed_within f n cs h)

pub within_dictionary : (t : DataType) (key : IntegerType) (value : DataType) (b : Bool) (cs : List Column) → t ≡ types.Dictionary key value b → AreWithin value cs → AreWithin t cs
within_dictionary t key value b cs e h = subst (λ z. AreWithin z cs) (sym e) (dictionary_within key value b cs h)

pub within_struct : (t : DataType) (fs : List Field) (cs : List Column) → t ≡ types.Struct fs → AreFields fs cs → AreWithin t cs
within_struct t fs cs e h = subst (λ z. AreWithin z cs) (sym e) (fields_struct fs cs h)

pub within_item : (is_large : Bool) (t item : DataType) (cs : List Column) → IsListOf is_large t item → AreWithin t cs → AreWithin item cs
within_item is_large t item cs k h = subst (λ z. AreWithin z cs) k.2 (item_within is_large k.0 cs (subst (λ z. AreWithin z cs) k.1 h))

pub within_fixed_item : (t item : DataType) (cs : List Column) → IsFixedListOf t item → AreWithin t cs → AreWithin item cs
within_fixed_item t item cs k h = subst (λ z. AreWithin z cs) k.2 (fixed_item_within k.0 (list_size t) cs (subst (λ z. AreWithin z cs) k.1 h))

pub within_value : (key : IntegerType) (t value : DataType) (cs : List Column) → IsDictionaryOf key t value → AreWithin t cs → AreWithin value cs
within_value key t value cs k h = value_within key value k.0 cs (subst (λ z. AreWithin z cs) k.1 h)

-- ---- columns that are added

abbrev is_first_of : Bool → List Column → Bool
is_first_of b [] = b
is_first_of b (c ∷ cs) = false

is_empty_is : (cs : List Column) → (length cs == 0) ≡ is_first_of true cs
is_empty_is [] = refl
is_empty_is (c ∷ cs) = grind (arith, nat_tests)

no_columns : (cs : List Column) → length cs ≡ 0 → cs ≡ []
no_columns [] e = refl
no_columns (c ∷ cs) e = absurd (omega (arith, e))

take_all : (w : List Column) (n : ℕ) → n ≡ length w → take n w ≡ w
take_all w n e = ap (λ m. take m w) e ∙ take-length w

drop_all : (w : List Column) (n : ℕ) → n ≡ length w → length (drop n w) ≡ 0
drop_all w n e = omega (arith, e, length-drop n w)

-- the only column of a row, with those within it
one_column : (b : Bool) (name : List ℕ) (t : DataType) (c : Column) (w : List Column) → key_bytes c.key ≡ key_of b name → c.within ≡ length w → IsForm c.form t → AreWithin t w
    → AreNamedFrom b (name ∷ []) (t ∷ []) (c ∷ w)
one_column b name t c w k n f h =
    ((k, (omega (arith, n), (f, subst (AreWithin t) (sym (take_all w c.within n)) h))), drop_all w c.within n)

later : (b : Bool) (cs : List Column) → is_first_of false cs ≡ false
later b [] = refl
later b (c ∷ cs) = refl

more_named : (b : Bool) (names : List (List ℕ)) (ts : List DataType) (cs : List Column) (name : List ℕ) (t : DataType) (c : Column) (w : List Column)
    → AreNamedFrom b names ts cs → key_bytes c.key ≡ key_of (is_first_of b cs) name → c.within ≡ length w → IsForm c.form t → AreWithin t w
    → AreNamedFrom b (names ++ (name ∷ [])) (ts ++ (t ∷ [])) (cs ++ (c ∷ w))
more_named b [] [] cs name t c w h k n f i =
    let none = no_columns cs h in
    subst (λ z. AreNamedFrom b (name ∷ []) (t ∷ []) (z ++ (c ∷ w))) (sym none) (one_column b name t c w (k ∙ ap (λ z. key_of (is_first_of b z) name) none) n f i)
more_named b [] (u ∷ ts) cs name t c w h k n f i = absurd h
more_named b (m ∷ names) [] cs name t c w h k n f i = absurd h
more_named b (m ∷ names) (u ∷ ts) [] name t c w h k n f i = absurd h
more_named b (m ∷ names) (u ∷ ts) (d ∷ cs) name t c w h k n f i =
    let le : d.within ≤ length cs = h.0.1.0 in
    let prefix : take d.within (cs ++ (c ∷ w)) ≡ take d.within cs = take-append-le d.within cs (c ∷ w) le in
    let back : drop d.within (cs ++ (c ∷ w)) ≡ drop d.within cs ++ (c ∷ w) = drop-append-le d.within cs (c ∷ w) le in
    let more = more_named false names ts (drop d.within cs) name t c w h.1 (k ∙ ap (λ z. key_of z name) (sym (later b (drop d.within cs)))) n f i in (
      (h.0.0, (omega (arith, le, length-append cs (c ∷ w)), (h.0.1.1.0, subst (AreWithin u) (sym prefix) h.0.1.1.1))),
      subst (AreNamedFrom false (names ++ (name ∷ [])) (ts ++ (t ∷ []))) (sym back) more,
    )

-- a column that was added is one more
pub added : (names : List (List ℕ)) (ts : List DataType) (old new : List Column) (name : List ℕ) (t : DataType) → AreNamed names ts old → AddsColumn name t old new → AreNamed (names ++ (name ∷ [])) (ts ++ (t ∷ [])) new
added names ts old new name t h a =
    subst (AreNamed (names ++ (name ∷ [])) (ts ++ (t ∷ []))) (sym a.added)
    (more_named true names ts old name t a.column a.beneath h (a.key ∙ ap (λ z. key_of z name) (is_empty_is old)) a.within a.form a.are_within)

-- what was pushed is a column, and those within it
pub column_added : {E : Type 0} (r : Result (Unit {0}) E) (name : List ℕ) (t : DataType) (old middle new : List Column) (c : Column) (w : List Column) → middle ≡ old ++ (c ∷ []) → new ≡ (if is_ok r then middle ++ w else middle)
    → key_bytes c.key ≡ key_of (length old == 0) name → c.within ≡ length w → IsForm c.form t → AreWithin t w → OnOk r (AddsColumn name t old new)
column_added (Ok u) name t old middle new c w e d k n f h = record {
  column = c;
  beneath = w;
  added = d ∙ ap (λ z. z ++ w) e ∙ append_assoc old (c ∷ []) w;
  key = k;
  within = n;
  form = f;
  are_within = h;
}
column_added (Err x) name t old middle new c w e d k n f h = tt

next_of : {X Y : Type 0} (f : X → Y) (xs : List X) (k : ℕ) (x : X) → k < length xs → x ≡ get_or xs k x → map f (take (k + 1) xs) ≡ map f (take k xs) ++ (f x ∷ [])
next_of f xs k x l e = rw add-one (step f xs k x l e)
  where
    step : {X Y : Type 0} (f : X → Y) (xs : List X) (k : ℕ) (x : X) → k < length xs → x ≡ get_or xs k x → map f (take (suc k) xs) ≡ map f (take k xs) ++ (f x ∷ [])
    step f [] k x l e = absurd (omega (arith, l))
    step f (y ∷ xs) zero x l e = ap (λ z. f z ∷ []) (sym e)
    step f (y ∷ xs) (suc k) x l e = ap (λ z. f y ∷ z) (step f xs k x (omega (arith, l)) e)

-- the column of one more field
pub one_more_field : (fs : List Field) (k : ℕ) (f : Field) (name : List ℕ) (old new : List Column) → k < length fs → f ≡ get_or fs k f → name ≡ f.name → AreFields (take k fs) old → AddsColumn name f.data_type old new → AreFields (take (k + 1) fs) new
one_more_field fs k f name old new l e d h a =
    let names = next_of (λ (g : Field). g.name) fs k f l e in
    let ts = next_of (λ (g : Field). g.data_type) fs k f l e in
    let plain : AreNamed (names_of (take k fs) ++ (f.name ∷ [])) (types_of (take k fs) ++ (f.data_type ∷ [])) new = subst (λ z. AreNamed (names_of (take k fs) ++ (z ∷ [])) (types_of (take k fs) ++ (f.data_type ∷ [])) new) d (added _ _ old new name f.data_type h a) in
    subst (λ z. AreNamed z (types_of (take (k + 1) fs)) new) (sym names) (subst (λ z. AreNamed (names_of (take k fs) ++ (f.name ∷ [])) z new) (sym ts) plain)

-- the column of one more array
pub one_more_column : (fs : List Field) (arrays : List Array) (k : ℕ) (f : Field) (a : Array) (name : List ℕ) (t : DataType) (old new : List Column) → k < length fs → f ≡ get_or fs k f → k < length arrays → a ≡ get_or arrays k a
    → name ≡ f.name → t ≡ array_type a → AreNamed (names_of (take k fs)) (map array_type (take k arrays)) old → AddsColumn name t old new → AreNamed (names_of (take (k + 1) fs)) (map array_type (take (k + 1) arrays)) new
one_more_column fs arrays k f a name t old new l e l' e' d d' h x =
    let names = next_of (λ (g : Field). g.name) fs k f l e in
    let ts = next_of array_type arrays k a l' e' in
    subst (λ z. AreNamed z (map array_type (take (k + 1) arrays)) new) (ap (λ z. names_of (take k fs) ++ (z ∷ [])) d ∙ sym names)
    (subst (λ z. AreNamed (names_of (take k fs) ++ (name ∷ [])) z new) (ap (λ z. map array_type (take k arrays) ++ (z ∷ [])) d' ∙ sym ts) (added _ _ old new name t h x))

-- ---- the columns of arrays

pub are_columns : (b : Bool) (names : List (List ℕ)) (arrays : List Array) (cs : List Column) → AreNamedFrom b names (map array_type arrays) cs → AreColumns arrays cs
are_columns b names [] cs h = tt
are_columns b [] (a ∷ arrays) cs h = absurd h
are_columns b (n ∷ names) (a ∷ arrays) [] h = absurd h
are_columns b (n ∷ names) (a ∷ arrays) (c ∷ cs) h = (h.0.1, are_columns false names arrays (drop c.within cs) h.1)

-- a member for each name and array
abbrev pub named_members : List (List ℕ) → List Array → ℕ → List (List ℕ)
named_members (name ∷ names) (a ∷ arrays) i = member name (text (array_type a) (slot_at (array_slots a) i)) ∷ named_members names arrays i
named_members _ _ i = []

-- what the members begin with, and the members
abbrev begun : Bool → List (List ℕ) → List ℕ
begun b [] = []
begun b (m ∷ ms) = (if b then codes "{" else codes ",") ++ joined (m ∷ ms)

then_begun : (m : List ℕ) (ms : List (List ℕ)) → m ++ begun false ms ≡ joined (m ∷ ms)
then_begun m [] = append-nil m
then_begun m (x ∷ ms) = refl

glue : (s j v k : List ℕ) → (s ++ (j ++ codes ":")) ++ (v ++ k) ≡ s ++ ((j ++ (codes ":" ++ v)) ++ k)
glue s j v k = simp append_assoc

text_is : (b : Bool) (names : List (List ℕ)) (arrays : List Array) (cs : List Column) (i : ℕ) → AreNamedFrom b names (map array_type arrays) cs → columns_text arrays cs i ≡ begun b (named_members names arrays i)
text_is b [] [] cs i h = refl
text_is b (n ∷ names) [] cs i h = absurd h
text_is b [] (a ∷ arrays) cs i h = absurd h
text_is b (n ∷ names) (a ∷ arrays) [] i h = absurd h
text_is b (n ∷ names) (a ∷ arrays) (c ∷ cs) i h =
    let v : List ℕ = text (array_type a) (slot_at (array_slots a) i) in
    let s : List ℕ = if b then codes "{" else codes "," in
    let ms : List (List ℕ) = named_members names arrays i in
    ap (λ z. z ++ (v ++ columns_text arrays (drop c.within cs) i)) h.0.0
    ∙ ap (λ z. key_of b n ++ (v ++ z)) (text_is false names arrays (drop c.within cs) i h.1)
    ∙ glue s (json_string n) v (begun false ms) ∙ ap (λ z. s ++ z) (then_begun (member n v) ms)

-- the object of columns under their names
pub object_is : (names : List (List ℕ)) (arrays : List Array) (cs : List Column) (i : ℕ) → AreNamed names (map array_type arrays) cs → columns_object arrays cs i ≡ object (named_members names arrays i)
object_is [] [] cs i h = refl
object_is (n ∷ names) [] cs i h = absurd h
object_is [] (a ∷ arrays) cs i h = absurd h
object_is (n ∷ names) (a ∷ arrays) cs i h =
    ap (λ z. z ++ codes "}") (text_is true (n ∷ names) (a ∷ arrays) cs i h)
    ∙ append_assoc (codes "{") (joined (named_members (n ∷ names) (a ∷ arrays) i)) (codes "}")

-- ---- structs

types_are : (n : ℕ) (fs : List Field) (arrays : List Array) → AreChildren n fs arrays → types_of fs ≡ map array_type arrays
types_are n [] [] h = refl
types_are n [] (a ∷ arrays) h = absurd h
types_are n (f ∷ fs) [] h = absurd h
types_are n (f ∷ fs) (a ∷ arrays) h = ap (λ z. z ∷ types_of fs) h.0.0 ∙ ap (λ z. array_type a ∷ z) (types_are n fs arrays h.1)

members_are : (n : ℕ) (fs : List Field) (arrays : List Array) (i : ℕ) → AreChildren n fs arrays → named_members (names_of fs) arrays i ≡ field_members fs (fields_at arrays i)
members_are n [] [] i h = refl
members_are n [] (a ∷ arrays) i h = absurd h
members_are n (f ∷ fs) [] i h = absurd h
members_are n (f ∷ fs) (a ∷ arrays) i h =
    ap (λ t. member f.name (text t (slot_at (array_slots a) i)) ∷ named_members (names_of fs) arrays i) (sym h.0.0)
    ∙ ap (λ z. member f.name (text f.data_type (slot_at (array_slots a) i)) ∷ z) (members_are n fs arrays i h.1)

-- the columns within a struct are those of its children
children_named : (t : DataType) (children : List Array) (n : ℕ) (cs : List Column) (k : IsStructOf t children n) → AreWithin t cs → AreNamed (names_of k.0) (map array_type children) cs
children_named t children n cs k h =
    subst (λ z. AreNamed (names_of k.0) z cs) (types_are n k.0 children k.2) (struct_fields k.0 cs (subst (λ z. AreWithin z cs) k.1 h))

pub children_columns : (t : DataType) (children : List Array) (n : ℕ) (cs : List Column) → IsStructOf t children n → AreWithin t cs → AreColumns children cs
children_columns t children n cs k h = are_columns true (names_of k.0) children cs (children_named t children n cs k h)

pub children_object : (t : DataType) (children : List Array) (n i : ℕ) (cs : List Column) → IsStructOf t children n → AreWithin t cs → columns_object children cs i ≡ text t (slot.Struct (fields_at children i))
children_object t children n i cs k h =
    object_is (names_of k.0) children cs i (children_named t children n cs k h)
    ∙ ap object (members_are n k.0 children i k.2) ∙ struct_is t k.0 (fields_at children i) k.1

-- ---- one array after another

pub here : {X : Type 0} (xs : List X) (k : ℕ) (x : X) → k < length xs → x ≡ get_or xs k x → drop k xs ≡ x ∷ drop (k + 1) xs
here xs k x l e = rw add-one (drop-cons xs k x l ∙ ap (λ z. z ∷ drop (suc k) xs) (sym e))

-- the columns after the first, as a slice pattern has them
abbrev pub others : List Column → List Column
others rest = take (length rest - 1) (drop 1 rest)

pub first_is : (rest : List Column) (c : Column) → 1 ≤ length rest → c ≡ get_or rest 0 c → rest ≡ c ∷ others rest
first_is [] c l e = absurd (omega (arith, l))
first_is (d ∷ rest) c l e =
    let n : suc (length rest) - 1 ≡ length rest = omega arith in
    ap (λ z. z ∷ rest) (sym e) ∙ ap (λ z. c ∷ z) (sym (ap (λ m. take m rest) n ∙ take-length rest))

pub none_is : (rest : List Column) → length rest < 1 → rest ≡ []
none_is [] l = refl
none_is (c ∷ rest) l = absurd (omega (arith, l))

-- an array has a column
pub no_column : (arrays : List Array) (k : ℕ) (a : Array) → k < length arrays → a ≡ get_or arrays k a → AreColumns (drop k arrays) [] → ⊥
no_column arrays k a l e h = subst (λ z. AreColumns z []) (here arrays k a l e) h

abbrev pub IsColumn : Array → Column → List Column → List Array → Type 0
IsColumn a c cs arrays = ((c.within ≤ length cs) × (IsForm c.form (array_type a) × AreWithin (array_type a) (take c.within cs))) × AreColumns arrays (drop c.within cs)

pub column_here : (arrays : List Array) (k : ℕ) (a : Array) (rest : List Column) (c : Column) (more : List Column) → k < length arrays → a ≡ get_or arrays k a → rest ≡ c ∷ more → AreColumns (drop k arrays) rest → IsColumn a c more (drop (k + 1) arrays)
column_here arrays k a rest c more l e d h = subst (λ z. AreColumns z (c ∷ more)) (here arrays k a l e) (subst (AreColumns (drop k arrays)) d h)

-- a key and a value more
pub text_more : (arrays : List Array) (k i : ℕ) (a : Array) (rest : List Column) (c : Column) (more : List Column) (whole before with_key now : List ℕ)
    → k < length arrays → a ≡ get_or arrays k a → rest ≡ c ∷ more
    → before ++ columns_text (drop k arrays) rest i ≡ whole → with_key ≡ before ++ key_bytes c.key → now ≡ with_key ++ text (array_type a) (slot_at (array_slots a) i)
    → now ++ columns_text (drop (k + 1) arrays) (drop c.within more) i ≡ whole
text_more arrays k i a rest c more whole before with_key now l e d h p q =
    let v : List ℕ = text (array_type a) (slot_at (array_slots a) i) in
    let left : List ℕ = columns_text (drop (k + 1) arrays) (drop c.within more) i in
    let is : columns_text (drop k arrays) rest i ≡ key_bytes c.key ++ (v ++ left) = ap (λ z. columns_text z rest i) (here arrays k a l e) ∙ ap (λ z. columns_text (a ∷ drop (k + 1) arrays) z i) d in
    ap (λ z. z ++ left) (q ∙ ap (λ z. z ++ v) p) ∙ append_assoc (before ++ key_bytes c.key) v left ∙ append_assoc before (key_bytes c.key) (v ++ left)
    ∙ ap (λ z. before ++ z) (sym is) ∙ h

-- at the end the bracket makes the object
pub object_closed : (arrays : List Array) (k i : ℕ) (columns rest : List Column) (old before now : List ℕ) → k ≡ length arrays → (arrays ≡ [] → ⊥)
    → before ++ columns_text (drop k arrays) rest i ≡ old ++ columns_text arrays columns i → now ≡ before ++ codes "}" → now ≡ old ++ columns_object arrays columns i
object_closed [] k i columns rest old before now e f h p = absurd (f refl)
object_closed (a ∷ arrays) k i columns rest old before now e f h p =
    let none : drop k (a ∷ arrays) ≡ [] = ap (λ m. drop m (a ∷ arrays)) e ∙ drop-length (a ∷ arrays) in
    let all : before ≡ old ++ columns_text (a ∷ arrays) columns i = sym (append-nil before) ∙ ap (λ z. before ++ columns_text z rest i) (sym none) ∙ h in
    p ∙ ap (λ z. z ++ codes "}") all ∙ append_assoc old (columns_text (a ∷ arrays) columns i) (codes "}")
