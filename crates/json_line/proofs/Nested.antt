-- Lists and structs that builders take, by what their children took.
use Rattle.std.proofs.Common.{◌≡◌, ◌∙◌, ℕ, suc, ◌+◌, Bool, true, false, List, [], ◌∷◌, ◌++◌, length, map, drop, Option, refl, sym, ap, subst, arith}
use Rattle.std.specs.Prelude.{Result, Ok, Err, OnOk}
use Rattle.std.proofs.lemmas.List.{length-append, length-map}
use Rattle.arrow_array.specs.FixedLists.{list_size}
use Rattle.arrow_array.specs.Structs.{record_at}
use Rattle.arrow_flat.specs.Builders.{slots_where}
use Rattle.arrow_flat.specs.Nested.{items_of, lists_from}
use Rattle.arrow_flat.proofs.Slots.{length-slots_of}
use Rattle.arrow_builders.specs.Children.{fields_of}
use Rattle.arrow_builders.specs.MutableArrays.{builder_slots}
use Rattle.arrow_builders.specs.Shapes.{Shape, flat, dictionary, lists, fixed_lists, records, no_field, field, shape}
use Rattle.arrow_builders.specs.Tight.{AllTight, IsTight}
use Rattle.arrow_builders.specs.declared.array.MutableArray.{MutableArray, Struct}
use Rattle.arrow_builders.specs.declared.structs.DynMutableStructArray.{DynMutableStructArray}
use Rattle.arrow_builders.proofs.Rows.{shape-record, slots-record, tight-record}
use Rattle.arrow_builders.proofs.Staying.{drop_prefix, grown, lists_stay, record_last, records_stay, tight_long}
use Rattle.arrow_core.specs.declared.physical.PhysicalType.{PhysicalType}
use Rattle.arrow_core.specs.declared.physical.PhysicalType.TheVariants as physical
use Rattle.arrow_core.specs.declared.physical.PrimitiveType.TheVariants as primitive
use Rattle.arrow_core.specs.declared.slot.Slot.{Slot}
use Rattle.arrow_core.specs.declared.slot.Slot.TheVariants as slot
use Rattle.json_tree.specs.Reading.{Outcome, found}
use Rattle.json_tree.specs.Tree.{Json, null, array, object}
use Rattle.json_tree.specs.declared.value.Value.{out-Value}
use Rattle.json_tree.specs.declared.value.Value.TheVariants as variant
use Rattle.json_flat.specs.Columns.{means, AreSlotsOf, Pushes}
use Rattle.json_flat.specs.Meaning.{Layer, Meaning, slot_of}
use Rattle.json_flat.specs.Reading.{all_slots, list_in, made_of, sized_list_in, struct_in, together}
use Rattle.json_lend.specs.declared.lent.Lent.{Lent}
use Rattle.json_lend.specs.declared.lent.Lent.TheVariants as lent
use Rattle.json_lend.specs.Fields.{value_named}
use Rattle.json_lend.specs.Standing.{lent_value}
use Rattle.json_line.specs.declared.field_names.FieldNames.{FieldNames}
use Rattle.json_lend.specs.declared.given_up.GivenUp.{GivenUp}
use Rattle.json_line.specs.Builders.{is_timestamp, kind_reading, shape_members, shape_reading, struct_names, IsOfLists, ReadsInto, SuitsFields, Takes, TakesRow}

-- ---- several slots

pub slots_are : (ss : List Slot) → together (map slot_of ss) ≡ all_slots ss
slots_are [] = refl
slots_are (s ∷ ss) = rw (slots_are ss) refl

pub one_more : (m : Meaning) (ms : List Meaning) (s : Slot) (ss : List Slot) → m ≡ slot_of s → together ms ≡ all_slots ss → together (m ∷ ms) ≡ all_slots (s ∷ ss)
one_more m ms s ss e d = rw (e, d) refl

-- ---- nulls

null_list : (l : Lent) → ((items : List Json) → l ≡ lent.Array items → ⊥) → (item : Json → Meaning) → list_in item (out-Value (lent_value l)) ≡ slot_of slot.Null
unfolding out-Value denote.Hole.Carrier.out
null_list lent.Null h item = refl
null_list (lent.Bool b) h item = refl
null_list (lent.Number m e) h item = refl
null_list (lent.String s) h item = refl
null_list (lent.Escaped s) h item = refl
null_list (lent.Array xs) h item = absurd (h xs refl)
null_list (lent.Object ms) h item = refl

null_sized_list : (size : ℕ) (l : Lent) → ((items : List Json) → l ≡ lent.Array items → ⊥) → (item : Json → Meaning) → sized_list_in size item (out-Value (lent_value l)) ≡ slot_of slot.Null
unfolding out-Value denote.Hole.Carrier.out
null_sized_list size lent.Null h item = refl
null_sized_list size (lent.Bool b) h item = refl
null_sized_list size (lent.Number m e) h item = refl
null_sized_list size (lent.String s) h item = refl
null_sized_list size (lent.Escaped s) h item = refl
null_sized_list size (lent.Array xs) h item = absurd (h xs refl)
null_sized_list size (lent.Object ms) h item = refl

null_struct : (l : Lent) → ((members : List (List ℕ × Json)) → l ≡ lent.Object members → ⊥) → (members : List (List ℕ × Json) → List Meaning) → struct_in members (out-Value (lent_value l)) ≡ slot_of slot.Null
unfolding out-Value denote.Hole.Carrier.out
null_struct lent.Null h members = refl
null_struct (lent.Bool b) h members = refl
null_struct (lent.Number m e) h members = refl
null_struct (lent.String s) h members = refl
null_struct (lent.Escaped s) h members = refl
null_struct (lent.Array xs) h members = refl
null_struct (lent.Object ms) h members = absurd (h ms refl)

taken_as_null : (r : Result (Unit {0}) GivenUp) (v : Json) (old new : MutableArray) → means (shape_reading (shape old)) v ≡ slot_of slot.Null → OnOk r (builder_slots new ≡ builder_slots old ++ slot.Null ∷ []) → OnOk r (Takes v old new)
taken_as_null (Ok u) v old new m e = (slot.Null, m, e)
taken_as_null (Err g) v old new m e = tt

list_shaped : (s : Shape) (l : Lent) → IsOfLists s → ((items : List Json) → l ≡ lent.Array items → ⊥) → means (shape_reading s) (lent_value l) ≡ slot_of slot.Null
list_shaped (flat kind t) l h other = absurd h
list_shaped (dictionary t items) l h other = absurd h
list_shaped (lists kind t item) l h other = null_list l other (λ value. shape_reading item (out-Value value))
list_shaped (fixed_lists t item) l h other = null_sized_list (list_size t) l other (λ value. shape_reading item (out-Value value))
list_shaped (records t more) l h other = absurd h
list_shaped no_field l h other = absurd h
list_shaped (field first more) l h other = absurd h

struct_shaped : (own : List (List ℕ)) (below : List FieldNames) (s : Shape) (l : Lent) → SuitsFields own below s → ((members : List (List ℕ × Json)) → l ≡ lent.Object members → ⊥) → means (shape_reading s) (lent_value l) ≡ slot_of slot.Null
struct_shaped own below (flat kind t) l h other = absurd h
struct_shaped own below (dictionary t items) l h other = absurd h
struct_shaped own below (lists kind t item) l h other = absurd h
struct_shaped own below (fixed_lists t item) l h other = absurd h
struct_shaped own below (records t more) l h other = null_struct l other (shape_members (struct_names t) more)
struct_shaped own below no_field l h other = absurd h
struct_shaped own below (field first more) l h other = absurd h

-- a value that is no array is a null list, and one that is no object a null struct
pub null_for_list : (r : Result (Unit {0}) GivenUp) (l : Lent) (old new : MutableArray) → IsOfLists (shape old) → ((items : List Json) → l ≡ lent.Array items → ⊥) → OnOk r (builder_slots new ≡ builder_slots old ++ slot.Null ∷ []) → OnOk r (Takes (lent_value l) old new)
null_for_list r l old new h other e = taken_as_null r (lent_value l) old new (list_shaped (shape old) l h other) e

pub null_for_struct : (r : Result (Unit {0}) GivenUp) (own : List (List ℕ)) (below : List FieldNames) (l : Lent) (old new : MutableArray) → SuitsFields own below (shape old) → ((members : List (List ℕ × Json)) → l ≡ lent.Object members → ⊥) → OnOk r (builder_slots new ≡ builder_slots old ++ slot.Null ∷ []) → OnOk r (Takes (lent_value l) old new)
null_for_struct r own below l old new h other e = taken_as_null r (lent_value l) old new (struct_shaped own below (shape old) l h other) e

-- under each type null means null
null_of_kind : (moment : Bool) (kind : PhysicalType) → means (kind_reading moment kind) null ≡ slot_of slot.Null
unfolding out-Value denote.Hole.Carrier.out
null_of_kind true (physical.Primitive primitive.Int64) = refl
null_of_kind false (physical.Primitive primitive.Int64) = refl
null_of_kind moment kind = refl

null_of_shape : (s : Shape) → means (shape_reading s) null ≡ slot_of slot.Null
unfolding out-Value denote.Hole.Carrier.out
null_of_shape (flat kind t) = null_of_kind (is_timestamp t) kind
null_of_shape (dictionary t items) = refl
null_of_shape (lists kind t item) = refl
null_of_shape (fixed_lists t item) = refl
null_of_shape (records t more) = refl
null_of_shape no_field = refl
null_of_shape (field first more) = refl

pub null_taken : (r : Result (Unit {0}) GivenUp) (old new : MutableArray) → OnOk r (builder_slots new ≡ builder_slots old ++ slot.Null ∷ []) → OnOk r (Takes null old new)
null_taken r old new e = taken_as_null r null old new (null_of_shape (shape old)) e

-- ---- lists

array_means : (f : Layer → Meaning) (items : List Json) (ss : List Slot) → AreSlotsOf f items ss → means (list_in (λ value. f (out-Value value))) (array items) ≡ slot_of (slot.List ss)
array_means f items ss e =
    ap (list_in (λ value. f (out-Value value))) (variant.outs-Array items)
    ∙ ap (λ (ms : List Meaning). made_of slot.List (together ms)) e ∙ ap (made_of slot.List) (slots_are ss)

list_more : (old new mid child items now : List Slot) (lens : List (Option ℕ)) → length child ≡ items_of lens → now ≡ child ++ items → old ≡ lists_from 0 lens child → mid ≡ lists_from 0 lens now → new ≡ mid ++ slot.List (drop (items_of lens) now) ∷ [] → new ≡ old ++ slot.List items ∷ []
list_more old new mid child items now lens l e o m n =
    let s : mid ≡ old = m ∙ ap (λ (xs : List Slot). lists_from 0 lens xs) e ∙ lists_stay 0 lens child items (omega (arith, l)) ∙ sym o in
    let d : drop (items_of lens) now ≡ items = ap (λ (xs : List Slot). drop (items_of lens) xs) e ∙ ap (λ (k : ℕ). drop k (child ++ items)) (sym l) ∙ drop_prefix child items in
    n ∙ ap (λ (xs : List Slot). mid ++ slot.List xs ∷ []) d ∙ ap (λ (xs : List Slot). xs ++ slot.List items ∷ []) s

-- a list of what the child took
pub list_taken : (r : Result (Unit {0}) GivenUp) (f : Layer → Meaning) (items : List Json) (child now old mid new : List Slot) (lens : List (Option ℕ)) → length child ≡ items_of lens → (added : List Slot) × AreSlotsOf f items added × (now ≡ child ++ added) → old ≡ lists_from 0 lens child → mid ≡ lists_from 0 lens now
    → OnOk r (new ≡ mid ++ slot.List (drop (items_of lens) now) ∷ []) → OnOk r (Pushes (list_in (λ value. f (out-Value value))) (array items) old new)
list_taken (Ok u) f items child now old mid new lens l (added, m, e) o q n = (slot.List added, array_means f items added m, list_more old new mid child added now lens l e o q n)
list_taken (Err g) f items child now old mid new lens l t o q n = tt

-- ---- structs

object_means : (names : List (List ℕ)) (fields : Shape) (members : List (List ℕ × Json)) (row : List Slot) → together (shape_members names fields members) ≡ all_slots row → means (struct_in (shape_members names fields)) (object members) ≡ slot_of (slot.Struct row)
object_means names fields members row e =
    ap (struct_in (shape_members names fields)) (variant.outs-Object (record { members = members })) ∙ ap (made_of slot.Struct) e

-- the children's slots of a row
abbrev IsRow : List (List ℕ) → List (List ℕ × Json) → List MutableArray → List MutableArray → Type 0
IsRow names members old new =
    (row : List Slot) × (together (shape_members names (fields_of (map shape old)) members) ≡ all_slots row) × (map builder_slots new ≡ grown (map builder_slots old) row) × (length row ≡ length old)

row_taken : (names : List (List ℕ)) (members : List (List ℕ × Json)) (old new : List MutableArray) → length old ≡ length names → length new ≡ length old → TakesRow names members old new → IsRow names members old new
row_taken [] members [] [] n m t = ([], refl, refl, refl)
row_taken [] members [] (d ∷ ds) n m t = absurd (omega (arith, m))
row_taken [] members (b ∷ bs) ds n m t = absurd (omega (arith, n))
row_taken (name ∷ names) members [] ds n m t = absurd (omega (arith, n))
row_taken (name ∷ names) members (b ∷ bs) [] n m t = absurd (omega (arith, m))
row_taken (name ∷ names) members (b ∷ bs) (d ∷ ds) n m t =
    let p = t 0 name b (omega arith) in
    let r = row_taken names members bs ds (omega (arith, n)) (omega (arith, m)) (λ k other x lt. t (suc k) other x (omega (arith, lt))) in (
      p.0 ∷ r.0,
      one_more (means (shape_reading (shape b)) (value_named members name)) (shape_members names (fields_of (map shape bs)) members) p.0 r.0 p.1 r.1,
      (λ i. p.2 i ∷ r.2 i),
      ap suc r.3,
    )

-- a struct of what the children took
pub struct_taken : (r : Result (Unit {0}) GivenUp) (b c : DynMutableStructArray) (names : List (List ℕ)) (members : List (List ℕ × Json)) (new : List Slot) → c.marks ≡ b.marks → IsTight (Struct b) → names ≡ struct_names b.marks.data_type → length b.values.items ≡ length names → length c.values.items ≡ length b.values.items
    → TakesRow names members b.values.items c.values.items → OnOk r (new ≡ builder_slots (Struct c) ++ record_at (map builder_slots c.values.items) (length c.marks.booleans) ∷ [])
    → OnOk r (Pushes (shape_reading (shape (Struct b))) (object members) (builder_slots (Struct b)) new)
struct_taken (Err g) b c names members new m t s w l rows n = tt
struct_taken (Ok u) b c names members new m t s w l rows n =
    let g = row_taken names members b.values.items c.values.items w l rows in
    let long = tight_long (length b.marks.booleans) b.values.items (subst (λ (P : Type 0). P) (tight-record b) t) in
    let wide : length g.0 ≡ length (map builder_slots b.values.items) = omega (arith, g.3, length-map b.values.items builder_slots) in
    let stay : builder_slots (Struct c) ≡ builder_slots (Struct b) =
    slots-record c ∙ ap (λ k. slots_where k.booleans (record_at (map builder_slots c.values.items))) m ∙ ap (λ (cs : List (List Slot)). slots_where b.marks.booleans (record_at cs)) g.2 ∙ records_stay b.marks.booleans (map builder_slots b.values.items) g.0 long ∙ sym (slots-record b) in
    let last : record_at (map builder_slots c.values.items) (length c.marks.booleans) ≡ slot.Struct g.0 =
    ap (λ k. record_at (map builder_slots c.values.items) (length k.booleans)) m ∙ ap (λ (cs : List (List Slot)). record_at cs (length b.marks.booleans)) g.2 ∙ record_last (length b.marks.booleans) (map builder_slots b.values.items) g.0 long wide in
    let all : new ≡ builder_slots (Struct b) ++ slot.Struct g.0 ∷ [] =
    n ∙ ap (λ (x : Slot). builder_slots (Struct c) ++ x ∷ []) last ∙ ap (λ (xs : List Slot). xs ++ slot.Struct g.0 ∷ []) stay in
    let meant : means (struct_in (shape_members names (fields_of (map shape b.values.items)))) (object members) ≡ slot_of (slot.Struct g.0) = object_means names (fields_of (map shape b.values.items)) members g.0 g.1 in
    let reading : shape_reading (shape (Struct b)) ≡ struct_in (shape_members names (fields_of (map shape b.values.items))) =
    ap shape_reading (shape-record b) ∙ ap (λ (ns : List (List ℕ)). struct_in (shape_members ns (fields_of (map shape b.values.items)))) (sym s) in
    (slot.Struct g.0, ap (λ (f : Layer → Meaning). means f (object members)) reading ∙ meant, all)

-- its children are tight again
pub struct_tight : (r : Result (Unit {0}) GivenUp) (b c d : DynMutableStructArray) → c.marks ≡ b.marks → AllTight (length b.marks.booleans + 1) c.values.items → d.values ≡ c.values → OnOk r (d.marks.booleans ≡ c.marks.booleans ++ true ∷ []) → OnOk r (IsTight (Struct d))
struct_tight (Err g) b c d m t v h = tt
struct_tight (Ok u) b c d m t v h =
    let l : length d.marks.booleans ≡ length b.marks.booleans + 1 =
    omega (arith, ap length h, length-append c.marks.booleans (true ∷ []), ap (λ k. length k.booleans) m) in
    subst (λ (P : Type 0). P) (sym (tight-record d)) (subst (λ (n : ℕ). AllTight n d.values.items) (sym l) (subst (λ k. AllTight (length b.marks.booleans + 1) k.items) (sym v) t))

pub children_tight : (b : DynMutableStructArray) → IsTight (Struct b) → AllTight (length b.marks.booleans) b.values.items
children_tight b h = subst (λ (P : Type 0). P) (tight-record b) h

-- ---- what was read

pub read_into : (r : Result (Unit {0}) GivenUp) (read : List ℕ → Outcome Json) (before after : List ℕ) (v : Json) (old new : MutableArray) → read before ≡ found v after → OnOk r (Takes v old new) → OnOk r (ReadsInto read before after old new)
read_into (Ok u) read before after v old new is took = (v, is, took)
read_into (Err g) read before after v old new is took = tt

-- what begins with a bracket, from what follows it
pub read_behind : (r : Result (Unit {0}) GivenUp) (read other : List ℕ → Outcome Json) (before behind after : List ℕ) (old new : MutableArray) → other before ≡ read behind → OnOk r (ReadsInto read behind after old new) → OnOk r (ReadsInto other before after old new)
read_behind (Ok u) read other before behind after old new e (v, is, took) = (v, e ∙ is, took)
read_behind (Err g) read other before behind after old new e h = tt

-- there are as many structs as a builder of structs has slots
pub struct_count : (b : MutableArray) (S T : DynMutableStructArray) (n : ℕ) → b ≡ Struct S → T ≡ S → n ≡ length (builder_slots b) → length T.marks.booleans ≡ n
struct_count b S T n e s l =
    ap (λ (x : DynMutableStructArray). length x.marks.booleans) s
    ∙ sym (l ∙ ap (λ (x : MutableArray). length (builder_slots x)) e ∙ ap length (slots-record S) ∙ length-slots_of (record_at (map builder_slots S.values.items)) S.marks.booleans (length S.marks.booleans))
