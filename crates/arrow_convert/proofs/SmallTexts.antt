-- The JSON texts of slots of a type are those of its small form.
use Rattle.std.proofs.Common.{◌≡◌, ◌∙◌, ℕ, ◌++◌, true, ◌&&◌, List, [], ◌∷◌, map, codes, All, refl, sym, ap}
use Rattle.std.specs.List.{AllByRecursion, flat_map, list_all}
use Rattle.std.proofs.lemmas.List.Elements.{All-from_recursion, recursion_from_All}
use Rattle.arrow_core.specs.declared.slot.Slot.{Slot}
use Rattle.arrow_core.specs.declared.types.DataType.{DataType, LargeUtf8, LargeBinary, List', LargeList', Struct'}
use Rattle.arrow_core.specs.declared.types.DataType.TheBlock.{shape-the_row-Field-0, hidden-the_row-Field-0, shape-the_row-Field-1, hidden-the_row-Field-1}
use Rattle.arrow_core.specs.declared.types.DataType.TheVariants as types
use Rattle.arrow_core.specs.declared.types.Field.{Field}
use Rattle.avro_types.specs.Back.{small, small_field}
use Rattle.avro_types.specs.Listed.{HasNoFields}
use Rattle.json_text.specs.JsonText.{Form, field_members, form, member, member_texts, object, of_lists, of_structs, slot_text, text}
use Rattle.json_text.specs.Refusals.{Range, all_in_range, fields_in_range, has_text, in_range, lists_in, range_of, slot_in_range, structs_in}
use Rattle.json_text.proofs.Beneath.{large_list_text, list_text, struct_text}
use Rattle.json_write.specs.Rows.{lines, members, names_of, texts}
use Rattle.arrow_convert.proofs.ByParts.{EachType, each_by_parts}
use Rattle.arrow_convert.proofs.SmallForms.{small_item, small_large, small_list, small_struct}

-- ---- lists and structs, by the fields that code sees

list_form : (f : Field) → form (types.List f) ≡ of_lists (text f.data_type)
unfolding shape-the_row-Field-0 hidden-the_row-Field-0 denote.Hole.Carrier.hidden
list_form f = refl

large_form : (f : Field) → form (types.LargeList f) ≡ of_lists (text f.data_type)
unfolding shape-the_row-Field-0 hidden-the_row-Field-0 denote.Hole.Carrier.hidden
large_form f = refl

list_range : (f : Field) → range_of (types.List f) ≡ lists_in (in_range f.data_type)
unfolding shape-the_row-Field-0 hidden-the_row-Field-0 denote.Hole.Carrier.hidden
list_range f = refl

large_range : (f : Field) → range_of (types.LargeList f) ≡ lists_in (in_range f.data_type)
unfolding shape-the_row-Field-0 hidden-the_row-Field-0 denote.Hole.Carrier.hidden
large_range f = refl

member_row : (fs : List Field) (xs : List Slot) → member_texts (hidden-the_row-Field-1 fs) xs ≡ field_members fs xs
unfolding shape-the_row-Field-1 hidden-the_row-Field-1 denote.Hole.Carrier.hidden
member_row [] [] = refl
member_row [] (x ∷ xs) = refl
member_row (f ∷ fs) [] = refl
member_row (f ∷ fs) (x ∷ xs) = ap (λ (z : List (List ℕ)). member f.name (text f.data_type x) ∷ z) (member_row fs xs)

struct_form : (fs : List Field) → form (types.Struct fs) ≡ of_structs (field_members fs)
unfolding shape-the_row-Field-1 hidden-the_row-Field-1 denote.Hole.Carrier.hidden
struct_form fs = λ i. of_structs (λ xs. member_row fs xs i)

range_row : (fs : List Field) (xs : List Slot) → fields_in_range (hidden-the_row-Field-1 fs) xs ≡ all_in_range fs xs
unfolding shape-the_row-Field-1 hidden-the_row-Field-1 denote.Hole.Carrier.hidden
range_row [] [] = refl
range_row [] (x ∷ xs) = refl
range_row (f ∷ fs) [] = refl
range_row (f ∷ fs) (x ∷ xs) = ap (λ z. in_range f.data_type x && z) (range_row fs xs)

struct_range : (fs : List Field) → range_of (types.Struct fs) ≡ structs_in (all_in_range fs)
unfolding shape-the_row-Field-1 hidden-the_row-Field-1 denote.Hole.Carrier.hidden
struct_range fs = λ i. structs_in (λ xs. range_row fs xs i)

-- ---- every type

record SameTexts (t : DataType) : Type 0 where
  pub forms : form (small t) ≡ form t
  pub ranges : range_of (small t) ≡ range_of t
  pub has : has_text (small t) ≡ has_text t

flat_same : (t : DataType) → HasNoFields t → SameTexts t
flat_same LargeUtf8 h = record { forms = refl; ranges = refl; has = refl }
flat_same LargeBinary h = record { forms = refl; ranges = refl; has = refl }
flat_same (List' shape item) h = absurd h
flat_same (LargeList' shape item) h = absurd h
flat_same (Struct' shape fields) h = absurd h
flat_same t h = record { forms = refl; ranges = refl; has = refl }

listed_same : (t : DataType) (f : Field) → small t ≡ types.List (small_item f) → form t ≡ of_lists (text f.data_type) → range_of t ≡ lists_in (in_range f.data_type) → has_text t ≡ has_text f.data_type → SameTexts f.data_type → SameTexts t
listed_same t f is forms ranges has p = record {
  forms = ap form is ∙ list_form (small_item f) ∙ ap (λ (w : Form). of_lists (slot_text w)) p.forms ∙ sym forms;
  ranges = ap range_of is ∙ list_range (small_item f) ∙ ap (λ (r : Range). lists_in (slot_in_range r)) p.ranges ∙ sym ranges;
  has = ap has_text is ∙ list_text (small_item f) ∙ p.has ∙ sym has;
}

members_same : (fs : List Field) → EachType SameTexts fs → (xs : List Slot) → field_members (map small_field fs) xs ≡ field_members fs xs
members_same [] h [] = refl
members_same [] h (x ∷ xs) = refl
members_same (f ∷ fs) h [] = refl
members_same (f ∷ fs) h (x ∷ xs) = λ i. member f.name (slot_text (h.0.forms i) x) ∷ members_same fs h.1 xs i

ranges_same : (fs : List Field) → EachType SameTexts fs → (xs : List Slot) → all_in_range (map small_field fs) xs ≡ all_in_range fs xs
ranges_same [] h [] = refl
ranges_same [] h (x ∷ xs) = refl
ranges_same (f ∷ fs) h [] = refl
ranges_same (f ∷ fs) h (x ∷ xs) = λ i. slot_in_range (h.0.ranges i) x && ranges_same fs h.1 xs i

have_same : (fs : List Field) → EachType SameTexts fs → list_all (λ (f : Field). has_text f.data_type) (map small_field fs) ≡ list_all (λ (f : Field). has_text f.data_type) fs
have_same [] h = refl
have_same (f ∷ fs) h = λ i. h.0.has i && have_same fs h.1 i

struct_same : (fs : List Field) → EachType SameTexts fs → SameTexts (types.Struct fs)
struct_same fs h = record {
  forms = ap form (small_struct fs) ∙ struct_form (map small_field fs) ∙ (λ i. of_structs (λ xs. members_same fs h xs i)) ∙ sym (struct_form fs);
  ranges = ap range_of (small_struct fs) ∙ struct_range (map small_field fs) ∙ (λ i. structs_in (λ xs. ranges_same fs h xs i)) ∙ sym (struct_range fs);
  has = ap has_text (small_struct fs) ∙ struct_text (map small_field fs) ∙ have_same fs h ∙ sym (struct_text fs);
}

each_same : (fs : List Field) → EachType SameTexts fs
each_same = each_by_parts SameTexts flat_same
    (λ f p. listed_same (types.List f) f (small_list f) (list_form f) (list_range f) (list_text f) p)
    (λ f p. listed_same (types.LargeList f) f (small_large f) (large_form f) (large_range f) (large_list_text f) p)
    struct_same

-- ---- rows

abbrev pub types_of : List Field → List DataType
types_of = map (λ (f : Field). f.data_type)

names_same : (fs : List Field) → names_of (map small_field fs) ≡ names_of fs
names_same [] = refl
names_same (f ∷ fs) = ap (λ (z : List (List ℕ)). f.name ∷ z) (names_same fs)

row_same : (fs : List Field) → EachType SameTexts fs → (xs : List Slot) → texts (types_of (map small_field fs)) xs ≡ texts (types_of fs) xs
row_same [] h [] = refl
row_same [] h (x ∷ xs) = refl
row_same (f ∷ fs) h [] = refl
row_same (f ∷ fs) h (x ∷ xs) = λ i. slot_text (h.0.forms i) x ∷ row_same fs h.1 xs i

pub lines_same : (fs : List Field) (table : List (List Slot)) → lines (names_of (map small_field fs)) (types_of (map small_field fs)) table ≡ lines (names_of fs) (types_of fs) table
lines_same fs table = λ i. flat_map (λ row. object (members (names_same fs i) (row_same fs (each_same fs) row i)) ++ codes "\n") table

pub dates_same : (fs : List Field) (table : List (List Slot)) → list_all (all_in_range (map small_field fs)) table ≡ list_all (all_in_range fs) table
dates_same fs table = λ i. list_all (λ row. ranges_same fs (each_same fs) row i) table

have_texts : (fs : List Field) → EachType SameTexts fs → AllByRecursion (λ f. has_text f.data_type ≡ true) fs → AllByRecursion (λ f. has_text f.data_type ≡ true) (map small_field fs)
have_texts [] h all = tt
have_texts (f ∷ fs) h all = (h.0.has ∙ all.0, have_texts fs h.1 all.1)

pub small_texts : (fs : List Field) → All (λ f. has_text f.data_type ≡ true) fs → All (λ f. has_text f.data_type ≡ true) (map small_field fs)
small_texts fs all =
    All-from_recursion (λ f. has_text f.data_type ≡ true) (map small_field fs) (have_texts fs (each_same fs) (recursion_from_All (λ f. has_text f.data_type ≡ true) fs all))
