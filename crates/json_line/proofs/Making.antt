-- Names and builders that are made, one after another.
use Rattle.std.proofs.Common.{◌≡◌, ◌∙◌, ℕ, zero, suc, ◌+◌, ◌<◌, ◌≤◌, ◌&&◌, Bool, true, false, List, [], ◌∷◌, ◌++◌, length, get_or, map, take, refl, sym, ap, subst, arith}
use Rattle.std.proofs.lemmas.List.{map-append, take_more}
use Rattle.arrow_builders.specs.Children.{fields_of}
use Rattle.arrow_builders.specs.Shapes.{Shape, fixed_lists, lists, records, shape}
use Rattle.arrow_builders.specs.declared.array.MutableArray.{MutableArray, List as ListOf, LargeList as LargeListOf, FixedSizeList as SizedListOf, Struct}
use Rattle.arrow_builders.specs.declared.list.DynMutableListArray.{DynMutableListArray}
use Rattle.arrow_builders.specs.declared.large_list.DynMutableLargeListArray.{DynMutableLargeListArray}
use Rattle.arrow_builders.specs.declared.fixed_size_list.MutableFixedSizeListArray.{MutableFixedSizeListArray}
use Rattle.arrow_builders.specs.declared.structs.DynMutableStructArray.{DynMutableStructArray}
use Rattle.arrow_builders.proofs.Rows.{shape-record}
use Rattle.arrow_core.specs.declared.physical.PhysicalType.TheVariants as physical
use Rattle.arrow_core.specs.declared.types.DataType.{DataType}
use Rattle.arrow_core.specs.declared.types.Field.{Field}
use Rattle.json_line.specs.declared.field_names.FieldNames.{FieldNames}
use Rattle.json_line.specs.Builders.{line_shape, shapes_of, AllSuit, Suits}
use Rattle.json_line.specs.Lines.{have_line_readings}
use Rattle.json_line.specs.Types.{has_line_reading}
use Rattle.json_line.proofs.Suited.{suits_push}

-- ---- builders of lists and of structs

pub list_made : (b : DynMutableListArray) (t : DataType) (v : MutableArray) → b.lists.data_type ≡ t → b.values.value ≡ v → shape (ListOf b) ≡ lists physical.List t (shape v)
list_made b t v e d =
    ap (λ (x : DataType). lists physical.List x (shape b.values.value)) e ∙ ap (λ (x : MutableArray). lists physical.List t (shape x)) d

pub large_list_made : (b : DynMutableLargeListArray) (t : DataType) (v : MutableArray) → b.lists.data_type ≡ t → b.values.value ≡ v → shape (LargeListOf b) ≡ lists physical.LargeList t (shape v)
large_list_made b t v e d =
    ap (λ (x : DataType). lists physical.LargeList x (shape b.values.value)) e ∙ ap (λ (x : MutableArray). lists physical.LargeList t (shape x)) d

pub sized_list_made : (b : MutableFixedSizeListArray) (t : DataType) (v : MutableArray) → b.marks.data_type ≡ t → b.values.value ≡ v → shape (SizedListOf b) ≡ fixed_lists t (shape v)
sized_list_made b t v e d =
    ap (λ (x : DataType). fixed_lists x (shape b.values.value)) e ∙ ap (λ (x : MutableArray). fixed_lists t (shape x)) d

pub ruleset new_lists = (list_made, large_list_made, sized_list_made)

pub struct_made : (b : DynMutableStructArray) (t : DataType) (vs : List MutableArray) → b.marks.data_type ≡ t → b.values.items ≡ vs → shape (Struct b) ≡ records t (fields_of (map shape vs))
struct_made b t vs e d =
    shape-record b ∙ ap (λ (x : DataType). records x (fields_of (map shape b.values.items))) e ∙ ap (λ (xs : List MutableArray). records t (fields_of (map shape xs))) d

pub ruleset new_structs = (struct_made)

-- ---- one after another

and-first : (a b : Bool) → (a && b) ≡ true → a ≡ true
and-first true b e = refl
and-first false b e = absurd cc

and-second : (a b : Bool) → (a && b) ≡ true → b ≡ true
and-second true b e = e
and-second false b e = absurd cc

pub readable-at : (fs : List Field) (i : ℕ) (f : Field) → i < length fs → f ≡ get_or fs i f → have_line_readings fs ≡ true → has_line_reading f.data_type ≡ true
readable-at [] i f lt is e = absurd (omega (arith, lt))
readable-at (g ∷ fs) zero f lt is e = ap (λ (x : Field). has_line_reading x.data_type) is ∙ and-first (has_line_reading g.data_type) (have_line_readings fs) e
readable-at (g ∷ fs) (suc i) f lt is e = readable-at fs i f (omega (arith, lt)) is (and-second (has_line_reading g.data_type) (have_line_readings fs) e)

pub taken-all : {A : Type 0} (xs : List A) (n : ℕ) → length xs ≤ n → take n xs ≡ xs
taken-all [] zero h = refl
taken-all [] (suc n) h = refl
taken-all (x ∷ xs) zero h = absurd (omega (arith, h))
taken-all (x ∷ xs) (suc n) h = ap (λ ys. x ∷ ys) (taken-all xs n (omega (arith, h)))

shapes-more : (fs : List Field) (i : ℕ) (f : Field) → i < length fs → f ≡ get_or fs i f → shapes_of (take (i + 1) fs) ≡ shapes_of (take i fs) ++ line_shape f.data_type ∷ []
shapes-more fs i f lt is =
    ap shapes_of (take_more fs i f lt ∙ ap (λ (x : Field). take i fs ++ x ∷ []) (sym is)) ∙ map-append (λ (x : Field). line_shape x.data_type) (take i fs) (f ∷ [])

module _ (fs : List Field) (i : ℕ) (f : Field) (lt : i < length fs) (is : f ≡ get_or fs i f) where
  -- a builder more
  pub made-more : (made after : List MutableArray) (b : MutableArray) → shape b ≡ line_shape f.data_type → after ≡ made ++ b ∷ [] → map shape made ≡ shapes_of (take i fs) → map shape after ≡ shapes_of (take (i + 1) fs)
  made-more made after b e n so_far =
      ap (map shape) n ∙ map-append shape made (b ∷ []) ∙ (λ k. so_far k ++ e k ∷ []) ∙ sym (shapes-more fs i f lt is)

  -- names more
  pub names-more : (made after : List FieldNames) (n : FieldNames) → Suits n (line_shape f.data_type) → after ≡ made ++ n ∷ [] → AllSuit made (fields_of (shapes_of (take i fs))) → AllSuit after (fields_of (shapes_of (take (i + 1) fs)))
  names-more made after n s e so_far =
      subst (λ (ns : List FieldNames). AllSuit ns (fields_of (shapes_of (take (i + 1) fs)))) (sym e)
      (subst (λ (ss : List Shape). AllSuit (made ++ n ∷ []) (fields_of ss)) (sym (shapes-more fs i f lt is)) (suits_push made (shapes_of (take i fs)) n (line_shape f.data_type) so_far s))

pub names-ended : (fs : List Field) (i : ℕ) (made : List FieldNames) → length fs ≤ i → AllSuit made (fields_of (shapes_of (take i fs))) → AllSuit made (fields_of (shapes_of fs))
names-ended fs i made le h = subst (λ (xs : List Field). AllSuit made (fields_of (shapes_of xs))) (taken-all fs i le) h
