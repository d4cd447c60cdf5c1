-- The definitions at lists and structs, in terms of the fields that code sees.
use Rattle.std.proofs.Common.{◌≡◌, ◌∙◌, ◌⊎◌, ℕ, zero, suc, ◌<◌, Bool, true, false, not, ◌&&◌, eqb, List, [], ◌∷◌, length, refl, sym, ap, subst, arith, Result, IfOk, IfErr}
use Rattle.std.proofs.lemmas.Result.{IfErr-weaker}
use Rattle.arrow_array.specs.Arrays.{array_slots}
use Rattle.arrow_array.specs.declared.array.Array.{Array}
use Rattle.arrow_core.specs.declared.error.Error.{Error}
use Rattle.std.proofs.lemmas.Bool.Decides.{nat_tests}
use Rattle.arrow_core.specs.declared.types.Field.{Field}
use Rattle.arrow_core.specs.declared.types.DataType.{DataType}
use Rattle.arrow_core.specs.declared.types.IntegerType.{IntegerType}
use Rattle.arrow_core.specs.declared.types.DataType.TheVariants as types
use Rattle.arrow_core.specs.declared.types.DataType.TheBlock.{shape-the_row-Field-0, hidden-the_row-Field-0, shape-the_row-Field-1, hidden-the_row-Field-1, hidden-the_row-DataType-2}
use Rattle.json_tree.specs.Tree.{Json, or_null}
use Rattle.json_tree.specs.Keys.{value_of}
use Rattle.json_flat.specs.Meaning.{Meaning, Layer}
use Rattle.json_flat.specs.Columns.{AreSlotsOf, IsColumnFault, means}
use Rattle.arrow_array.specs.Dictionaries.{IsDictionaryOf}
use Rattle.json_columns.specs.Dictionaries.{TooManyDistinct}
use Rattle.json_columns.specs.Faults.{IsFault, IsListFault, IsSizedFault, IsStructFault, TooMany, TooManyFields, TooManyListed, TooManyMembers}
use Rattle.json_columns.specs.Gathered.{all_have_reading, field_meanings, members_named, struct_has_reading}
use Rattle.json_flat.specs.Reading.{has_field, has_reading, have_reading, is_value_type, list_in, member_meanings, reading, sized_list_in, struct_in}

-- ---- lists

pub list_reading : (f : Field) → reading (types.List f) ≡ list_in (means (reading f.data_type))
unfolding shape-the_row-Field-0 hidden-the_row-Field-0 denote.Hole.Carrier.hidden
list_reading f = refl

pub large_list_reading : (f : Field) → reading (types.LargeList f) ≡ list_in (means (reading f.data_type))
unfolding shape-the_row-Field-0 hidden-the_row-Field-0 denote.Hole.Carrier.hidden
large_list_reading f = refl

pub list_too_many : (f : Field) (vs : List Json) → TooMany (types.List f) vs ≡ TooManyListed false f vs
unfolding shape-the_row-Field-0 hidden-the_row-Field-0 denote.Hole.Carrier.hidden
list_too_many f vs = refl

pub large_list_too_many : (f : Field) (vs : List Json) → TooMany (types.LargeList f) vs ≡ TooManyListed true f vs
unfolding shape-the_row-Field-0 hidden-the_row-Field-0 denote.Hole.Carrier.hidden
large_list_too_many f vs = refl

and_true : (b : Bool) → (b && true) ≡ b
and_true true = refl
and_true false = refl

pub list_readable : (f : Field) → has_reading (types.List f) ≡ has_reading f.data_type
unfolding shape-the_row-Field-0 hidden-the_row-Field-0 denote.Hole.Carrier.hidden
list_readable f = and_true (has_reading f.data_type)

pub large_list_readable : (f : Field) → has_reading (types.LargeList f) ≡ has_reading f.data_type
unfolding shape-the_row-Field-0 hidden-the_row-Field-0 denote.Hole.Carrier.hidden
large_list_readable f = and_true (has_reading f.data_type)

-- ---- structs

row_meanings : (fs : List Field) (ms : List (List ℕ × Json)) → member_meanings (hidden-the_row-Field-1 fs) ms ≡ field_meanings fs ms
unfolding shape-the_row-Field-1 hidden-the_row-Field-1 denote.Hole.Carrier.hidden
row_meanings [] ms = refl
row_meanings (f ∷ fs) ms = ap (λ (more : List Meaning). means (reading f.data_type) (or_null (value_of f.name ms)) ∷ more) (row_meanings fs ms)

pub struct_reading : (fs : List Field) → reading (types.Struct fs) ≡ struct_in (field_meanings fs)
unfolding shape-the_row-Field-1 hidden-the_row-Field-1 denote.Hole.Carrier.hidden
struct_reading fs = λ i. struct_in (λ ms. row_meanings fs ms i)

row_many : (fs : List Field) (vs : List Json) → TooManyMembers (hidden-the_row-Field-1 fs) vs ≡ TooManyFields fs vs
unfolding shape-the_row-Field-1 hidden-the_row-Field-1 denote.Hole.Carrier.hidden
row_many [] vs = refl
row_many (f ∷ fs) vs = λ i. TooMany f.data_type (members_named f.name vs) ⊎ row_many fs vs i

pub struct_too_many : (fs : List Field) (vs : List Json) → TooMany (types.Struct fs) vs ≡ TooManyFields fs vs
unfolding shape-the_row-Field-1 hidden-the_row-Field-1 denote.Hole.Carrier.hidden
struct_too_many fs vs = row_many fs vs

row_readable : (fs : List Field) → have_reading (hidden-the_row-Field-1 fs) ≡ all_have_reading fs
unfolding shape-the_row-Field-1 hidden-the_row-Field-1 denote.Hole.Carrier.hidden
row_readable [] = refl
row_readable (f ∷ fs) = ap (λ z. has_reading f.data_type && z) (row_readable fs)

row_filled : (fs : List Field) → has_field (hidden-the_row-Field-1 fs) ≡ not (eqb (length fs) 0)
unfolding shape-the_row-Field-1 hidden-the_row-Field-1 denote.Hole.Carrier.hidden
row_filled [] = refl
row_filled (f ∷ fs) = some (length fs)
  where
    some : (n : ℕ) → true ≡ not (eqb (suc n) 0)
    some n = grind (arith, nat_tests)

pub struct_readable : (fs : List Field) → has_reading (types.Struct fs) ≡ struct_has_reading fs
unfolding shape-the_row-Field-1 hidden-the_row-Field-1 denote.Hole.Carrier.hidden
struct_readable fs = λ i. (row_filled fs i && row_readable fs i)

-- ---- columns

module _ (f : Field) (vs : List Json) where
  list_fault_is : (e : Error) → IsListFault false f vs e → IsFault (types.List f) vs e
  unfolding shape-the_row-Field-0 hidden-the_row-Field-0 denote.Hole.Carrier.hidden
  list_fault_is e h = h

  large_list_fault_is : (e : Error) → IsListFault true f vs e → IsFault (types.LargeList f) vs e
  unfolding shape-the_row-Field-0 hidden-the_row-Field-0 denote.Hole.Carrier.hidden
  large_list_fault_is e h = h

struct_fault_is : (fs : List Field) (vs : List Json) (e : Error) → IsStructFault fs vs e → IsFault (types.Struct fs) vs e
struct_fault_is fs vs e h =
    subst (λ (r : Layer → Meaning). IsColumnFault r (TooMany (types.Struct fs) vs) vs e) (sym (struct_reading fs))
    (subst (λ (many : Type 0). IsColumnFault (struct_in (field_meanings fs)) many vs e) (sym (struct_too_many fs vs)) h)

module _ (t : DataType) (f : Field) (vs : List Json) (r : Result Array Error) where
  pub list_err : t ≡ types.List f → IfErr r (IsListFault false f vs) → IfErr r (IsFault t vs)
  list_err e h = subst (λ z. IfErr r (IsFault z vs)) (sym e) (IfErr-weaker r (IsListFault false f vs) (IsFault (types.List f) vs) (list_fault_is f vs) h)

  pub large_list_err : t ≡ types.LargeList f → IfErr r (IsListFault true f vs) → IfErr r (IsFault t vs)
  large_list_err e h = subst (λ z. IfErr r (IsFault z vs)) (sym e) (IfErr-weaker r (IsListFault true f vs) (IsFault (types.LargeList f) vs) (large_list_fault_is f vs) h)

  pub list_ok : t ≡ types.List f → IfOk r (λ a. AreSlotsOf (list_in (means (reading f.data_type))) vs (array_slots a)) → IfOk r (λ a. AreSlotsOf (reading t) vs (array_slots a))
  list_ok e h = subst (λ (q : Layer → Meaning). IfOk r (λ a. AreSlotsOf q vs (array_slots a))) (sym (ap reading e ∙ list_reading f)) h

  pub large_list_ok : t ≡ types.LargeList f → IfOk r (λ a. AreSlotsOf (list_in (means (reading f.data_type))) vs (array_slots a)) → IfOk r (λ a. AreSlotsOf (reading t) vs (array_slots a))
  large_list_ok e h = subst (λ (q : Layer → Meaning). IfOk r (λ a. AreSlotsOf q vs (array_slots a))) (sym (ap reading e ∙ large_list_reading f)) h

module _ (t : DataType) (fs : List Field) (vs : List Json) (r : Result Array Error) where
  pub struct_err : t ≡ types.Struct fs → IfErr r (IsStructFault fs vs) → IfErr r (IsFault t vs)
  struct_err e h = subst (λ z. IfErr r (IsFault z vs)) (sym e) (IfErr-weaker r (IsStructFault fs vs) (IsFault (types.Struct fs) vs) (struct_fault_is fs vs) h)

  pub struct_ok : t ≡ types.Struct fs → IfOk r (λ a. AreSlotsOf (struct_in (field_meanings fs)) vs (array_slots a)) → IfOk r (λ a. AreSlotsOf (reading t) vs (array_slots a))
  struct_ok e h = subst (λ (q : Layer → Meaning). IfOk r (λ a. AreSlotsOf q vs (array_slots a))) (sym (ap reading e ∙ struct_reading fs)) h

pub list_item_readable : (t : DataType) (f : Field) → t ≡ types.List f → has_reading t ≡ true → has_reading f.data_type ≡ true
list_item_readable t f e h = sym (ap has_reading e ∙ list_readable f) ∙ h

pub large_list_item_readable : (t : DataType) (f : Field) → t ≡ types.LargeList f → has_reading t ≡ true → has_reading f.data_type ≡ true
large_list_item_readable t f e h = sym (ap has_reading e ∙ large_list_readable f) ∙ h

pub struct_fields_readable : (t : DataType) (fs : List Field) → t ≡ types.Struct fs → has_reading t ≡ true → struct_has_reading fs ≡ true
struct_fields_readable t fs e h = sym (ap has_reading e ∙ struct_readable fs) ∙ h

-- ---- fixed-size lists

pub sized_reading : (f : Field) (n : ℕ) → reading (types.FixedSizeList f n) ≡ sized_list_in n (means (reading f.data_type))
unfolding shape-the_row-Field-0 hidden-the_row-Field-0 denote.Hole.Carrier.hidden
sized_reading f n = refl

pub sized_readable : (f : Field) (n : ℕ) → has_reading (types.FixedSizeList f n) ≡ (not (eqb n 0) && has_reading f.data_type)
unfolding shape-the_row-Field-0 hidden-the_row-Field-0 denote.Hole.Carrier.hidden
sized_readable f n = ap (λ b. not (eqb n 0) && b) (and_true (has_reading f.data_type))

sized_fault_is : (f : Field) (n : ℕ) (vs : List Json) (e : Error) → IsSizedFault n f vs e → IsFault (types.FixedSizeList f n) vs e
unfolding shape-the_row-Field-0 hidden-the_row-Field-0 denote.Hole.Carrier.hidden
sized_fault_is f n vs e h = h

both : (a b : Bool) → (a && b) ≡ true → (a ≡ true) × (b ≡ true)
both true b e = (refl, e)
both false b e = absurd cc

filled : (n : ℕ) → not (eqb n 0) ≡ true → 0 < n
filled zero e = absurd cc
filled (suc n) e = omega arith

module _ (t : DataType) (f : Field) (n : ℕ) (e : t ≡ types.FixedSizeList f n) where
  pub sized_item : has_reading t ≡ true → (0 < n) × (has_reading f.data_type ≡ true)
  sized_item h =
      let p = both (not (eqb n 0)) (has_reading f.data_type) (sym (ap has_reading e ∙ sized_readable f n) ∙ h) in
      (filled n p.0, p.1)

  pub sized_err : (vs : List Json) (r : Result Array Error) → IfErr r (IsSizedFault n f vs) → IfErr r (IsFault t vs)
  sized_err vs r h = subst (λ z. IfErr r (IsFault z vs)) (sym e) (IfErr-weaker r (IsSizedFault n f vs) (IsFault (types.FixedSizeList f n) vs) (sized_fault_is f n vs) h)

  pub sized_ok : (vs : List Json) (r : Result Array Error) → IfOk r (λ a. AreSlotsOf (sized_list_in n (means (reading f.data_type))) vs (array_slots a)) → IfOk r (λ a. AreSlotsOf (reading t) vs (array_slots a))
  sized_ok vs r h = subst (λ (q : Layer → Meaning). IfOk r (λ a. AreSlotsOf q vs (array_slots a))) (sym (ap reading e ∙ sized_reading f n)) h

-- ---- dictionaries

pub dictionary_reading : (key : IntegerType) (t : DataType) (b : Bool) → reading (types.Dictionary key t b) ≡ reading t
unfolding hidden-the_row-DataType-2 denote.Hole.Carrier.hidden
dictionary_reading key t b = refl

pub dictionary_readable : (key : IntegerType) (t : DataType) (b : Bool) → has_reading (types.Dictionary key t b) ≡ is_value_type t
unfolding hidden-the_row-DataType-2 denote.Hole.Carrier.hidden
dictionary_readable key t b = refl

dictionary_fault_is : (key : IntegerType) (t : DataType) (b : Bool) (vs : List Json) (e : Error) → IsColumnFault (reading t) (TooManyDistinct key t vs) vs e → IsFault (types.Dictionary key t b) vs e
unfolding hidden-the_row-DataType-2 denote.Hole.Carrier.hidden
dictionary_fault_is key t b vs e h = h

module _ (d t : DataType) (key : IntegerType) (h : IsDictionaryOf key d t) where
  pub dictionary_item : has_reading d ≡ true → is_value_type t ≡ true
  dictionary_item r = sym (ap has_reading h.1 ∙ dictionary_readable key t h.0) ∙ r

  pub dictionary_err : (vs : List Json) (r : Result Array Error) → IfErr r (IsColumnFault (reading t) (TooManyDistinct key t vs) vs) → IfErr r (IsFault d vs)
  dictionary_err vs r k =
      subst (λ z. IfErr r (IsFault z vs)) (sym h.1) (IfErr-weaker r (IsColumnFault (reading t) (TooManyDistinct key t vs) vs) (IsFault (types.Dictionary key t h.0) vs) (dictionary_fault_is key t h.0 vs) k)

  pub dictionary_ok : (vs : List Json) (r : Result Array Error) → IfOk r (λ a. AreSlotsOf (reading t) vs (array_slots a)) → IfOk r (λ a. AreSlotsOf (reading d) vs (array_slots a))
  dictionary_ok vs r k = subst (λ (q : Layer → Meaning). IfOk r (λ a. AreSlotsOf q vs (array_slots a))) (sym (ap reading h.1 ∙ dictionary_reading key t h.0)) k
