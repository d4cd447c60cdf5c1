-- Where nothing is more than a column can count.
use Rattle.std.proofs.Common.{◌≡◌, ◌∙◌, ◌⊎◌, inl, inr, ℕ, ◌+◌, ◌<◌, ◌≤◌, Bool, List, [], ◌∷◌, ◌++◌, length, get_or, take, map, refl, sym, ap, subst, arith, Result, Ok, Err, OnOk}
use Rattle.std.specs.Borrow.{Bor}
use Rattle.std.proofs.lemmas.List.{take_all, take_more}
use Rattle.arrow_core.specs.declared.error.Error.{Error}
use Rattle.arrow_dictionaries.specs.Encoding.{HasTooManyDistinct}
use Rattle.arrow_core.specs.Numbers.{greatest_offset}
use Rattle.arrow_core.specs.Layouts.{physical_type}
use Rattle.arrow_core.specs.declared.physical.PhysicalType.TheVariants as physical
use Rattle.arrow_core.specs.declared.physical.PrimitiveType.{PrimitiveType}
use Rattle.arrow_core.specs.declared.slot.Slot.{Slot}
use Rattle.arrow_core.specs.declared.types.DataType.{DataType, Binary, LargeBinary, Utf8, LargeUtf8, List', FixedSizeList', LargeList', Struct', Dictionary'}
use Rattle.arrow_core.specs.declared.types.DataType.TheBlock.{shape-the_row-Field-0, hidden-the_row-Field-0, hidden-the_row-DataType-2}
use Rattle.arrow_core.specs.declared.types.DataType.TheVariants as types
use Rattle.arrow_core.specs.declared.types.Field.{Field}
use Rattle.arrow_core.specs.declared.types.IntegerType.{IntegerType}
use Rattle.json_tree.specs.Tree.{Json}
use Rattle.json_flat.specs.Meaning.{Layer, Meaning, slot_of}
use Rattle.json_flat.specs.Columns.{AreSlotsOf, lent}
use Rattle.json_columns.specs.Dictionaries.{AreTooMany, TooManyDistinct}
use Rattle.json_columns.specs.Faults.{TooMany, TooManyFields, TooManyListed}
use Rattle.json_columns.specs.Gathered.{all_items, all_sized, members_named}
use Rattle.json_columns.proofs.Gathering.{all_lent, items_length}

pub sized_too_many : (f : Field) (n : ℕ) (vs : List Json) → TooMany (types.FixedSizeList f n) vs ≡ TooMany f.data_type (all_sized n vs)
unfolding shape-the_row-Field-0 hidden-the_row-Field-0 denote.Hole.Carrier.hidden
sized_too_many f n vs = refl

pub dictionary_too_many : (key : IntegerType) (t : DataType) (b : Bool) (vs : List Json) → TooMany (types.Dictionary key t b) vs ≡ TooManyDistinct key t vs
unfolding hidden-the_row-DataType-2 denote.Hole.Carrier.hidden
dictionary_too_many key t b vs = refl

-- values that lie in memory as numbers are never too many
pub few_plain : (p : PrimitiveType) (t : DataType) (vs : List Json) → physical_type t ≡ physical.Primitive p → TooMany t vs → ⊥
few_plain p Utf8 vs e many = absurd cc
few_plain p LargeUtf8 vs e many = absurd cc
few_plain p Binary vs e many = absurd cc
few_plain p LargeBinary vs e many = absurd cc
few_plain p (List' shape item) vs e many = absurd cc
few_plain p (LargeList' shape item) vs e many = absurd cc
few_plain p (FixedSizeList' shape item size) vs e many = absurd cc
few_plain p (Struct' shape fields) vs e many = absurd cc
few_plain p (Dictionary' key shape value is_sorted) vs e many = absurd cc
few_plain p _ vs e many = absurd many

-- ---- one result

module _ {A : Type 0} (r : Result A Error) where
  pub always : (P : Type 0) → P → OnOk r P
  always P p = all r
    where
      all : (r : Result A Error) → OnOk r P
      all (Ok a) = p
      all (Err e) = tt

  -- the same said otherwise
  pub not_as : (P Q : Type 0) → P ≡ Q → OnOk r (Q → ⊥) → OnOk r (P → ⊥)
  not_as P Q e h = subst (λ (X : Type 0). OnOk r (X → ⊥)) (sym e) h

-- ---- items that offsets count

pub all_within : (greatest : ℕ) (vs : List (Bor Json)) (i : ℕ) (items : List (Bor Json)) → length vs ≤ i → lent items ≡ all_items (lent (take i vs)) → length items ≤ greatest → length (all_items (lent vs)) ≤ greatest
all_within greatest vs i items le e within =
    let all : lent items ≡ all_items (lent vs) = all_lent all_items vs i (lent items) le e in
    omega (arith, within, items_length (lent vs) items all)

-- ---- lists

pub few_listed : (is_large : Bool) (f : Field) (vs ws : List Json) → ws ≡ all_items vs → length (all_items vs) ≤ greatest_offset is_large → (TooMany f.data_type ws → ⊥) → TooManyListed is_large f vs → ⊥
few_listed is_large f vs ws e l few (inl over) = absurd (omega (arith, l, over))
few_listed is_large f vs ws e l few (inr many) = few (subst (TooMany f.data_type) (sym e) many)

pub few_of : (t : DataType) (vs ws : List Json) → ws ≡ vs → (TooMany t ws → ⊥) → TooMany t vs → ⊥
few_of t vs ws e few many = few (subst (TooMany t) (sym e) many)

-- ---- fields

fields_append : (fs gs : List Field) (vs : List Json) → TooManyFields (fs ++ gs) vs → TooManyFields fs vs ⊎ TooManyFields gs vs
fields_append [] gs vs many = inr many
fields_append (f ∷ fs) gs vs (inl many) = inl (inl many)
fields_append (f ∷ fs) gs vs (inr many) = elim (fields_append fs gs vs many) [ inl a ↦ inl (inr a) | inr b ↦ inr b ]

one_field : (f : Field) (vs : List Json) → TooManyFields (f ∷ []) vs → TooMany f.data_type (members_named f.name vs)
one_field f vs (inl many) = many
one_field f vs (inr many) = absurd many

-- the fields so far, and one more
pub few_more : (fs : List Field) (vs : List Json) (i : ℕ) (f : Field) → i < length fs → f ≡ get_or fs i f → (TooManyFields (take i fs) vs → ⊥) → (TooMany f.data_type (members_named f.name vs) → ⊥) → TooManyFields (take (i + 1) fs) vs → ⊥
few_more fs vs i f lt is few one many =
    let fields : take (i + 1) fs ≡ take i fs ++ f ∷ [] = take_more fs i f lt ∙ ap (λ (g : Field). take i fs ++ g ∷ []) (sym is) in
    elim (fields_append (take i fs) (f ∷ []) vs (subst (λ l. TooManyFields l vs) fields many)) [ inl a ↦ few a | inr b ↦ one (one_field f vs b) ]

pub few_fields : (fs : List Field) (vs : List Json) (i : ℕ) → length fs ≤ i → (TooManyFields (take i fs) vs → ⊥) → TooManyFields fs vs → ⊥
few_fields fs vs i le few = subst (λ l. TooManyFields l vs → ⊥) (take_all i fs le) few

-- ---- dictionaries

same_slots : (xs ys : List Slot) → map slot_of xs ≡ map slot_of ys → xs ≡ ys
same_slots [] [] e = refl
same_slots [] (y ∷ ys) e = absurd cc
same_slots (x ∷ xs) [] e = absurd cc
same_slots (x ∷ xs) (y ∷ ys) e =
    let first : x ≡ y = cc in
    let others : map slot_of xs ≡ map slot_of ys = cc in
    λ i. first i ∷ same_slots xs ys others i

few_slots : (r : Layer → Meaning) (key : IntegerType) (long : List Slot → Type 0) (all : Type 0) (vs : List Json) (slots : List Slot) → AreSlotsOf r vs slots → (HasTooManyDistinct key slots → ⊥) → (long slots → ⊥) → (all → ⊥)
    → AreTooMany r key long all vs → ⊥
few_slots r key long all vs slots h few short short_all (inl many) =
    let same : many.0 ≡ slots = same_slots many.0 slots (sym many.1 ∙ h) in
    elim (subst (λ z. HasTooManyDistinct key z ⊎ long z) same many.2) [ inl a ↦ few a | inr b ↦ short b ]
few_slots r key long all vs slots h few short short_all (inr a) = short_all a

-- the slots of an array that was read are encoded
pub few_encoded : {A : Type 0} (r : Layer → Meaning) (key : IntegerType) (long : List Slot → Type 0) (all : Type 0) (vs : List Json) (slots : List Slot) (a : Result A Error) → AreSlotsOf r vs slots
    → OnOk a (HasTooManyDistinct key slots → ⊥) → OnOk a (long slots → ⊥) → (all → ⊥) → OnOk a (AreTooMany r key long all vs → ⊥)
few_encoded r key long all vs slots (Ok x) h few short short_all = few_slots r key long all vs slots h few short short_all
few_encoded r key long all vs slots (Err e) h few short short_all = tt
