-- The columns of the members of fields, one after another, and their faults.
use Rattle.std.proofs.Common.{◌≡◌, ◌⊎◌, inl, inr, ℕ, zero, suc, ◌+◌, ◌<◌, ◌≤◌, Bool, true, false, ◌&&◌, List, [], ◌∷◌, ◌++◌, length, get_or, take, refl, sym, ap, ◌∙◌, subst, arith, Result, Ok, Err, IfOk, IfErr}
use Rattle.std.specs.List.{AllZip}
use Rattle.std.proofs.lemmas.List.{length-map, take_more}
use Rattle.arrow_array.specs.Arrays.{array_slots, array_type}
use Rattle.arrow_array.specs.Structs.{AreChildren}
use Rattle.arrow_array.specs.declared.array.Array.{Array}
use Rattle.arrow_core.specs.declared.error.Error.{Error}
use Rattle.arrow_core.specs.declared.error.Error.TheVariants.{NotYetImplemented, OutOfMemory, Overflow}
use Rattle.arrow_core.specs.declared.error.Reason.TheVariants.{TextTimestamp}
use Rattle.arrow_core.specs.declared.types.Field.{Field}
use Rattle.json_tree.specs.Tree.{Json}
use Rattle.json_tree.specs.declared.value.Value.{out-Value}
use Rattle.json_flat.specs.Meaning.{slot_of, text_timestamp}
use Rattle.json_flat.specs.Columns.{AreSlotsOf, IsNoSlot, means}
use Rattle.json_columns.specs.Faults.{AreMemberColumns, IsFault, IsFieldsFault, IsMemberColumn, IsMemberFault, IsStructFault, TooManyFields}
use Rattle.json_columns.specs.Gathered.{all_have_reading, are_objects, field_meanings, is_object, member_in, members_named, struct_has_reading}
use Rattle.json_flat.specs.Reading.{has_reading, reading, struct_in}
use Rattle.json_columns.proofs.Anywhere.{AnyOf, from_any, to_any}
use Rattle.json_columns.proofs.Rows.{text_in_structs, none_in_structs}

-- ---- columns

zip_more : {A B : Type 0} (R : A → B → Type 0) (xs : List A) (ys : List B) (x : A) (y : B) → AllZip R xs ys → R x y → AllZip R (xs ++ x ∷ []) (ys ++ y ∷ [])
zip_more R [] [] x y h p = (p, tt)
zip_more R [] (b ∷ ys) x y h p = absurd h
zip_more R (a ∷ xs) [] x y h p = absurd h
zip_more R (a ∷ xs) (b ∷ ys) x y h p = (h.0, zip_more R xs ys x y h.1 p)

zip_length : {A B : Type 0} (R : A → B → Type 0) (xs : List A) (ys : List B) → AllZip R xs ys → length ys ≡ length xs
zip_length R [] [] h = refl
zip_length R [] (b ∷ ys) h = absurd h
zip_length R (a ∷ xs) [] h = absurd h
zip_length R (a ∷ xs) (b ∷ ys) h = ap suc (zip_length R xs ys h.1)

-- the column of a field's members, and why there is none
pub member_column : (f : Field) (vs ws : List Json) (r : Result Array Error) → ws ≡ members_named f.name vs → IfOk r (λ a. array_type a ≡ f.data_type) → IfOk r (λ a. AreSlotsOf (reading f.data_type) ws (array_slots a)) → IfOk r (λ a. IsMemberColumn f vs (array_type a) (array_slots a))
member_column f vs ws (Ok a) e t s = (sym t, subst (λ l. AreSlotsOf (reading f.data_type) l (array_slots a)) e s)
member_column f vs ws (Err x) e t s = tt

pub member_fault : (f : Field) (vs ws : List Json) (r : Result Array Error) → ws ≡ members_named f.name vs → IfErr r (IsFault f.data_type ws) → IfErr r (IsMemberFault f vs)
member_fault f vs ws r e = subst (λ l. IfErr r (IsFault f.data_type l)) e

-- the column of one field more
pub one_column : (fs : List Field) (vs : List Json) (i : ℕ) (f : Field) (old new : List Array) (a : Array) → i < length fs → f ≡ get_or fs i f → AreMemberColumns (take i fs) vs old
    → IsMemberColumn f vs (array_type a) (array_slots a) → new ≡ old ++ a ∷ [] → AreMemberColumns (take (i + 1) fs) vs new
one_column fs vs i f old new a lt is h p e =
    let R : Field → Array → Type 0 = λ g b. IsMemberColumn g vs (array_type b) (array_slots b) in
    let fields : take (i + 1) fs ≡ take i fs ++ f ∷ [] = take_more fs i f lt ∙ ap (λ (g : Field). take i fs ++ g ∷ []) (sym is) in
    subst (λ l. AllZip R (take (i + 1) fs) l) (sym e) (subst (λ l. AllZip R l (old ++ a ∷ [])) (sym fields) (zip_more R (take i fs) old f a h p))

take_fields : (l : List Field) (n : ℕ) → length l ≤ n → take n l ≡ l
take_fields [] zero h = refl
take_fields [] (suc n) h = refl
take_fields (x ∷ l) zero h = absurd (omega (arith, h))
take_fields (x ∷ l) (suc n) h = ap (λ k. x ∷ k) (take_fields l n (omega (arith, h)))

pub all_columns : (fs : List Field) (vs : List Json) (i : ℕ) (columns : List Array) → length fs ≤ i → AreMemberColumns (take i fs) vs columns → AreMemberColumns fs vs columns
all_columns fs vs i columns le h = subst (λ l. AreMemberColumns l vs columns) (take_fields fs i le) h

-- the columns are children of a struct with a slot for each value
pub children : (fs : List Field) (vs : List Json) (n : ℕ) (columns : List Array) → n ≡ length vs → AreMemberColumns fs vs columns → AreChildren n fs columns
children [] vs n [] e h = tt
children [] vs n (a ∷ columns) e h = absurd h
children (f ∷ fs) vs n [] e h = absurd h
children (f ∷ fs) vs n (a ∷ columns) e h =
    let m : Json → Json = λ v. member_in f.name (out-Value v) in
    let long : length (array_slots a) ≡ n =
    omega (arith, e, length-map vs m, length-map (members_named f.name vs) (means (reading f.data_type)), length-map (array_slots a) slot_of, ap length h.0.1) in
    ((h.0.0, long), children fs vs n columns e h.1)

pub struct_children : (fs : List Field) (vs : List Json) (bs : List Bool) (columns : List Array) → bs ≡ are_objects vs → AreMemberColumns fs vs columns → AreChildren (length bs) fs columns
struct_children fs vs bs columns b h = children fs vs (length bs) columns (ap length b ∙ length-map vs (λ v. is_object (out-Value v))) h

-- there is one, where there is a field
pub some_column : (fs : List Field) (vs : List Json) (columns : List Array) → struct_has_reading fs ≡ true → AreMemberColumns fs vs columns → 0 < length columns
some_column [] vs columns r h = absurd cc
some_column (f ∷ fs) vs columns r h = omega (arith, zip_length (λ g b. IsMemberColumn g vs (array_type b) (array_slots b)) (f ∷ fs) columns h)

and_right : (a b : Bool) → (a && b) ≡ true → b ≡ true
and_right true b e = e
and_right false b e = absurd cc

and_left : (a b : Bool) → (a && b) ≡ true → a ≡ true
and_left true b e = refl
and_left false b e = absurd cc

pub readable_fields : (fs : List Field) → struct_has_reading fs ≡ true → all_have_reading fs ≡ true
readable_fields fs e = and_right _ (all_have_reading fs) e

pub readable_at : (fs : List Field) (i : ℕ) (f : Field) → i < length fs → f ≡ get_or fs i f → all_have_reading fs ≡ true → has_reading f.data_type ≡ true
readable_at [] i f lt is e = absurd (omega (arith, lt))
readable_at (g ∷ fs) zero f lt is e = ap (λ (x : Field). has_reading x.data_type) is ∙ and_left (has_reading g.data_type) (all_have_reading fs) e
readable_at (g ∷ fs) (suc i) f lt is e = readable_at fs i f (omega (arith, lt)) is (and_right (has_reading g.data_type) (all_have_reading fs) e)

-- ---- faults

pub field_fault : (fs : List Field) (vs : List Json) (i : ℕ) (f : Field) (e : Error) → i < length fs → f ≡ get_or fs i f → IsMemberFault f vs e → IsFieldsFault fs vs e
field_fault fs vs i f e lt is h = inr (i, f, lt, sym is, h)

abbrev TextAmong : List Field → List Json → Type 0
TextAmong fs vs = AnyOf (λ (f : Field). AnyOf (λ w. means (reading f.data_type) w ≡ text_timestamp) (members_named f.name vs)) fs

abbrev NoneAmong : List Field → List Json → Type 0
NoneAmong fs vs = AnyOf (λ (f : Field). AnyOf (λ w. IsNoSlot (means (reading f.data_type) w)) (members_named f.name vs)) fs

told : (fs : List Field) (vs : List Json) (e : Error) → AnyOf (λ f. IsMemberFault f vs e) fs
    → (e ≡ OutOfMemory) ⊎ (((e ≡ NotYetImplemented TextTimestamp) × TextAmong fs vs) ⊎ ((e ≡ Overflow) × (NoneAmong fs vs ⊎ TooManyFields fs vs)))
told [] vs e h = absurd h
told (f ∷ fs) vs e (inl (inl m)) = inl m
told (f ∷ fs) vs e (inl (inr (inl h))) = inr (inl (h.0, inl (from_any (λ w. means (reading f.data_type) w ≡ text_timestamp) (members_named f.name vs) h.1)))
told (f ∷ fs) vs e (inl (inr (inr h))) = inr (inr (
  h.0,
  elim h.1 [
    | inl a ↦ inl (inl (from_any (λ w. IsNoSlot (means (reading f.data_type) w)) (members_named f.name vs) a))
    | inr b ↦ inr (inl b)
  ],
))
told (f ∷ fs) vs e (inr h) = elim (told fs vs e h) [
  | inl m ↦ inl m
  | inr r ↦ inr (elim r [
    | inl t ↦ inl (t.0, inr t.1)
    | inr o ↦ inr (o.0, elim o.1 [ inl a ↦ inl (inr a) | inr b ↦ inr (inr b) ])
  ])
]

-- a fault of the members is one of the structs
pub members_fault : (fs : List Field) (vs : List Json) (e : Error) → IsFieldsFault fs vs e → IsStructFault fs vs e
members_fault fs vs e (inl m) = inl m
members_fault fs vs e (inr h) = elim (told fs vs e (from_any (λ f. IsMemberFault f vs e) fs h)) [
  | inl m ↦ inl m
  | inr r ↦ inr (elim r [
    | inl t ↦ inl (t.0, to_any (λ v. means (struct_in (field_meanings fs)) v ≡ text_timestamp) vs (text_in_structs fs vs t.1))
    | inr o ↦ inr (
      o.0,
      elim o.1 [
        | inl a ↦ inl (to_any (λ v. IsNoSlot (means (struct_in (field_meanings fs)) v)) vs (none_in_structs fs vs a))
        | inr b ↦ inr b
      ],
    )
  ])
]
