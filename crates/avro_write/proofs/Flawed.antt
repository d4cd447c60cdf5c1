-- Which flaws slots show, in terms of the lists of members and of fields.
use Rattle.std.proofs.Common.{◌≡◌, ◌∙◌, ℕ, zero, suc, ◌+◌, ◌-◌, ◌<◌, ◌≤◌, Bool, true, false, not, ◌&&◌, ◌||◌, List, [], ◌∷◌, length, map, take, drop, get_or, Option, Some, None, refl, sym, ap, subst, arith}
use Rattle.std.specs.List.{list_any}
use Rattle.arrow_core.specs.declared.slot.Slot.{Slot, Null, Boolean, Integer, String, Binary, List', Struct'}
use Rattle.arrow_core.specs.declared.slot.Slot as the_slot
use Rattle.arrow_core.specs.declared.slot.Slot.TheVariants as slot
use Rattle.avro_schema.specs.declared.schema.AvroField.{AvroField}
use Rattle.avro_schema.specs.declared.schema.FixedLogical.{FixedLogical}
use Rattle.avro_schema.specs.declared.schema.FixedLogical.TheVariants as fixed_logical
use Rattle.avro_schema.specs.declared.schema.Record.{Record as TheRecord, Record', out-Record, Row_of-AvroField, end_of-AvroField, more_of-AvroField, items-the_row-AvroField}
use Rattle.avro_schema.specs.declared.schema.Schema.{Schema, Record, Array, Union, Array' as ArraySchema', Union' as UnionSchema', Fixed}
use Rattle.avro_schema.specs.declared.schema.Fixed.{Fixed as TheFixed}
use Rattle.avro_schema.specs.declared.schema.Schema.{out-Schema, roll-Schema, roll-out-Schema}
use Rattle.avro_schema.specs.declared.schema.Schema.TheOpen as layer
use Rattle.avro_schema.specs.declared.schema.Schema.TheVariants as variant
use Rattle.avro_schema.specs.declared.schema.Schema.TheBlock.{shape-the_row-Schema-0, hidden-the_row-Schema-0, shape-the_row-Schema-1, hidden-the_row-Schema-1}
use Rattle.arrow_array.specs.Slots.{is_held, slot_at}
use Rattle.std.proofs.Common.{inl, inr, get_or-drop}
use Rattle.std.proofs.lemmas.Bool.{cases_lt}
use Rattle.avro_encode.proofs.Appending.{part_length, at_take}
use Rattle.avro_schema.specs.Carried.{IsNoUnion}
use Rattle.arrow_array.specs.declared.array.Array.{Array as AnArray}
use Rattle.arrow_array.specs.Arrays.{array_type}
use Rattle.avro_encode.specs.Listed.{PairsTypesOf, slots_across}
use Rattle.avro_encode.specs.Plain.{parts_of}
use Rattle.avro_encode.proofs.ByLists.{fields_are, row_fields}
use Rattle.avro_write.specs.declared.flaws.Flaw.{Flaw}
use Rattle.avro_write.specs.declared.flaws.Flaw.TheVariants as flaw
use Rattle.avro_write.specs.Flaws.{fields_show, fixed_flaw, item_shows, null_flaw, record_shows, shows}
use Rattle.avro_write.specs.Shown.{fields_show_of, member_shows_of}

-- ---- by lists

array_shows : (f : Flaw) (item : Schema) (x : Slot) → shows f (Array item) x ≡ (null_flaw f x || list_any (shows f item) (parts_of x))
unfolding shape-the_row-Schema-0 hidden-the_row-Schema-0 denote.Hole.Carrier.hidden
array_shows f item x = refl

union_shows : (f : Flaw) (members : List Schema) (x : Slot) → shows f (Union members) x ≡ (is_held x && member_shows_of f members x)
unfolding shape-the_row-Schema-1 hidden-the_row-Schema-1 denote.Hole.Carrier.hidden
union_shows f [] x = refl
union_shows f (s ∷ []) x = refl
union_shows f (s ∷ u ∷ []) x = refl
union_shows f (s ∷ u ∷ v ∷ more) x = refl

row_shows : {m : _} (f : Flaw) (row : Row_of-AvroField m) (xs : List Slot) → fields_show f row xs ≡ fields_show_of f (items-the_row-AvroField _ row) xs
row_shows f end_of-AvroField xs = refl
row_shows f (more_of-AvroField name doc s rest) [] = refl
row_shows f (more_of-AvroField name doc s rest) (x ∷ xs) = ap (λ z. shows f s x || z) (row_shows f rest xs)

record_row : (f : Flaw) (r : TheRecord) (xs : List Slot) → record_shows f r xs ≡ fields_show_of f (row_fields r) xs
record_row f (Record' name namespace doc shape fields) xs = row_shows f fields xs

struct_shows : (f : Flaw) (r : TheRecord) (x : Slot) → shows f (Record r) x ≡ (null_flaw f x || fields_show_of f (out-Record r).fields (parts_of x))
struct_shows f r x = ap (λ z. null_flaw f x || z) (record_row f r (parts_of x) ∙ ap (λ (fs : List AvroField). fields_show_of f fs (parts_of x)) (fields_are r))

-- ---- a null, and a value

or_false : (b : Bool) → (b || false) ≡ b
or_false true = refl
or_false false = refl

pub is_null_slot : (x : Slot) → is_held x ≡ false → x ≡ slot.Null
is_null_slot Null h = refl
is_null_slot (Boolean b) h = absurd cc
is_null_slot (Integer n) h = absurd cc
is_null_slot (String s) h = absurd cc
is_null_slot (Binary s) h = absurd cc
is_null_slot (List' shape xs) h = absurd cc
is_null_slot (Struct' shape xs) h = absurd cc

no_field : {m : _} (f : Flaw) (row : Row_of-AvroField m) → fields_show f row [] ≡ false
no_field f end_of-AvroField = refl
no_field f (more_of-AvroField name doc s rest) = refl

no_fields : (f : Flaw) (r : TheRecord) → record_shows f r [] ≡ false
no_fields f (Record' name namespace doc shape fields) = no_field f fields

null_fixed : (f : Flaw) (logical : Option FixedLogical) → fixed_flaw f logical slot.Null ≡ false
null_fixed flaw.Null None = refl
null_fixed flaw.Null (Some logical) = refl
null_fixed flaw.Interval None = refl
null_fixed flaw.Interval (Some fixed_logical.Duration) = refl
null_fixed flaw.Interval (Some (fixed_logical.Decimal precision scale)) = refl

parts_none : parts_of slot.Null ≡ []
unfolding the_slot.out-Slot denote.Hole.Carrier.out
parts_none = refl

null_shows : (f : Flaw) (s : Schema) → IsNoUnion s → shows f s slot.Null ≡ null_flaw f slot.Null
null_shows f (ArraySchema' shape item) n = ap (λ (xs : List Slot). null_flaw f slot.Null || list_any (item_shows f item) xs) parts_none ∙ or_false (null_flaw f slot.Null)
null_shows f (Record r) n = ap (λ (xs : List Slot). null_flaw f slot.Null || record_shows f r xs) parts_none ∙ ap (λ z. null_flaw f slot.Null || z) (no_fields f r) ∙ or_false (null_flaw f slot.Null)
null_shows f (UnionSchema' shape members) n = absurd n
null_shows f (Fixed fixed) n = ap (λ z. null_flaw f slot.Null || z) (null_fixed f fixed.logical) ∙ or_false (null_flaw f slot.Null)
null_shows f _ n = refl

pub of_null : (f : Flaw) (s : Schema) (x : Slot) → IsNoUnion s → is_held x ≡ false → shows f s x ≡ null_flaw f x
of_null f s x n h = subst (λ z. shows f s z ≡ null_flaw f z) (sym (is_null_slot x h)) (null_shows f s n)

pub of_no_value : (f : Flaw) (s : Schema) (x : Slot) → IsNoUnion s → is_held x ≡ false → null_flaw f slot.Null ≡ shows f s x
of_no_value f s x n h = ap (null_flaw f) (sym (is_null_slot x h)) ∙ sym (of_null f s x n h)

pub no_null_flaw : (f : Flaw) (x : Slot) → is_held x ≡ true → null_flaw f x ≡ false
no_null_flaw flaw.Null x h = ap not h
no_null_flaw flaw.Interval x h = refl

-- a value under each kind of schema
pub of_array : (f : Flaw) (s item given : Schema) (x : Slot) → s ≡ Array item → given ≡ item → is_held x ≡ true → list_any (shows f given) (parts_of x) ≡ shows f s x
of_array f s item given x e same h =
    ap (λ z. list_any (shows f z) (parts_of x)) same ∙ sym (ap (λ z. shows f z x) e ∙ array_shows f item x ∙ ap (λ z. z || list_any (shows f item) (parts_of x)) (no_null_flaw f x h))

pub of_record : (f : Flaw) (s : Schema) (r : TheRecord) (given : List AvroField) (x : Slot) → s ≡ Record r → given ≡ (out-Record r).fields → is_held x ≡ true → fields_show_of f given (parts_of x) ≡ shows f s x
of_record f s r given x e same h =
    ap (λ (fs : List AvroField). fields_show_of f fs (parts_of x)) same ∙ sym (ap (λ z. shows f z x) e ∙ struct_shows f r x ∙ ap (λ z. z || fields_show_of f (out-Record r).fields (parts_of x)) (no_null_flaw f x h))

pub of_fixed : (f : Flaw) (s : Schema) (fixed : _) (x : Slot) → s ≡ Fixed fixed → is_held x ≡ true → fixed_flaw f fixed.logical x ≡ shows f s x
of_fixed f s fixed x e h = sym (ap (λ z. shows f z x) e ∙ ap (λ z. z || fixed_flaw f fixed.logical x) (no_null_flaw f x h))

pub of_union : (f : Flaw) (s : Schema) (members given : List Schema) (x : Slot) → s ≡ Union members → given ≡ members → (is_held x && member_shows_of f given x) ≡ shows f s x
of_union f s members given x e same = ap (λ (ms : List Schema). is_held x && member_shows_of f ms x) same ∙ sym (ap (λ z. shows f z x) e ∙ union_shows f members x)

abbrev pub IsFlatSchema : Schema → Type 0
IsFlatSchema (ArraySchema' shape item) = ⊥
IsFlatSchema (Record r) = ⊥
IsFlatSchema (UnionSchema' shape members) = ⊥
IsFlatSchema (Fixed fixed) = ⊥
IsFlatSchema _ = Unit {0}

made : (s : Schema) (l : layer.Schema-F Schema AvroField TheRecord) → out-Schema s ≡ l → s ≡ roll-Schema l
made s l e = sym (roll-out-Schema s) ∙ ap roll-Schema e

pub flat_of : (s : Schema) → IsNoUnion s → ((i : Schema) → s ≡ Array i → ⊥) → ((r : TheRecord) → s ≡ Record r → ⊥) → ((fixed : TheFixed) → s ≡ Fixed fixed → ⊥) → IsFlatSchema s
flat_of s n no_array no_record no_fixed = from (out-Schema s) refl
  where
    from : (l : layer.Schema-F Schema AvroField TheRecord) → out-Schema s ≡ l → IsFlatSchema s
    from layer.Null e = subst IsFlatSchema (sym (made s layer.Null e ∙ variant.rolls-Null)) tt
    from layer.Boolean e = subst IsFlatSchema (sym (made s layer.Boolean e ∙ variant.rolls-Boolean)) tt
    from (layer.Int logical) e = subst IsFlatSchema (sym (made s (layer.Int logical) e ∙ variant.rolls-Int logical)) tt
    from (layer.Long logical) e = subst IsFlatSchema (sym (made s (layer.Long logical) e ∙ variant.rolls-Long logical)) tt
    from layer.Float e = subst IsFlatSchema (sym (made s layer.Float e ∙ variant.rolls-Float)) tt
    from layer.Double e = subst IsFlatSchema (sym (made s layer.Double e ∙ variant.rolls-Double)) tt
    from (layer.Bytes logical) e = subst IsFlatSchema (sym (made s (layer.Bytes logical) e ∙ variant.rolls-Bytes logical)) tt
    from (layer.String logical) e = subst IsFlatSchema (sym (made s (layer.String logical) e ∙ variant.rolls-String logical)) tt
    from (layer.Record r) e = absurd (no_record r (made s (layer.Record r) e ∙ variant.rolls-Record r))
    from (layer.Enum x) e = subst IsFlatSchema (sym (made s (layer.Enum x) e ∙ variant.rolls-Enum x)) tt
    from (layer.Array i) e = absurd (no_array i (made s (layer.Array i) e ∙ variant.rolls-Array i))
    from (layer.Map value) e = subst IsFlatSchema (sym (made s (layer.Map value) e ∙ variant.rolls-Map value)) tt
    from (layer.Union members) e = absurd (subst IsNoUnion (made s (layer.Union members) e ∙ variant.rolls-Union members) n)
    from (layer.Fixed fixed) e = absurd (no_fixed fixed (made s (layer.Fixed fixed) e ∙ variant.rolls-Fixed fixed))

pub of_flat : (f : Flaw) (s : Schema) (x : Slot) → IsFlatSchema s → is_held x ≡ true → false ≡ shows f s x
of_flat f (ArraySchema' shape item) x n h = absurd n
of_flat f (Record r) x n h = absurd n
of_flat f (UnionSchema' shape members) x n h = absurd n
of_flat f (Fixed fixed) x n h = absurd n
of_flat f _ x n h = sym (no_null_flaw f x h)

-- ---- slots and fields, one after another

module _ (p : Slot → Bool) where
  pub any_at : (xs : List Slot) (i : ℕ) → i < length xs → p (slot_at xs i) ≡ true → list_any p xs ≡ true
  any_at [] i l h = absurd (omega (arith, l))
  any_at (x ∷ xs) zero l h = rw h refl
  any_at (x ∷ xs) (suc i) l h = ap (λ z. p x || z) (any_at xs i (omega (arith, l)) h) ∙ or_true (p x)
    where
      or_true : (b : Bool) → (b || true) ≡ true
      or_true true = refl
      or_true false = refl

  pub none_at : (xs : List Slot) → ((i : ℕ) → i < length xs → p (slot_at xs i) ≡ false) → list_any p xs ≡ false
  none_at [] h = refl
  none_at (x ∷ xs) h = λ j. h 0 (omega arith) j || none_at xs (λ i l. h (suc i) (omega (arith, l))) j

-- one more holds
pub more_holds : (P : ℕ → Type 0) (k : ℕ) → ((j : ℕ) → j < k → P j) → P k → (j : ℕ) → j < k + 1 → P j
more_holds P k h p j l =
    elim (cases_lt j k) [
      | inl below ↦ h j below
      | inr above ↦ let e : k ≡ j = omega (arith, above, l) in subst P e p
    ]

-- the same from another number on
pub more_from : (P : ℕ → Type 0) (a k : ℕ) → ((j : ℕ) → a ≤ j → j < k → P j) → P k → (j : ℕ) → a ≤ j → j < k + 1 → P j
more_from P a k h p j m l =
    elim (cases_lt j k) [
      | inl below ↦ h j m below
      | inr above ↦ let e : k ≡ j = omega (arith, above, l) in subst P e p
    ]

-- slot k of a part from index a on
pub at_part : (slots : List Slot) (a b k : ℕ) → k < b - a → slot_at (take (b - a) (drop a slots)) k ≡ slot_at slots (a + k)
at_part slots a b k l = at_take (drop a slots) (b - a) k l ∙ get_or-drop a slots k slot.Null

pub any_of_part : (p : Slot → Bool) (slots : List Slot) (a b k : ℕ) → a ≤ k → k < b → b ≤ length slots → p (slot_at slots k) ≡ true → list_any p (take (b - a) (drop a slots)) ≡ true
any_of_part p slots a b k m l w h =
    let n : length (take (b - a) (drop a slots)) ≡ b - a = part_length a b slots (omega (arith, m, l)) w in
    let same : a + (k - a) ≡ k = omega (arith, m) in
    any_at p (take (b - a) (drop a slots)) (k - a) (omega (arith, n, m, l)) (ap p (at_part slots a b (k - a) (omega (arith, m, l)) ∙ ap (slot_at slots) same) ∙ h)

pub none_of_part : (p : Slot → Bool) (slots : List Slot) (a b : ℕ) → a ≤ b → b ≤ length slots → ((j : ℕ) → a ≤ j → j < b → p (slot_at slots j) ≡ false) → list_any p (take (b - a) (drop a slots)) ≡ false
none_of_part p slots a b o w h =
    let n : length (take (b - a) (drop a slots)) ≡ b - a = part_length a b slots o w in
    none_at p (take (b - a) (drop a slots)) (λ i l. ap p (at_part slots a b i (omega (arith, l, n))) ∙ h (a + i) (omega arith) (omega (arith, l, n)))

-- the slot at k of a struct shows the flaw
pub field_shows : (f : Flaw) (fs : List AvroField) (xs : List Slot) (k : ℕ) (d : AvroField) → k < length fs → length fs ≡ length xs → shows f (get_or fs k d).schema (slot_at xs k) ≡ true → fields_show_of f fs xs ≡ true
field_shows f [] xs k d l n h = absurd (omega (arith, l))
field_shows f (a ∷ fs) [] k d l n h = absurd (omega (arith, n))
field_shows f (a ∷ fs) (x ∷ xs) zero d l n h = rw h refl
field_shows f (a ∷ fs) (x ∷ xs) (suc k) d l n h = ap (λ z. shows f a.schema x || z) (field_shows f fs xs k d (omega (arith, l)) (omega (arith, n)) h) ∙ or_true (shows f a.schema x)
  where
    or_true : (b : Bool) → (b || true) ≡ true
    or_true true = refl
    or_true false = refl

pub none_shows : (f : Flaw) (fs : List AvroField) (xs : List Slot) → ((k : ℕ) (d : AvroField) → k < length fs → shows f (get_or fs k d).schema (slot_at xs k) ≡ false) → fields_show_of f fs xs ≡ false
none_shows f [] xs h = refl
none_shows f (a ∷ fs) [] h = refl
none_shows f (a ∷ fs) (x ∷ xs) h = λ j. h 0 a (omega arith) j || none_shows f fs xs (λ k d l. h (suc k) d (omega (arith, l))) j

pub child_within : (fs : List AvroField) (children : List AnArray) (k : ℕ) → PairsTypesOf fs (map array_type children) → k < length fs → k < length children
child_within [] children k h l = absurd (omega (arith, l))
child_within (a ∷ fs) [] k h l = absurd h
child_within (a ∷ fs) (c ∷ children) zero h l = omega arith
child_within (a ∷ fs) (c ∷ children) (suc k) h l = let n : k < length children = child_within fs children k h.1 (omega (arith, l)) in omega (arith, n)

pub as_many_children : (fs : List AvroField) (children : List AnArray) (i : ℕ) → PairsTypesOf fs (map array_type children) → length fs ≡ length (slots_across children i)
as_many_children [] [] i h = refl
as_many_children [] (c ∷ children) i h = absurd h
as_many_children (a ∷ fs) [] i h = absurd h
as_many_children (a ∷ fs) (c ∷ children) i h = ap suc (as_many_children fs children i h.1)

same_at : (xs : List AvroField) (k : ℕ) (d e : AvroField) → k < length xs → get_or xs k d ≡ get_or xs k e
same_at [] k d e l = absurd (omega (arith, l))
same_at (x ∷ xs) zero d e l = refl
same_at (x ∷ xs) (suc k) d e l = same_at xs k d e (omega (arith, l))

-- the field at k doesn't show the flaw either
pub one_more_field : (f : Flaw) (fs : List AvroField) (xs : List Slot) (k : ℕ) (a : AvroField) → k < length fs → ((j : ℕ) (d : AvroField) → j < k → shows f (get_or fs j d).schema (slot_at xs j) ≡ false) → shows f (get_or fs k a).schema (slot_at xs k) ≡ false
    → (j : ℕ) (d : AvroField) → j < k + 1 → shows f (get_or fs j d).schema (slot_at xs j) ≡ false
one_more_field f fs xs k a l h p j d m =
    more_holds (λ n. shows f (get_or fs n d).schema (slot_at xs n) ≡ false) k (λ n r. h n d r) (ap (λ (z : AvroField). shows f z.schema (slot_at xs k)) (same_at fs k d a l) ∙ p) j m
