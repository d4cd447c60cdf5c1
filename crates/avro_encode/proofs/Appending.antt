-- Steps of the code that appends encodings.
use Rattle.std.proofs.Common.{◌≡◌, ℕ, zero, suc, ◌+◌, ◌<◌, ◌≤◌, List, [], ◌∷◌, ◌++◌, length, take, drop, flat_map, slice_index_or, refl, sym, ap, ◌∙◌, subst, arith, add-one, append_assoc, get_or-drop}
use Rattle.std.specs.List.{AllByRecursion}
use Rattle.std.proofs.lemmas.Grind.{flat_map-append}
use Rattle.std.proofs.lemmas.List.{append-nil}
use Rattle.arrow_core.specs.declared.slot.Slot.{Slot}
use Rattle.arrow_core.specs.declared.slot.Slot.TheVariants as slot
use Rattle.arrow_array.specs.declared.array.Array.{Array as AnArray}
use Rattle.arrow_core.specs.declared.types.DataType.{size-DataType}
use Rattle.arrow_array.specs.Depths.{children_depth}
use Rattle.arrow_array.specs.Arrays.{array_type, array_slots}
use Rattle.arrow_array.specs.Slots.{slot_at}
use Rattle.avro_schema.specs.declared.schema.AvroField.{AvroField}
use Rattle.avro_schema.specs.declared.schema.Record.{Record as TheRecord, out-Record}
use Rattle.avro_schema.specs.declared.schema.Schema.{Schema, Null, Boolean, Int, Long, Float, Double, Bytes, String, Enum, Fixed, Array, Array', Map', Union, Union', Record}
use Rattle.avro_encode.specs.Plain.{parts_of, one_block, plain}
use Rattle.avro_encode.specs.Pairs.{IsCounted, Pairs}
use Rattle.avro_encode.proofs.Groups.{index_is}
use Rattle.avro_encode.specs.Listed.{IsBesideNull, index_byte, index_of, plain_union_of, plain_fields_of, PairsUnionOf, PairsFieldsOf, slots_across}
use Rattle.avro_encode.proofs.PlainLaw.{parts_list, parts_struct}
use Rattle.avro_encode.proofs.ByLists.{plain_array, plain_union_is, plain_record_is, pairs_array, pairs_union, pairs_record}
use Rattle.std.specs.Prelude.{Bool, true, false, cond, if◌then◌else◌, IsTrue, map, min, ◌-◌, ◌⊎◌, pos}
use Rattle.std.proofs.Common.{inl, inr}
use Rattle.std.proofs.lemmas.Bool.{false≢true}
use Rattle.avro_container.specs.Shortest.{shortest}
use Rattle.avro_schema.specs.Encodes.{IsNull, is_null}
use Rattle.std.proofs.Common.{length-take, length-drop}
use Rattle.arrow_core.specs.declared.types.DataType.{DataType}
use Rattle.arrow_core.specs.Layouts.{physical_type}
use Rattle.arrow_array.specs.Kinds.{array_kind}
use Rattle.arrow_array.specs.Lists.{IsListOf as IsListOfType}
use Rattle.arrow_array.specs.Slots.{is_held}
use Rattle.arrow_array.specs.Structs.{IsStructOf, record_at}
use Rattle.avro_schema.specs.Carried.{IsNoUnion}
use Rattle.avro_encode.specs.Flat.{FitsFlat, HasNoParts, IsFlatKind, IsListKind, IsStructKind, flat_plain}
use Rattle.avro_encode.specs.Listed.{PairsListOf, PairsMemberTypeOf, PairsStructOf, PairsTypesOf}
use Rattle.avro_encode.specs.PairTypes.{PairsType}
use Rattle.avro_encode.specs.Steps.{PairsList, PairsStruct}
use Rattle.avro_encode.proofs.ByLists.{moved}
use Rattle.avro_encode.proofs.FlatPairs.{flat_pair}
use Rattle.avro_encode.proofs.PlainLaw.{pairs_held}
use Rattle.avro_encode.proofs.TypesByLists.{array_type_is, child_item, list_kind, record_type_is, struct_children, struct_kind, union_type_is}

-- ---- a union

pub member_pairs : (s : Schema) (members given : List Schema) (x : Slot) → s ≡ Union members → given ≡ members → Pairs s x → PairsUnionOf given x
member_pairs s members given x e same p = subst (λ (ms : List Schema). PairsUnionOf ms x) (sym same) (pairs_union members x (subst (λ z. Pairs z x) e p))

pub member_plain : (s : Schema) (members given : List Schema) (x : Slot) → s ≡ Union members → given ≡ members → plain_union_of given x ≡ plain s x
member_plain s members given x e same = ap (λ (ms : List Schema). plain_union_of ms x) same ∙ sym (plain_union_is members x) ∙ ap (λ z. plain z x) (sym e)

pub two_members : (members : List Schema) (t : DataType) → PairsMemberTypeOf members t → length members ≡ 2
two_members [] t h = absurd h
two_members (s ∷ []) t h = absurd h
two_members (s ∷ u ∷ []) t h = refl
two_members (s ∷ u ∷ v ∷ more) t h = absurd h

null_is : (s : Schema) → IsNull s → is_null s ≡ true
null_is Null h = refl
null_is (Array' shape item) h = absurd h
null_is (Union' shape members) h = absurd h
null_is (Map' shape value) h = absurd h
null_is (Record r) h = absurd h
null_is Boolean h = absurd h
null_is (Int l) h = absurd h
null_is (Long l) h = absurd h
null_is Float h = absurd h
null_is Double h = absurd h
null_is (Bytes l) h = absurd h
null_is (String l) h = absurd h
null_is (Enum e) h = absurd h
null_is (Fixed f) h = absurd h

no_null_type : (s : Schema) (t : DataType) → PairsType s t → is_null s ≡ false
no_null_type Null t h = absurd h
no_null_type _ t h = refl

no_null_slot : (s : Schema) (x : Slot) → Pairs s x → is_null s ≡ false
no_null_slot Null x h = absurd h
no_null_slot _ x h = refl

-- the member beside null is the second where null is the first
module _ (s u m : Schema) (b : Bool) (h : IsBesideNull (s ∷ u ∷ []) b m) where
  member_is : (n : Bool) → is_null s ≡ n → m ≡ (if n then u else s)
  member_is n e = h.1 ∙ ap (λ k. if k then u else s) (h.0 ∙ e)

  held_not_null : (x : Slot) → x ≡ slot.Null → is_held x ≡ true → ⊥
  held_not_null x e held = false≢true (sym (ap is_held e) ∙ held)

  pair_types : (t : DataType) → (IsNull s × IsNoUnion u × PairsType u t) ⊎ (IsNull u × IsNoUnion s × PairsType s t) → IsNoUnion m × PairsType m t
  pair_types t (inl p) = subst (λ z. IsNoUnion z × PairsType z t) (sym (member_is true (null_is s p.0))) (p.1, p.2)
  pair_types t (inr p) = subst (λ z. IsNoUnion z × PairsType z t) (sym (member_is false (no_null_type s t p.2))) (p.1, p.2)

  pair_slot : (x : Slot) → is_held x ≡ true → (IsNull s × IsNoUnion u × ((x ≡ slot.Null) ⊎ Pairs u x)) ⊎ (IsNull u × IsNoUnion s × ((x ≡ slot.Null) ⊎ Pairs s x)) → Pairs m x
  pair_slot x held (inl p) = subst (λ z. Pairs z x) (sym (member_is true (null_is s p.0))) (held_pairs u p.2)
    where
      held_pairs : (z : Schema) → (x ≡ slot.Null) ⊎ Pairs z x → Pairs z x
      held_pairs z (inl e) = absurd (held_not_null x e held)
      held_pairs z (inr q) = q
  pair_slot x held (inr p) = from p.2
    where
      from : (x ≡ slot.Null) ⊎ Pairs s x → Pairs m x
      from (inl e) = absurd (held_not_null x e held)
      from (inr q) = subst (λ z. Pairs z x) (sym (member_is false (no_null_slot s x q))) q

  plain_null : (x : Slot) → is_held x ≡ false → plain_union_of (s ∷ u ∷ []) x ≡ index_of b false
  plain_null x e = ap (λ z. cond (is_null s) (cond z (shortest (pos 1) ++ plain u x) (shortest (pos 0))) (cond z (shortest (pos 0) ++ plain s x) (shortest (pos 1)))) e ∙ ap (λ z. index_of z false) (sym h.0)

  value_of : (x : Slot) (n : Bool) → cond n (shortest (pos 1) ++ plain u x) (shortest (pos 0) ++ plain s x) ≡ index_of n true ++ plain (if n then u else s) x
  value_of x true = refl
  value_of x false = refl

  plain_value : (x : Slot) → is_held x ≡ true → plain_union_of (s ∷ u ∷ []) x ≡ index_of b true ++ plain m x
  plain_value x e =
      ap (λ z. cond (is_null s) (cond z (shortest (pos 1) ++ plain u x) (shortest (pos 0))) (cond z (shortest (pos 0) ++ plain s x) (shortest (pos 1)))) e
      ∙ value_of x (is_null s) ∙ ap (λ z. index_of z true ++ plain (if z then u else s) x) (sym h.0) ∙ ap (λ z. index_of b true ++ plain z x) (sym h.1)

pub beside_types : (members : List Schema) (b : Bool) (m : Schema) (t : DataType) → IsBesideNull members b m → PairsMemberTypeOf members t → IsNoUnion m × PairsType m t
beside_types [] b m t h p = absurd h
beside_types (s ∷ []) b m t h p = absurd h
beside_types (s ∷ u ∷ []) b m t h p = pair_types s u m b h t p
beside_types (s ∷ u ∷ v ∷ more) b m t h p = absurd h

pub beside_pairs : (members : List Schema) (b : Bool) (m : Schema) (x : Slot) → IsBesideNull members b m → is_held x ≡ true → PairsUnionOf members x → Pairs m x
beside_pairs [] b m x h held p = absurd h
beside_pairs (s ∷ []) b m x h held p = absurd h
beside_pairs (s ∷ u ∷ []) b m x h held p = pair_slot s u m b h x held p
beside_pairs (s ∷ u ∷ v ∷ more) b m x h held p = absurd h

pub beside_null_plain : (members : List Schema) (b : Bool) (m : Schema) (x : Slot) → IsBesideNull members b m → is_held x ≡ false → plain_union_of members x ≡ index_of b false
beside_null_plain [] b m x h held = absurd h
beside_null_plain (s ∷ []) b m x h held = absurd h
beside_null_plain (s ∷ u ∷ []) b m x h held = plain_null s u m b h x held
beside_null_plain (s ∷ u ∷ v ∷ more) b m x h held = absurd h

pub beside_value_plain : (members : List Schema) (b : Bool) (m : Schema) (x : Slot) → IsBesideNull members b m → is_held x ≡ true → plain_union_of members x ≡ index_of b true ++ plain m x
beside_value_plain [] b m x h held = absurd h
beside_value_plain (s ∷ []) b m x h held = absurd h
beside_value_plain (s ∷ u ∷ []) b m x h held = plain_value s u m b h x held
beside_value_plain (s ∷ u ∷ v ∷ more) b m x h held = absurd h

-- the index of a null, and of a value with what is appended after it
pub null_appended : (members : List Schema) (b held : Bool) (m : Schema) (x : Slot) (old now : List ℕ) (byte : ℕ) → IsBesideNull members b m → held ≡ is_held x → held ≡ false → byte ≡ index_byte b held → now ≡ old ++ byte ∷ []
    → now ≡ old ++ plain_union_of members x
null_appended members b held m x old now byte h same e is f =
    let index : byte ∷ [] ≡ index_of b false = ap (λ (n : ℕ). n ∷ []) is ∙ index_is b held ∙ ap (index_of b) e in
    f ∙ ap (λ (z : List ℕ). old ++ z) (index ∙ sym (beside_null_plain members b m x h (sym same ∙ e)))

pub value_appended : (members : List Schema) (b held : Bool) (m : Schema) (x : Slot) (old now : List ℕ) (byte : ℕ) → IsBesideNull members b m → held ≡ is_held x → held ≡ true → byte ≡ index_byte b held → now ≡ old ++ byte ∷ plain m x
    → now ≡ old ++ plain_union_of members x
value_appended members b held m x old now byte h same e is f =
    let index : byte ∷ [] ≡ index_of b true = ap (λ (n : ℕ). n ∷ []) is ∙ index_is b held ∙ ap (index_of b) e in
    f ∙ ap (λ (z : List ℕ). old ++ z) (ap (λ (z : List ℕ). z ++ plain m x) index ∙ sym (beside_value_plain members b m x h (sym same ∙ e)))

-- ---- a list

take_more : (xs : List Slot) (k : ℕ) → k < length xs → take (suc k) xs ≡ take k xs ++ slot_at xs k ∷ []
take_more [] k h = absurd (omega (arith, h))
take_more (x ∷ xs) zero h = refl
take_more (x ∷ xs) (suc k) h = ap (λ (z : List Slot). x ∷ z) (take_more xs k (omega (arith, h)))

pub at_take : (xs : List Slot) (n k : ℕ) → k < n → slot_at (take n xs) k ≡ slot_at xs k
at_take [] zero k h = refl
at_take [] (suc n) k h = refl
at_take (x ∷ xs) zero k h = absurd (omega (arith, h))
at_take (x ∷ xs) (suc n) zero h = refl
at_take (x ∷ xs) (suc n) (suc k) h = at_take xs n k (omega (arith, h))

flat_more : (f : Slot → List ℕ) (xs : List Slot) (k : ℕ) → k < length xs → flat_map f (take (suc k) xs) ≡ flat_map f (take k xs) ++ f (slot_at xs k)
flat_more f xs k h =
    ap (flat_map f) (take_more xs k h) ∙ flat_map-append f (take k xs) (slot_at xs k ∷ []) ∙ ap (λ (z : List ℕ). flat_map f (take k xs) ++ z) (append-nil (f (slot_at xs k)))

joined : (old a b c now next : List ℕ) → now ≡ old ++ (a ++ b) → next ≡ now ++ c → next ≡ old ++ (a ++ (b ++ c))
joined old a b c now next e f =
    f ∙ ap (λ (z : List ℕ). z ++ c) e ∙ append_assoc old (a ++ b) c ∙ ap (λ (z : List ℕ). old ++ z) (append_assoc a b c)

pub items_step : (item : Schema) (ps slots : List Slot) (a n k : ℕ) (old count now next : List ℕ) → ps ≡ take n (drop a slots) → k < n → k < length ps
    → now ≡ old ++ (count ++ flat_map (plain item) (take k ps)) → next ≡ now ++ plain item (slot_at slots (a + k))
    → next ≡ old ++ (count ++ flat_map (plain item) (take (k + 1) ps))
items_step item ps slots a n k old count now next d l m e f =
    let same : slot_at slots (a + k) ≡ slot_at ps k =
    sym (ap (λ (z : List Slot). slot_at z k) d ∙ at_take (drop a slots) n k l ∙ get_or-drop a slots k slot.Null) in
    joined old count (flat_map (plain item) (take k ps)) (plain item (slot_at ps k)) now next e (f ∙ ap (λ x. now ++ plain item x) same)
    ∙ ap (λ (z : List ℕ). old ++ (count ++ z)) (sym (flat_more (plain item) ps k m) ∙ ap (λ j. flat_map (plain item) (take j ps)) (sym (add-one k)))

-- ---- a record

pub record_pairs : (s : Schema) (r : TheRecord) (given : List AvroField) (x : Slot) (ys : List Slot) → s ≡ Record r → given ≡ (out-Record r).fields → x ≡ slot.Struct ys → Pairs s x → PairsFieldsOf given ys
record_pairs s r given x ys e same l p =
    let q = pairs_record r x (subst (λ z. Pairs z x) e p) in
    let d : q.0 ≡ ys = sym (parts_struct q.0) ∙ ap parts_of (sym q.1 ∙ l) ∙ parts_struct ys in
    subst (λ (fs : List AvroField). PairsFieldsOf fs ys) (sym same) (subst (λ (zs : List Slot). PairsFieldsOf (out-Record r).fields zs) d q.2)

pub record_plain : (s : Schema) (r : TheRecord) (given : List AvroField) (x : Slot) (ys : List Slot) → s ≡ Record r → given ≡ (out-Record r).fields → x ≡ slot.Struct ys → plain_fields_of given ys ≡ plain s x
record_plain s r given x ys e same l =
    ap (λ (fs : List AvroField). plain_fields_of fs ys) same ∙ ap (λ (zs : List Slot). plain_fields_of (out-Record r).fields zs) (sym (parts_struct ys) ∙ ap parts_of (sym l))
    ∙ sym (plain_record_is r x) ∙ ap (λ z. plain z x) (sym e)

pub as_many : (fs : List AvroField) (xs : List Slot) → PairsFieldsOf fs xs → length fs ≡ length xs
as_many [] [] p = refl
as_many [] (x ∷ xs) p = absurd p
as_many (f ∷ fs) [] p = absurd p
as_many (f ∷ fs) (x ∷ xs) p = ap suc (as_many fs xs p.1)

pub across_length : (children : List AnArray) (i : ℕ) → length (slots_across children i) ≡ length children
across_length [] i = refl
across_length (a ∷ children) i = omega (arith, across_length children i)

pub across_at : (children : List AnArray) (i k : ℕ) (a : AnArray) → k < length children → a ≡ slice_index_or children k a → slot_at (slots_across children i) k ≡ slot_at (array_slots a) i
across_at [] i k a l e = absurd (omega (arith, l))
across_at (b ∷ children) i zero a l e = ap (λ z. slot_at (array_slots z) i) (sym e)
across_at (b ∷ children) i (suc k) a l e = across_at children i k a (omega (arith, l)) e

pub field_pairs : (fs : List AvroField) (xs : List Slot) (k : ℕ) (f : AvroField) → PairsFieldsOf fs xs → k < length fs → Pairs (slice_index_or fs k f).schema (slot_at xs k)
field_pairs [] xs k f p l = absurd (omega (arith, l))
field_pairs (g ∷ fs) [] k f p l = absurd p
field_pairs (g ∷ fs) (x ∷ xs) zero f p l = p.0
field_pairs (g ∷ fs) (x ∷ xs) (suc k) f p l = field_pairs fs xs k f p.1 (omega (arith, l))

pub child_there : (fs : List AvroField) (children : List AnArray) (i k : ℕ) → PairsFieldsOf fs (slots_across children i) → k < length fs → k < length children
child_there fs children i k p l = omega (arith, l, as_many fs (slots_across children i) p, across_length children i)

pub child_pairs : (fs : List AvroField) (children : List AnArray) (i k : ℕ) (f : AvroField) (a : AnArray) → PairsFieldsOf fs (slots_across children i) → k < length fs → a ≡ slice_index_or children k a
    → Pairs (slice_index_or fs k f).schema (slot_at (array_slots a) i)
child_pairs fs children i k f a p l e =
    subst (λ x. Pairs (slice_index_or fs k f).schema x) (across_at children i k a (child_there fs children i k p l) e) (field_pairs fs (slots_across children i) k f p l)

fields_more : (fs : List AvroField) (xs : List Slot) (k : ℕ) (f : AvroField) → PairsFieldsOf fs xs → k < length fs
    → plain_fields_of (take (suc k) fs) (take (suc k) xs) ≡ plain_fields_of (take k fs) (take k xs) ++ plain (slice_index_or fs k f).schema (slot_at xs k)
fields_more [] xs k f p l = absurd (omega (arith, l))
fields_more (g ∷ fs) [] k f p l = absurd p
fields_more (g ∷ fs) (x ∷ xs) zero f p l = append-nil (plain g.schema x)
fields_more (g ∷ fs) (x ∷ xs) (suc k) f p l =
    ap (λ (z : List ℕ). plain g.schema x ++ z) (fields_more fs xs k f p.1 (omega (arith, l)))
    ∙ sym (append_assoc (plain g.schema x) (plain_fields_of (take k fs) (take k xs)) (plain (slice_index_or fs k f).schema (slot_at xs k)))

pub fields_step : (fs : List AvroField) (children : List AnArray) (i k : ℕ) (f : AvroField) (a : AnArray) (old now next : List ℕ) → PairsFieldsOf fs (slots_across children i) → k < length fs → a ≡ slice_index_or children k a
    → now ≡ old ++ plain_fields_of (take k fs) (take k (slots_across children i)) → next ≡ now ++ plain (slice_index_or fs k f).schema (slot_at (array_slots a) i)
    → next ≡ old ++ plain_fields_of (take (k + 1) fs) (take (k + 1) (slots_across children i))
fields_step fs children i k f a old now next p l d e g =
    let xs = slots_across children i in
    let same = across_at children i k a (child_there fs children i k p l) d in
    g ∙ ap (λ x. now ++ plain (slice_index_or fs k f).schema x) (sym same) ∙ ap (λ (z : List ℕ). z ++ plain (slice_index_or fs k f).schema (slot_at xs k)) e
    ∙ append_assoc old (plain_fields_of (take k fs) (take k xs)) (plain (slice_index_or fs k f).schema (slot_at xs k))
    ∙ ap (λ (z : List ℕ). old ++ z) (sym (fields_more fs xs k f p l) ∙ ap (λ j. plain_fields_of (take j fs) (take j xs)) (sym (add-one k)))

fields_all : (fs : List AvroField) (xs : List Slot) (k : ℕ) → PairsFieldsOf fs xs → length fs ≤ k → plain_fields_of (take k fs) (take k xs) ≡ plain_fields_of fs xs
fields_all [] [] zero p l = refl
fields_all [] [] (suc k) p l = refl
fields_all [] (x ∷ xs) k p l = absurd p
fields_all (f ∷ fs) [] k p l = absurd p
fields_all (f ∷ fs) (x ∷ xs) zero p l = absurd (omega (arith, l))
fields_all (f ∷ fs) (x ∷ xs) (suc k) p l = ap (λ (z : List ℕ). plain f.schema x ++ z) (fields_all fs xs k p.1 (omega (arith, l)))

pub fields_end : (fs : List AvroField) (xs : List Slot) (k : ℕ) (old now : List ℕ) → PairsFieldsOf fs xs → length fs ≤ k → now ≡ old ++ plain_fields_of (take k fs) (take k xs) → now ≡ old ++ plain_fields_of fs xs
fields_end fs xs k old now p l e = e ∙ ap (λ (z : List ℕ). old ++ z) (fields_all fs xs k p l)

pub child_falls : (children : List AnArray) (k : ℕ) (a : AnArray) → k < length children → a ≡ slice_index_or children k a → size-DataType (array_type a) + 1 ≤ children_depth children
child_falls [] k a l e = absurd (omega (arith, l))
child_falls (b ∷ children) zero a l e = let d : size-DataType (array_type a) ≡ size-DataType (array_type b) = ap (λ z. size-DataType (array_type z)) e in omega (arith, d)
child_falls (b ∷ children) (suc k) a l e = let h = child_falls children k a (omega (arith, l)) e in omega (arith, h)

-- ---- lists and structs of an array

pub list_pairs : (s item given : Schema) (array : AnArray) (x : Slot) → s ≡ Array item → given ≡ item → PairsType s (array_type array) → Pairs s x → PairsList given array x
list_pairs s item given array x e same h p =
    let q = pairs_array item x (subst (λ z. Pairs z x) e p) in
    record {
      types = subst (λ z. PairsListOf z (array_type array)) (sym same) (moved (array_type_is item (array_type array)) (subst (λ z. PairsType z (array_type array)) e h));
      items = q.0;
      is = q.1;
      counted = q.2;
      slots = subst (λ z. AllByRecursion (Pairs z) q.0) (sym same) q.3;
    }

pub struct_pairs : (s : Schema) (r : TheRecord) (given : List AvroField) (array : AnArray) (x : Slot) → s ≡ Record r → given ≡ (out-Record r).fields → PairsType s (array_type array) → Pairs s x → PairsStruct given array x
struct_pairs s r given array x e same h p =
    let q = pairs_record r x (subst (λ z. Pairs z x) e p) in
    record {
      types = subst (λ (fs : List AvroField). PairsStructOf fs (array_type array)) (sym same) (moved (record_type_is r (array_type array)) (subst (λ z. PairsType z (array_type array)) e h));
      items = q.0;
      is = q.1;
      slots = subst (λ (fs : List AvroField). PairsFieldsOf fs q.0) (sym same) q.2;
    }

pub array_plain : (s item given : Schema) (x : Slot) → s ≡ Array item → given ≡ item → one_block (plain given) (parts_of x) ≡ plain s x
array_plain s item given x e same = ap (λ z. one_block (plain z) (parts_of x)) same ∙ sym (plain_array item x) ∙ ap (λ z. plain z x) (sym e)

pub fields_plain : (s : Schema) (r : TheRecord) (given : List AvroField) (x : Slot) → s ≡ Record r → given ≡ (out-Record r).fields → plain_fields_of given (parts_of x) ≡ plain s x
fields_plain s r given x e same = ap (λ (fs : List AvroField). plain_fields_of fs (parts_of x)) same ∙ sym (plain_record_is r x) ∙ ap (λ z. plain z x) (sym e)

-- what a part of a list array's child is
pub record IsPartOf (item : Schema) (child : DataType) (x : Slot) (ps : List Slot) : Type 0 where
  pub types : PairsType item child
  pub counted : IsCounted ps
  pub slots : AllByRecursion (Pairs item) ps
  pub same : ps ≡ parts_of x

pub part_pairs : (item : Schema) (array : AnArray) (t : DataType) (slots : List Slot) (i : ℕ) (is_large : Bool) (child : DataType) (ps : List Slot) → array_type array ≡ t → array_slots array ≡ slots → PairsList item array (slot_at (array_slots array) i)
    → IsListOfType is_large t child → (IsTrue (is_held (slot_at slots i)) → slot_at slots i ≡ slot.List ps) → IsPartOf item child (slot_at (array_slots array) i) ps
part_pairs item array t slots i is_large child ps e f p l given =
    let x = slot_at (array_slots array) i in
    let here : x ≡ slot_at slots i = ap (λ (z : List Slot). slot_at z i) f in
    let held : is_held (slot_at slots i) ≡ true = ap is_held (sym here ∙ p.is) in
    let is : x ≡ slot.List ps = here ∙ given held in
    let d : p.items ≡ ps = sym (parts_list p.items) ∙ ap parts_of (sym p.is ∙ is) ∙ parts_list ps in
    record {
      types = child_item item t child is_large (subst (PairsListOf item) e p.types) l;
      counted = subst (λ (ys : List Slot). IsCounted ys) d p.counted;
      slots = subst (λ (ys : List Slot). AllByRecursion (Pairs item) ys) d p.slots;
      same = sym (ap parts_of is ∙ parts_list ps);
    }

-- what the children of a struct array are
pub record AreChildrenOf (fields : List AvroField) (children : List AnArray) (i : ℕ) (x : Slot) : Type 0 where
  pub types : PairsTypesOf fields (map array_type children)
  pub slots : PairsFieldsOf fields (slots_across children i)
  pub same : slots_across children i ≡ parts_of x

pub children_pair : (fields : List AvroField) (array : AnArray) (t : DataType) (slots : List Slot) (i : ℕ) (children : List AnArray) → array_type array ≡ t → array_slots array ≡ slots → PairsStruct fields array (slot_at (array_slots array) i)
    → IsStructOf t children (length slots) → ((k : ℕ) → k < length slots → IsTrue (is_held (slot_at slots k)) → slot_at slots k ≡ record_at (map array_slots children) k) → i < length slots
    → AreChildrenOf fields children i (slot_at (array_slots array) i)
children_pair fields array t slots i children e f p l given within =
    let x = slot_at (array_slots array) i in
    let here : x ≡ slot_at slots i = ap (λ (z : List Slot). slot_at z i) f in
    let held : is_held (slot_at slots i) ≡ true = ap is_held (sym here ∙ p.is) in
    let is : x ≡ slot.Struct (slots_across children i) = here ∙ given i within held in
    let d : p.items ≡ slots_across children i = sym (parts_struct p.items) ∙ ap parts_of (sym p.is ∙ is) ∙ parts_struct (slots_across children i) in
    record {
      types = struct_children fields t (length slots) children (subst (PairsStructOf fields) e p.types) l;
      slots = subst (λ (ys : List Slot). PairsFieldsOf fields ys) d p.slots;
      same = sym (ap parts_of is ∙ parts_struct (slots_across children i));
    }

pub child_type : (fs : List AvroField) (children : List AnArray) (k : ℕ) (f : AvroField) (a : AnArray) → PairsTypesOf fs (map array_type children) → k < length fs → a ≡ slice_index_or children k a → PairsType (slice_index_or fs k f).schema (array_type a)
child_type [] children k f a p l e = absurd (omega (arith, l))
child_type (g ∷ fs) [] k f a p l e = absurd p
child_type (g ∷ fs) (b ∷ children) zero f a p l e = subst (λ z. PairsType g.schema (array_type z)) (sym e) p.0
child_type (g ∷ fs) (b ∷ children) (suc k) f a p l e = child_type fs children k f a p.1 (omega (arith, l)) e

-- ---- slots with nothing beneath them

-- a flat array's kind, and its slot, which is of that kind
pub record IsFlatSlot (s : Schema) (array : AnArray) (x : Slot) : Type 0 where
  pub held : IsTrue (is_held x)
  pub kind : IsFlatKind (array_kind array)
  pub fits : FitsFlat (array_kind array) x
  pub same : flat_plain (array_kind array) x ≡ plain s x

flat_no_union : (s : Schema) → HasNoParts s → IsNoUnion s
flat_no_union (Union' shape members) n = absurd n
flat_no_union _ n = tt

pub flat_slot : (s : Schema) (array : AnArray) (x : Slot) → HasNoParts s → PairsType s (array_type array) → Pairs s x → physical_type (array_type array) ≡ array_kind array → IsFlatSlot s array x
flat_slot s array x n h p k =
    let q = flat_pair s (array_type array) x n h p in
    record {
      held = pairs_held s x (flat_no_union s n) p;
      kind = subst IsFlatKind k q.kind;
      fits = subst (λ z. FitsFlat z x) k q.fits;
      same = subst (λ z. flat_plain z x ≡ plain s x) k q.same;
    }

pub list_kind_of : (item : Schema) (array : AnArray) → PairsListOf item (array_type array) → physical_type (array_type array) ≡ array_kind array → IsListKind (array_kind array)
list_kind_of item array p k = subst IsListKind k (list_kind item (array_type array) p)

pub struct_kind_of : (fields : List AvroField) (array : AnArray) → PairsStructOf fields (array_type array) → physical_type (array_type array) ≡ array_kind array → IsStructKind (array_kind array)
struct_kind_of fields array p k = subst IsStructKind k (struct_kind fields (array_type array) p)

pub member_types : (s : Schema) (members given : List Schema) (t : DataType) → s ≡ Union members → given ≡ members → PairsType s t → PairsMemberTypeOf given t
member_types s members given t e same h =
    subst (λ (ms : List Schema). PairsMemberTypeOf ms t) (sym same) (moved (union_type_is members t) (subst (λ z. PairsType z t) e h))

-- a part has as many slots as its ends say
pub part_length : (a b : ℕ) (xs : List Slot) → a ≤ b → b ≤ length xs → length (take (b - a) (drop a xs)) ≡ b - a
part_length a b xs l m = length-take (b - a) (drop a xs) ∙ least
  where
    least : min (b - a) (length (drop a xs)) ≡ b - a
    least = omega (arith, l, m, length-drop a xs)
