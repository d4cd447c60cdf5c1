-- Slots of a type that pairs with a schema pair with it, where they show no flaw.
use mir.Syntax.{w32, w64, w128}
use Rattle.std.proofs.Common.{◌≡◌, ◌∙◌, ℕ, ℤ, pos, negsuc, Bool, true, false, not, ◌&&◌, ◌||◌, inl, inr, ◌⊎◌, List, [], ◌∷◌, Option, Some, None, IsTrue, refl, sym, ap, subst, arith}
use Rattle.std.specs.Prelude.{◌+ℤ◌, ◌*ℤ◌, int_rem, int_le, FitsSigned, T, All}
use Rattle.std.specs.List.{list_any, AllByRecursion}
use Rattle.std.specs.Ordering.{int_eq}
use Rattle.std.proofs.lemmas.Bool.{and_parts, false≢true}
use Rattle.std.proofs.lemmas.Bool.Decides.{Decides-int_eq}
use Rattle.std.proofs.lemmas.Int.{ints, quot-rem}
use Rattle.std.proofs.lemmas.Option.{none-some, same_Some}
use Rattle.std.proofs.lemmas.List.Elements.{All-from_recursion, recursion_from_All}
use Rattle.arrow_core.specs.declared.physical.PhysicalType.TheVariants as physical
use Rattle.arrow_core.specs.declared.physical.PrimitiveType.{PrimitiveType}
use Rattle.arrow_core.specs.declared.physical.PrimitiveType.TheVariants as primitive
use Rattle.arrow_core.specs.declared.slot.Slot.{Slot}
use Rattle.arrow_core.specs.declared.slot.Slot.TheVariants as slot
use Rattle.arrow_core.specs.declared.types.DataType.{DataType, FixedSizeBinary, List', FixedSizeList', LargeList', Struct', Dictionary', Extension', Row_of-Field, end_of-Field, more_of-Field, Row_of-DataType, end_of-DataType, more_of-DataType}
use Rattle.arrow_core.specs.declared.types.DataType.TheVariants as types
use Rattle.arrow_core.specs.declared.types.IntervalUnit.TheVariants as interval
use Rattle.arrow_core.specs.Layouts.{physical_inner, physical_type}
use Rattle.arrow_array.specs.Slots.{is_held}
use Rattle.arrow_array.specs.SlotTypes.{FieldsOf, IsFlat, IsPrimitive, ItemOf, SlotOf, ValueOf}
use Rattle.avro_schema.specs.declared.schema.BytesLogical.{BytesLogical}
use Rattle.avro_schema.specs.declared.schema.BytesLogical.TheVariants as bytes_logical
use Rattle.avro_schema.specs.declared.schema.FixedLogical.{FixedLogical}
use Rattle.avro_schema.specs.declared.schema.FixedLogical.TheVariants as fixed_logical
use Rattle.avro_schema.specs.declared.schema.Record.{Record as TheRecord, Record', Row_of-AvroField, end_of-AvroField, more_of-AvroField}
use Rattle.avro_schema.specs.declared.schema.Schema.{Schema, Null, Boolean, Int, Long, Float, Double, Bytes, String, Record, Enum, Array', Map', Union', Fixed, Row_of-Schema, end_of-Schema, more_of-Schema}
use Rattle.avro_schema.specs.Encodes.{IsInt, is_null}
use Rattle.avro_schema.proofs.Basics.{null_told}
use Rattle.avro_encode.specs.Pairs.{IsCounted, IsDecimal, IsLong, Pairs, PairsBytes, PairsDuration, PairsFields, PairsFixed, PairsItem, PairsRecord, PairsUnion}
use Rattle.avro_encode.specs.PairTypes.{PairsBytesType, PairsFieldTypes, PairsFixedType, PairsItemType, PairsMemberType, PairsRecordType, PairsType, column_types, first_type, item_type, row_types}
use Rattle.avro_encode.specs.Plain.{milliseconds, parts_of}
use Rattle.avro_encode.proofs.PlainLaw.{parts_list, parts_struct}
use Rattle.avro_write.specs.declared.flaws.Flaw.TheVariants as flaw
use Rattle.avro_write.specs.Flaws.{fields_show, fixed_flaw, has_whole, is_whole, item_shows, member_shows, null_flaw, record_shows, shows}
use Rattle.avro_write.proofs.Flawed.{is_null_slot}

-- a slot shows neither flaw
record IsFlawless (s : Schema) (x : Slot) : Type 0 where
  pub null : shows flaw.Null s x ≡ false
  pub interval : shows flaw.Interval s x ≡ false

or_parts : (a b : Bool) → (a || b) ≡ false → (a ≡ false) × (b ≡ false)
or_parts false b h = (refl, h)
or_parts true b h = absurd (false≢true (sym h))

held_is : (x : Slot) → not (is_held x) ≡ false → is_held x ≡ true
held_is x h = from (is_held x) refl h
  where
    from : (b : Bool) → is_held x ≡ b → not (is_held x) ≡ false → is_held x ≡ true
    from true q k = q
    from false q k = absurd (false≢true (sym (rw q at k)))

-- ---- integers

fits_int : (v : ℤ) → FitsSigned w32 v → IsInt v
fits_int (pos n) h = (omega (arith, ints), omega (arith, ints, h.sfits))
fits_int (negsuc n) h = (omega (arith, ints, h.sfits), omega (arith, ints))

fits_long : (v : ℤ) → FitsSigned w64 v → IsLong v
fits_long (pos n) h = (omega (arith, ints), omega (arith, ints, h.sfits))
fits_long (negsuc n) h = (omega (arith, ints, h.sfits), omega (arith, ints))

fits_decimal : (v : ℤ) → FitsSigned w128 v → IsDecimal v
fits_decimal (pos n) h = (omega (arith, ints), omega (arith, ints, h.sfits))
fits_decimal (negsuc n) h = (omega (arith, ints, h.sfits), omega (arith, ints))

-- ---- slots of types with nothing beneath them

mutual
  plain_slot : (p : PrimitiveType) (t : DataType) (x : Slot) → physical_type t ≡ physical.Primitive p → SlotOf t x → IsTrue (is_held x) → IsPrimitive p x
  plain_slot p (FixedSizeBinary width) x e h d = let k : physical.FixedSizeBinary ≡ physical.Primitive p = e in absurd cc
  plain_slot p (List' shape item) x e h d = let k : physical.List ≡ physical.Primitive p = e in absurd cc
  plain_slot p (LargeList' shape item) x e h d = let k : physical.LargeList ≡ physical.Primitive p = e in absurd cc
  plain_slot p (FixedSizeList' shape item size) x e h d = let k : physical.FixedSizeList ≡ physical.Primitive p = e in absurd cc
  plain_slot p (Struct' shape fields) x e h d = let k : physical.Struct ≡ physical.Primitive p = e in absurd cc
  plain_slot p (Dictionary' key shape value is_sorted) x e h d = let k : physical.Dictionary key ≡ physical.Primitive p = e in absurd cc
  plain_slot p (Extension' name shape inner metadata) x e h d = inner_slot p inner x e h d
  plain_slot p _ x e h d = subst (λ k. IsFlat k x) e (h d)

  inner_slot : {m : _} (p : PrimitiveType) (row : Row_of-DataType m) (x : Slot) → physical_inner row ≡ physical.Primitive p → ValueOf row x → IsTrue (is_held x) → IsPrimitive p x
  inner_slot p end_of-DataType x e h d = let k : physical.Null ≡ physical.Primitive p = e in absurd cc
  inner_slot p (more_of-DataType t rest) x e h d = plain_slot p t x e h d

bytes_pair : (logical : Option BytesLogical) (t : DataType) (x : Slot) → PairsBytesType logical t → SlotOf t x → IsTrue (is_held x) → PairsBytes logical x
bytes_pair None t x (inl e) h d = let q = subst (λ z. SlotOf z x) e h d in (q.0, q.1, omega (arith, q.2))
bytes_pair None t x (inr e) h d = let q = subst (λ z. SlotOf z x) e.1 h d in (q.0, q.1, omega (arith, q.2))
bytes_pair (Some (bytes_logical.Decimal precision scale)) t x e h d = let q = subst (λ z. SlotOf z x) e.2 h d in (q.0, q.1, fits_decimal q.0 q.2)

string_pair : (logical : _) (t : DataType) (x : Slot) → PairsType (String logical) t → SlotOf t x → IsTrue (is_held x) → Pairs (String logical) x
string_pair logical t x (inl e) h d = let q = subst (λ z. SlotOf z x) e h d in (q.0, q.1, q.2, omega (arith, q.3))
string_pair logical t x (inr e) h d = let q = subst (λ z. SlotOf z x) e.1 h d in (q.0, q.1, q.2, omega (arith, q.3))

-- ---- durations

whole_is : (ns : ℤ) → is_whole ns ≡ true → (ns ≡ milliseconds ns *ℤ pos 1000000) × IsInt (milliseconds ns)
whole_is ns h =
    let a = and_parts (int_eq (int_rem ns (pos 1000000)) (pos 0)) _ h in
    let b = and_parts (int_le (negsuc 2147483647) (milliseconds ns)) (int_le (milliseconds ns) (pos 2147483647)) a.1 in
    let none : int_rem ns (pos 1000000) ≡ pos 0 = (Decides-int_eq (int_rem ns (pos 1000000)) (pos 0)).0 a.0 in
    (sym (quot-rem ns (pos 1000000)) ∙ ap (λ z. milliseconds ns *ℤ pos 1000000 +ℤ z) none ∙ omega (arith, ints), (record { le = subst T (sym b.0) tt }, record { le = subst T (sym b.1) tt }))

duration_pair : (t : DataType) (x : Slot) → t ≡ types.Interval interval.MonthDayNano → SlotOf t x → IsTrue (is_held x) → not (has_whole (parts_of x)) ≡ false → PairsDuration x
duration_pair t x e h d f =
    let q = subst (λ z. SlotOf z x) e h d in
    let parts : parts_of x ≡ slot.Integer q.0 ∷ slot.Integer q.1 ∷ slot.Integer q.2 ∷ [] = ap parts_of q.3 ∙ parts_struct _ in
    let w = whole_is q.2 (not_false (is_whole q.2) (sym (ap (λ z. not (has_whole z)) parts) ∙ f)) in
    (q.0, q.1, milliseconds q.2, q.3 ∙ ap (λ z. slot.Struct (slot.Integer q.0 ∷ slot.Integer q.1 ∷ slot.Integer z ∷ [])) w.0, fits_int q.0 q.4, fits_int q.1 q.5, w.1)
  where
    not_false : (b : Bool) → not b ≡ false → b ≡ true
    not_false true k = refl
    not_false false k = absurd (false≢true (sym k))

fixed_pair : (size : ℕ) (logical : Option FixedLogical) (t : DataType) (x : Slot) → PairsFixedType size logical t → SlotOf t x → is_held x ≡ true → fixed_flaw flaw.Interval logical x ≡ false → PairsFixed size logical x
fixed_pair size None t x e h d f = let q = subst (λ z. SlotOf z x) e h d in (q.0, q.1, q.2)
fixed_pair size (Some fixed_logical.Duration) t x e h d f = duration_pair t x e h d (rw d at f)
fixed_pair size (Some (fixed_logical.Decimal precision scale)) t x e h d f = absurd e

-- ---- lists and structs

-- each item shows neither flaw
items_pair : (P : Slot → Type 0) (Q : Slot → Type 0) (n i : Slot → Bool) → ((x : Slot) → Q x → n x ≡ false → i x ≡ false → P x) → (xs : List Slot) → AllByRecursion Q xs → list_any n xs ≡ false → list_any i xs ≡ false → AllByRecursion P xs
items_pair P Q n i f [] h a b = tt
items_pair P Q n i f (x ∷ xs) h a b =
    let p = or_parts (n x) (list_any n xs) a in
    let q = or_parts (i x) (list_any i xs) b in
    (f x h.0 p.0 q.0, items_pair P Q n i f xs h.1 p.1 q.1)

-- the items of a list are of the type of its items
row_slots : {m : _} (field : Row_of-Field m) (u : DataType) (xs : List Slot) → first_type field ≡ Some u → AllByRecursion (ItemOf field) xs → AllByRecursion (SlotOf u) xs
row_slots end_of-Field u xs e h = absurd (none-some u e)
row_slots (more_of-Field name t is_nullable metadata rest) u [] e h = tt
row_slots (more_of-Field name t is_nullable metadata rest) u (x ∷ xs) e h =
    (subst (λ z. SlotOf z x) (same_Some t u e) h.0, row_slots (more_of-Field name t is_nullable metadata rest) u xs e h.1)

list_slot : (t u : DataType) (x : Slot) → item_type t ≡ Some u → SlotOf t x → IsTrue (is_held x) → (xs : List Slot) × (x ≡ slot.List xs) × IsCounted xs × AllByRecursion (SlotOf u) xs
list_slot (List' shape field) u x e h d = let q = h d in (q.0, q.1, omega (arith, q.2), row_slots field u q.0 e (recursion_from_All (ItemOf field) q.0 q.3))
list_slot (LargeList' shape field) u x e h d = let q = h d in (q.0, q.1, omega (arith, q.2), row_slots field u q.0 e (recursion_from_All (ItemOf field) q.0 q.3))
list_slot _ u x e h d = absurd (none-some u e)

-- as many slots as types, in order
abbrev AreOf : List DataType → List Slot → Type 0
AreOf [] [] = Unit {0}
AreOf [] (x ∷ xs) = ⊥
AreOf (t ∷ ts) [] = ⊥
AreOf (t ∷ ts) (x ∷ xs) = SlotOf t x × AreOf ts xs

fields_of : {m : _} (columns : Row_of-Field m) (xs : List Slot) → FieldsOf columns xs → AreOf (row_types columns) xs
fields_of end_of-Field [] h = tt
fields_of end_of-Field (x ∷ xs) h = absurd h
fields_of (more_of-Field name t is_nullable metadata rest) [] h = absurd h
fields_of (more_of-Field name t is_nullable metadata rest) (x ∷ xs) h = (h.0, fields_of rest xs h.1)

struct_slot : (t : DataType) (ts : List DataType) (x : Slot) → column_types t ≡ Some ts → SlotOf t x → IsTrue (is_held x) → (xs : List Slot) × (x ≡ slot.Struct xs) × AreOf ts xs
struct_slot (Struct' shape columns) ts x e h d = let q = h d in (q.0, q.1, subst (λ (zs : List DataType). AreOf zs q.0) (same_Some (row_types columns) ts e) (fields_of columns q.0 q.2))
struct_slot _ ts x e h d = absurd (none-some ts e)

-- ---- unions

beside : (x : Slot) (P : Type 0) (held : Bool) → is_held x ≡ held → (held ≡ true → P) → (x ≡ slot.Null) ⊎ P
beside x P false q f = inl (is_null_slot x q)
beside x P true q f = inr (f refl)

no_null : (s : Schema) (t : DataType) → PairsType s t → is_null s ≡ false
no_null Null t p = absurd p
no_null _ t p = refl

-- ---- every schema

mutual
  pub slot_pairs : (s : Schema) (t : DataType) (x : Slot) → PairsType s t → SlotOf t x → shows flaw.Null s x ≡ false → shows flaw.Interval s x ≡ false → Pairs s x
  slot_pairs Boolean t x p h a b = subst (λ z. SlotOf z x) p h (held_is x a)
  slot_pairs (Int logical) t x p h a b = let q = plain_slot primitive.Int32 t x p h (held_is x a) in (q.0, q.1, fits_int q.0 q.2)
  slot_pairs (Long logical) t x p h a b = let q = plain_slot primitive.Int64 t x p h (held_is x a) in (q.0, q.1, fits_long q.0 q.2)
  slot_pairs (Bytes logical) t x p h a b = bytes_pair logical t x p h (held_is x a)
  slot_pairs (String logical) t x p h a b = string_pair logical t x p h (held_is x a)
  slot_pairs (Record r) t x p h a b =
      let n = or_parts (null_flaw flaw.Null x) (record_shows flaw.Null r (parts_of x)) a in
      record_pairs r (column_types t) x p (λ ts e. struct_slot t ts x e h (held_is x n.0)) n.1 (or_parts (null_flaw flaw.Interval x) (record_shows flaw.Interval r (parts_of x)) b).1
  slot_pairs (Array' shape item) t x p h a b =
      let n = or_parts (null_flaw flaw.Null x) (list_any (item_shows flaw.Null item) (parts_of x)) a in
      array_pairs item (item_type t) x p (λ u e. list_slot t u x e h (held_is x n.0)) n.1 (or_parts (null_flaw flaw.Interval x) (list_any (item_shows flaw.Interval item) (parts_of x)) b).1
  slot_pairs (Union' shape members) t x p h a b = union_pairs members t x p h a b
  slot_pairs (Fixed f) t x p h a b =
      let n = or_parts (null_flaw flaw.Null x) (fixed_flaw flaw.Null f.logical x) a in
      fixed_pair f.size f.logical t x p h (held_is x n.0) (or_parts (null_flaw flaw.Interval x) (fixed_flaw flaw.Interval f.logical x) b).1
  slot_pairs Null t x p h a b = absurd p
  slot_pairs Float t x p h a b = absurd p
  slot_pairs Double t x p h a b = absurd p
  slot_pairs (Enum e) t x p h a b = absurd p
  slot_pairs (Map' shape value) t x p h a b = absurd p

  array_pairs : {m : _} (item : Row_of-Schema m) (o : Option DataType) (x : Slot) → PairsItemType item o → ((u : DataType) → o ≡ Some u → (xs : List Slot) × (x ≡ slot.List xs) × IsCounted xs × AllByRecursion (SlotOf u) xs)
      → list_any (item_shows flaw.Null item) (parts_of x) ≡ false → list_any (item_shows flaw.Interval item) (parts_of x) ≡ false → (xs : List Slot) × (x ≡ slot.List xs) × IsCounted xs × AllByRecursion (PairsItem item) xs
  array_pairs end_of-Schema o x p f a b = absurd p
  array_pairs (more_of-Schema s rest) None x p f a b = absurd p
  array_pairs (more_of-Schema s rest) (Some u) x p f a b =
      let q = f u refl in
      let same : parts_of x ≡ q.0 = ap parts_of q.1 ∙ parts_list q.0 in
      let n : list_any (shows flaw.Null s) q.0 ≡ false = sym (ap (list_any (shows flaw.Null s)) same) ∙ a in
      let i : list_any (shows flaw.Interval s) q.0 ≡ false = sym (ap (list_any (shows flaw.Interval s)) same) ∙ b in
      (q.0, q.1, q.2, items_pair (Pairs s) (SlotOf u) (shows flaw.Null s) (shows flaw.Interval s) (λ y g k l. slot_pairs s u y p g k l) q.0 q.3 n i)

  record_pairs : (r : TheRecord) (o : Option (List DataType)) (x : Slot) → PairsRecordType r o → ((ts : List DataType) → o ≡ Some ts → (xs : List Slot) × (x ≡ slot.Struct xs) × AreOf ts xs)
      → record_shows flaw.Null r (parts_of x) ≡ false → record_shows flaw.Interval r (parts_of x) ≡ false → (xs : List Slot) × (x ≡ slot.Struct xs) × PairsRecord r xs
  record_pairs (Record' name namespace doc shape fields) None x p f a b = absurd p
  record_pairs (Record' name namespace doc shape fields) (Some ts) x p f a b =
      let q = f ts refl in
      let same : parts_of x ≡ q.0 = ap parts_of q.1 ∙ parts_struct q.0 in
      (q.0, q.1, fields_pair fields ts q.0 p q.2 (sym (ap (fields_show flaw.Null fields) same) ∙ a) (sym (ap (fields_show flaw.Interval fields) same) ∙ b))

  fields_pair : {m : _} (row : Row_of-AvroField m) (ts : List DataType) (xs : List Slot) → PairsFieldTypes row ts → AreOf ts xs → fields_show flaw.Null row xs ≡ false → fields_show flaw.Interval row xs ≡ false → PairsFields row xs
  fields_pair end_of-AvroField [] [] p h a b = tt
  fields_pair end_of-AvroField [] (x ∷ xs) p h a b = absurd h
  fields_pair end_of-AvroField (t ∷ ts) xs p h a b = absurd p
  fields_pair (more_of-AvroField name doc s rest) [] xs p h a b = absurd p
  fields_pair (more_of-AvroField name doc s rest) (t ∷ ts) [] p h a b = absurd h
  fields_pair (more_of-AvroField name doc s rest) (t ∷ ts) (x ∷ xs) p h a b =
      let n = or_parts (shows flaw.Null s x) (fields_show flaw.Null rest xs) a in
      let i = or_parts (shows flaw.Interval s x) (fields_show flaw.Interval rest xs) b in
      (slot_pairs s t x p.0 h.0 n.0 i.0, fields_pair rest ts xs p.1 h.1 n.1 i.1)

  union_pairs : {m : _} (row : Row_of-Schema m) (t : DataType) (x : Slot) → PairsMemberType row t → SlotOf t x → (is_held x && member_shows flaw.Null row x) ≡ false → (is_held x && member_shows flaw.Interval row x) ≡ false → PairsUnion row x
  union_pairs (more_of-Schema s (more_of-Schema u end_of-Schema)) t x (inl (n, o, p)) h a b =
      inl (n, o, beside x (Pairs u x) (is_held x) refl (λ e. slot_pairs u t x p h (rw (e, null_told s n) at a) (rw (e, null_told s n) at b)))
  union_pairs (more_of-Schema s (more_of-Schema u end_of-Schema)) t x (inr (n, o, p)) h a b =
      inr (n, o, beside x (Pairs s x) (is_held x) refl (λ e. slot_pairs s t x p h (rw (e, no_null s t p) at a) (rw (e, no_null s t p) at b)))
  union_pairs _ t x p h a b = absurd p

-- ---- a column

pub all_pair : (s : Schema) (t : DataType) (xs : List Slot) → PairsType s t → All (SlotOf t) xs → list_any (shows flaw.Null s) xs ≡ false → list_any (shows flaw.Interval s) xs ≡ false → All (Pairs s) xs
all_pair s t xs p h a b = All-from_recursion (Pairs s) xs (items_pair (Pairs s) (SlotOf t) (shows flaw.Null s) (shows flaw.Interval s) (λ y g k l. slot_pairs s t y p g k l) xs (recursion_from_All (SlotOf t) xs h) a b)
