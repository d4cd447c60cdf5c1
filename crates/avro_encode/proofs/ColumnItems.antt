-- What a column's slots become by their kind is what they become by their schema, one by one and in runs.
use Rattle.std.proofs.Common.{◌≡◌, ◌∙◌, ℕ, zero, suc, ◌+◌, ◌<◌, ◌≤◌, List, [], ◌∷◌, ◌++◌, length, map, drop, flat_map, slice_index_or, Bool, true, false, inl, inr, Option, Some, None, refl, sym, ap, subst, arith, add-one, append_assoc}
use Rattle.std.specs.List.{All, concat}
use Rattle.std.specs.Prelude.{if◌then◌else◌}
use Rattle.std.proofs.lemmas.Bool.{false≢true}
use Rattle.std.proofs.lemmas.List.{append-nil}
use Rattle.arrow_core.specs.declared.physical.PhysicalType.{PhysicalType}
use Rattle.arrow_core.specs.declared.physical.PhysicalType.TheVariants as physical
use Rattle.arrow_core.specs.declared.physical.PrimitiveType.TheVariants as primitive
use Rattle.arrow_core.specs.declared.slot.Slot.{Slot}
use Rattle.arrow_core.specs.declared.slot.Slot.TheVariants as slot
use Rattle.arrow_core.specs.declared.types.DataType.{DataType}
use Rattle.arrow_core.specs.Layouts.{physical_type}
use Rattle.arrow_array.specs.declared.array.Array.{Array as AnArray}
use Rattle.arrow_array.specs.Arrays.{array_slots, array_type}
use Rattle.arrow_array.specs.Kinds.{array_kind}
use Rattle.arrow_array.specs.Slots.{is_held, slot_at}
use Rattle.avro_schema.specs.declared.schema.BytesLogical.{BytesLogical}
use Rattle.avro_schema.specs.declared.schema.BytesLogical.TheVariants as bytes_logical
use Rattle.avro_schema.specs.declared.schema.FixedLogical.{FixedLogical}
use Rattle.avro_schema.specs.declared.schema.FixedLogical.TheVariants as fixed_logical
use Rattle.avro_schema.specs.declared.schema.Schema.{Schema, Null, Boolean, Int, Long, Float, Double, Bytes, String, Record, Enum, Array', Map', Union', Fixed}
use Rattle.avro_schema.specs.Carried.{IsNoUnion}
use Rattle.avro_schema.specs.Types.{IsString}
use Rattle.avro_encode.specs.Columns.{FitColumn, FitsColumn, column_encoding, column_slots, flat_kind}
use Rattle.avro_encode.specs.Flat.{FitsFlat, HasNoParts, IsFlatKind, flat_plain}
use Rattle.avro_encode.specs.Listed.{index_byte}
use Rattle.avro_encode.specs.Nullable.{FitsNulls, IsOptionalOf, TellsNulls, nullable_encoding}
use Rattle.avro_encode.specs.Pairs.{Pairs}
use Rattle.avro_encode.specs.PairTypes.{PairsBytesType, PairsFixedType, PairsType}
use Rattle.avro_encode.specs.Plain.{plain}
use Rattle.avro_encode.specs.declared.column.ColumnKind.{ColumnKind}
use Rattle.avro_encode.specs.declared.column.ColumnKind.TheVariants as column
use Rattle.avro_encode.specs.declared.nulls.Nulls.{Nulls}
use Rattle.avro_encode.specs.declared.nulls.Nulls.TheVariants as nulls
use Rattle.avro_encode.proofs.Appending.{beside_pairs, beside_null_plain, beside_types, beside_value_plain, flat_slot, member_pairs, member_plain, member_types}
use Rattle.avro_encode.proofs.Groups.{index_is}

-- ---- the kind of a type under a schema without schemas in it

of_kind : (t : DataType) (k : PhysicalType) → IsFlatKind k → physical_type t ≡ k → IsFlatKind (physical_type t)
of_kind t k h e = subst IsFlatKind (sym e) h

bytes_kind : (logical : Option BytesLogical) (t : DataType) → PairsBytesType logical t → IsFlatKind (physical_type t)
bytes_kind None t (inl e) = of_kind t physical.Binary tt (ap physical_type e)
bytes_kind None t (inr e) = of_kind t physical.LargeBinary tt (ap physical_type e.1)
bytes_kind (Some (bytes_logical.Decimal precision scale)) t h = of_kind t (physical.Primitive primitive.Int128) tt (ap physical_type h.2)

string_kind : (t : DataType) → IsString true t → IsFlatKind (physical_type t)
string_kind t (inl e) = of_kind t physical.Utf8 tt (ap physical_type e)
string_kind t (inr e) = of_kind t physical.LargeUtf8 tt (ap physical_type e.1)

fixed_kind : (size : ℕ) (logical : Option FixedLogical) (t : DataType) → PairsFixedType size logical t → IsFlatKind (physical_type t)
fixed_kind size None t h = of_kind t physical.FixedSizeBinary tt (ap physical_type h)
fixed_kind size (Some fixed_logical.Duration) t h = of_kind t (physical.Primitive primitive.MonthDayNano) tt (ap physical_type h)
fixed_kind size (Some (fixed_logical.Decimal precision scale)) t h = absurd h

flat_type : (s : Schema) (t : DataType) → HasNoParts s → PairsType s t → IsFlatKind (physical_type t)
flat_type Boolean t n h = of_kind t physical.Boolean tt (ap physical_type h)
flat_type (Int logical) t n h = of_kind t (physical.Primitive primitive.Int32) tt h
flat_type (Long logical) t n h = of_kind t (physical.Primitive primitive.Int64) tt h
flat_type (Bytes logical) t n h = bytes_kind logical t h
flat_type (String logical) t n h = string_kind t h
flat_type (Fixed f) t n h = fixed_kind f.size f.logical t h
flat_type (Record r) t n h = absurd n
flat_type (Array' shape item) t n h = absurd n
flat_type (Union' shape members) t n h = absurd n
flat_type Null t n h = absurd h
flat_type Float t n h = absurd h
flat_type Double t n h = absurd h
flat_type (Enum e) t n h = absurd h
flat_type (Map' shape value) t n h = absurd h

member_type : (s : Schema) (b : Bool) (t : DataType) (o : IsOptionalOf s b) → PairsType s t → IsNoUnion o.optional.member × PairsType o.optional.member t
member_type s b t o h = beside_types o.members b o.optional.member t o.optional.beside (member_types s o.members o.members t o.is refl h)

pub kind_of : (s : Schema) (n : Nulls) (array : AnArray) → TellsNulls s n → PairsType s (array_type array) → physical_type (array_type array) ≡ array_kind array → IsFlatKind (array_kind array)
kind_of s nulls.Required array p h k = subst IsFlatKind k (flat_type s (array_type array) p h)
kind_of s (nulls.Optional b) array p h k = subst IsFlatKind k (flat_type p.optional.member (array_type array) p.optional.flat (member_type s b (array_type array) p h).1)

-- ---- a slot

-- by its kind and by its schema
record IsNullableSlot (s : Schema) (n : Nulls) (k : PhysicalType) (x : Slot) : Type 0 where
  pub same : nullable_encoding n (flat_plain k) x ≡ plain s x
  pub fits : FitsNulls n (FitsFlat k) x

optional_slot : (s : Schema) (b : Bool) (array : AnArray) (x : Slot) → IsOptionalOf s b → PairsType s (array_type array) → physical_type (array_type array) ≡ array_kind array → Pairs s x
    → (held : Bool) → is_held x ≡ held → IsNullableSlot s (nulls.Optional b) (array_kind array) x
optional_slot s b array x o h k p false e = record {
  same =
      ap (λ z. index_byte b z ∷ (if z then flat_plain (array_kind array) x else [])) e ∙ index_is b false
      ∙ sym (beside_null_plain o.members b o.optional.member x o.optional.beside e) ∙ member_plain s o.members o.members x o.is refl;
  fits = λ held. absurd (false≢true (sym e ∙ held));
}
optional_slot s b array x o h k p true e =
    let m = o.optional.member in
    let pairs = beside_pairs o.members b m x o.optional.beside e (member_pairs s o.members o.members x o.is refl p) in
    let q = flat_slot m array x o.optional.flat (member_type s b (array_type array) o h).1 pairs k in
    record {
      same =
          ap (λ z. index_byte b z ∷ (if z then flat_plain (array_kind array) x else [])) e
          ∙ (λ i. index_is b true i ++ q.same i)
          ∙ sym (beside_value_plain o.members b m x o.optional.beside e) ∙ member_plain s o.members o.members x o.is refl;
      fits = λ held. q.fits;
    }

nullable_slot : (s : Schema) (n : Nulls) (array : AnArray) (x : Slot) → TellsNulls s n → PairsType s (array_type array) → physical_type (array_type array) ≡ array_kind array → Pairs s x → IsNullableSlot s n (array_kind array) x
nullable_slot s nulls.Required array x n h k p = let q = flat_slot s array x n h p k in record { same = q.same; fits = (q.held, q.fits) }
nullable_slot s (nulls.Optional b) array x n h k p = optional_slot s b array x n h k p (is_held x) refl

-- ---- a column

-- the column is that of the array, of slots with nothing beneath them
flat_encoding : (n : Nulls) (c : ColumnKind) (x : Slot) → IsFlatKind (flat_kind c) → column_encoding n c x ≡ nullable_encoding n (flat_plain (flat_kind c)) x
flat_encoding n (column.Nested a s) x h = absurd h
flat_encoding n _ x h = refl

flat_fits : (n : Nulls) (c : ColumnKind) (x : Slot) → IsFlatKind (flat_kind c) → FitsNulls n (FitsFlat (flat_kind c)) x → FitsColumn n c x
flat_fits n (column.Nested a s) x h p = absurd h
flat_fits n _ x h p = p

pub same_items : (f g : Slot → List ℕ) (xs : List Slot) → ((i : ℕ) → i < length xs → f (slot_at xs i) ≡ g (slot_at xs i)) → map f xs ≡ map g xs
same_items f g [] h = refl
same_items f g (x ∷ xs) h = λ j. h 0 (omega arith) j ∷ same_items f g xs (λ i l. h (suc i) (omega (arith, l))) j

module _ (s : Schema) (n : Nulls) (c : ColumnKind) (array : AnArray) (tells : TellsNulls s n) (types : PairsType s (array_type array)) (lies : physical_type (array_type array) ≡ array_kind array)
    (pairs : All (Pairs s) (array_slots array)) (slots : column_slots c ≡ array_slots array) (kind : flat_kind c ≡ array_kind array) where
  flat_is : IsFlatKind (flat_kind c)
  flat_is = subst IsFlatKind (sym kind) (kind_of s n array tells types lies)

  slot_is : (i : ℕ) → i < length (column_slots c) → IsNullableSlot s n (flat_kind c) (slot_at (column_slots c) i)
  slot_is i l =
      let here : i < length (array_slots array) = subst (λ (xs : List Slot). i < length xs) slots l in
      let q = nullable_slot s n array (slot_at (array_slots array) i) tells types lies (pairs i slot.Null here) in
      subst (λ (xs : List Slot). IsNullableSlot s n (flat_kind c) (slot_at xs i)) (sym slots) (subst (λ k. IsNullableSlot s n k (slot_at (array_slots array) i)) (sym kind) q)

  pub flat_fit : FitColumn n c
  flat_fit i l = flat_fits n c (slot_at (column_slots c) i) flat_is (slot_is i l).fits

  pub flat_items : map (column_encoding n c) (column_slots c) ≡ map (plain s) (array_slots array)
  flat_items =
      same_items (column_encoding n c) (plain s) (column_slots c) (λ i l. flat_encoding n c (slot_at (column_slots c) i) flat_is ∙ (slot_is i l).same)
      ∙ ap (map (plain s)) slots

-- ---- runs

left_more : (f : Slot → List ℕ) (slots : List Slot) (i : ℕ) → i < length slots → flat_map f (drop i slots) ≡ f (slot_at slots i) ++ flat_map f (drop (suc i) slots)
left_more f [] i l = absurd (omega (arith, l))
left_more f (x ∷ slots) zero l = refl
left_more f (x ∷ slots) (suc i) l = left_more f slots i (omega (arith, l))

-- one more slot was appended
pub run_step : (f : Slot → List ℕ) (slots : List Slot) (i : ℕ) (now next all : List ℕ) → i < length slots → now ++ flat_map f (drop i slots) ≡ all → next ≡ now ++ f (slot_at slots i) → next ++ flat_map f (drop (i + 1) slots) ≡ all
run_step f slots i now next all l e h =
    ap (λ k. next ++ flat_map f (drop k slots)) (add-one i) ∙ ap (λ (z : List ℕ). z ++ flat_map f (drop (suc i) slots)) h
    ∙ append_assoc now (f (slot_at slots i)) (flat_map f (drop (suc i) slots)) ∙ ap (λ (z : List ℕ). now ++ z) (sym (left_more f slots i l)) ∙ e

none_left : (f : Slot → List ℕ) (slots : List Slot) (i : ℕ) → length slots ≤ i → flat_map f (drop i slots) ≡ []
none_left f [] zero l = refl
none_left f [] (suc i) l = refl
none_left f (x ∷ slots) zero l = absurd (omega (arith, l))
none_left f (x ∷ slots) (suc i) l = none_left f slots i (omega (arith, l))

-- all were
pub run_end : (f : Slot → List ℕ) (slots : List Slot) (i : ℕ) (now all : List ℕ) → length slots ≤ i → now ++ flat_map f (drop i slots) ≡ all → now ≡ all
run_end f slots i now all l e = sym (append-nil now) ∙ ap (λ (z : List ℕ). now ++ z) (sym (none_left f slots i l)) ∙ e

-- ---- items

pub item_is : (f : Slot → List ℕ) (xs : List Slot) (k : ℕ) → k < length xs → slice_index_or (map f xs) k [] ≡ f (slot_at xs k)
item_is f [] k l = absurd (omega (arith, l))
item_is f (x ∷ xs) zero l = refl
item_is f (x ∷ xs) (suc k) l = item_is f xs k (omega (arith, l))

pub items_joined : (f : Slot → List ℕ) (xs : List Slot) (n : ℕ) → flat_map f (drop n xs) ≡ concat (drop n (map f xs))
items_joined f [] zero = refl
items_joined f [] (suc n) = refl
items_joined f (x ∷ xs) zero = ap (λ (z : List ℕ). f x ++ z) (items_joined f xs zero)
items_joined f (x ∷ xs) (suc n) = items_joined f xs n
