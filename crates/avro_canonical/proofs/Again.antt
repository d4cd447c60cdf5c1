-- Slots that were decoded show no flaw under the schema of their column.
use Rattle.std.proofs.Common.{◌≡◌, ◌∙◌, ◌⊎◌, inl, inr, ℕ, zero, suc, ◌+◌, ◌^◌, ◌<◌, ◌≤◌, ℤ, pos, negsuc, Bool, true, false, not, cond, ◌&&◌, ◌||◌, eqb, List, [], ◌∷◌, ◌++◌, length, take, drop, Option, Some, None, refl, sym, ap, subst, arith}
use Rattle.std.specs.Prelude.{◌*ℤ◌, int_rem, int_le, T, nat_lt}
use Rattle.std.specs.List.{list_any}
use Rattle.std.specs.Ordering.{int_eq}
use Rattle.std.proofs.lemmas.Bool.{and_parts, false≢true, cases_lt, lt-ltb, le-ltb}
use Rattle.std.proofs.lemmas.Bool.Decides.{Decides-int_eq, nat_tests}
use Rattle.std.proofs.lemmas.Int.{ints}
use Rattle.std.proofs.lemmas.Option.{none-some, same_Some}
use Rattle.arrow_core.specs.declared.slot.Slot.{Slot}
use Rattle.arrow_core.specs.declared.slot.Slot.TheVariants as slot
use Rattle.arrow_core.specs.declared.types.Field.{Field}
use Rattle.arrow_core.specs.declared.types.DataType.{DataType}
use Rattle.arrow_core.specs.declared.types.DataType.TheVariants as types
use Rattle.arrow_core.specs.declared.types.DataType.TheBlock.{shape-the_row-DataType-2, hidden-the_row-DataType-2}
use Rattle.arrow_array.specs.Slots.{is_held}
use Rattle.avro_schema.specs.declared.schema.AvroField.{AvroField}
use Rattle.avro_schema.specs.declared.schema.BytesLogical.{BytesLogical}
use Rattle.avro_schema.specs.declared.schema.BytesLogical.TheVariants as bytes_logical
use Rattle.avro_schema.specs.declared.schema.FixedLogical.{FixedLogical}
use Rattle.avro_schema.specs.declared.schema.FixedLogical.TheVariants as fixed_logical
use Rattle.avro_schema.specs.declared.schema.IntLogical.{IntLogical}
use Rattle.avro_schema.specs.declared.schema.IntLogical.TheVariants as int_logical
use Rattle.avro_schema.specs.declared.schema.LongLogical.{LongLogical}
use Rattle.avro_schema.specs.declared.schema.LongLogical.TheVariants as long_logical
use Rattle.avro_schema.specs.declared.schema.Record.{Record as TheRecord, Record', out-Record, out-roll-Record, Row_of-AvroField, end_of-AvroField, more_of-AvroField}
use Rattle.avro_schema.specs.declared.schema.Schema.{Schema, Null, Boolean, Int, Long, Float, Double, Bytes, String, Record, Enum, Array, Union, Array', Map', Union', Fixed, Row_of-Schema, end_of-Schema, more_of-Schema}
use Rattle.avro_schema.specs.AndThen.{◌>>=◌}
use Rattle.avro_schema.specs.Carried.{Carried, CarriedFields, CarriedItem, CarriedRecord, CarriedUnion, HasFields, IsFixedSize, IsNoUnion}
use Rattle.avro_schema.specs.Encodes.{Encodes, EncodesFields, EncodesFixed, EncodesBytes, EncodesItem, EncodesMember, EncodesRecord, IsInt, IsNull, duration, is_null, little_endian, signed_32}
use Rattle.avro_schema.specs.Inferred.{bytes_type, column_field, inferred, inferred_fields, inferred_item, inferred_member, inferred_record, is_item, item_name}
use Rattle.avro_schema.specs.Parts.{BlockOf, Blocks, Many, last, block}
use Rattle.avro_schema.specs.Types.{fixed_type, int_type, is_union, long_type, symbol_type}
use Rattle.avro_schema.specs.ValidBlock.{AnyHasPart, FieldHasPart, HasFloat, IsFloat, RecordHasPart}
use Rattle.avro_schema.proofs.Basics.{bind_some, null_is, null_told}
use Rattle.avro_types.specs.Listed.{can_serialize_all, named_all}
use Rattle.avro_types.specs.Named.{named, named_record, nameless_in}
use Rattle.avro_types.specs.Schemas.{can_serialize, column_schema, columns_fields, nameless_fixed, optional, plain_field, plain_record, record_name, schema_of, structs_in}
use Rattle.avro_types.proofs.ByFields.{list_schema, list_serializable, struct_schema_is, struct_serializable}
use Rattle.avro_types.proofs.Renamed.{array_named, record_named, union_named}
use Rattle.avro_encode.specs.Plain.{milliseconds, parts_of}
use Rattle.avro_encode.proofs.Milliseconds.{whole}
use Rattle.avro_encode.proofs.PlainLaw.{parts_list, parts_struct}
use Rattle.avro_write.specs.declared.flaws.Flaw.{Flaw}
use Rattle.avro_write.specs.declared.flaws.Flaw.TheVariants as flaw
use Rattle.avro_write.specs.Flaws.{fixed_flaw, has_whole, is_whole, shows}
use Rattle.avro_write.specs.Shown.{fields_show_of, member_shows_of}
use Rattle.avro_write.proofs.Flawed.{no_null_flaw, of_array, of_fixed, of_record, of_union}
use Rattle.avro_canonical.specs.Laws.{AreBytes, DecodedIsSerializable}

-- ---- bytes in parts

split : (xs ys : List ℕ) → AreBytes (xs ++ ys) → AreBytes xs × AreBytes ys
split [] ys h = (tt, h)
split (x ∷ xs) ys h = let r = split xs ys h.1 in ((h.0, r.0), r.1)

pub parts : (bytes xs ys : List ℕ) → bytes ≡ xs ++ ys → AreBytes bytes → AreBytes xs × AreBytes ys
parts bytes xs ys e h = split xs ys (subst AreBytes e h)

-- ---- durations

drop_bytes : (n : ℕ) (xs : List ℕ) → AreBytes xs → AreBytes (drop n xs)
drop_bytes zero xs h = h
drop_bytes (suc n) [] h = tt
drop_bytes (suc n) (x ∷ xs) h = drop_bytes n xs h.1

four_below : (xs : List ℕ) → AreBytes xs → little_endian (take 4 xs) < 2 ^ 32
four_below [] h = omega arith
four_below (a ∷ []) h = omega (arith, h.0)
four_below (a ∷ b ∷ []) h = omega (arith, h.0, h.1.0)
four_below (a ∷ b ∷ c ∷ []) h = omega (arith, h.0, h.1.0, h.1.1.0)
four_below (a ∷ b ∷ c ∷ d ∷ xs) h = omega (arith, h.0, h.1.0, h.1.1.0, h.1.1.1.0)

signed_is_int : (xs : List ℕ) → little_endian xs < 2 ^ 32 → IsInt (signed_32 xs)
signed_is_int xs lt = from (cases_lt (little_endian xs) (2 ^ 31))
  where
    from : (little_endian xs < 2 ^ 31) ⊎ (2 ^ 31 ≤ little_endian xs) → IsInt (signed_32 xs)
    from (inl l) = rw (lt-ltb (little_endian xs) (2 ^ 31) l) (omega (arith, ints), omega (arith, ints, l))
    from (inr g) = rw (le-ltb (little_endian xs) (2 ^ 31) g) (omega (arith, ints, g, lt), omega (arith, ints, g, lt))

true_of : (b : Bool) → T b → b ≡ true
true_of true h = refl
true_of false h = absurd h

whole_int : (ms : ℤ) → IsInt ms → is_whole (ms *ℤ pos 1000000) ≡ true
whole_int ms h =
    let none : int_rem (ms *ℤ pos 1000000) (pos 1000000) ≡ pos 0 = omega (arith, ints) in
    let a : int_eq (int_rem (ms *ℤ pos 1000000) (pos 1000000)) (pos 0) ≡ true = (Decides-int_eq (int_rem (ms *ℤ pos 1000000) (pos 1000000)) (pos 0)).1 none in
    let e : milliseconds (ms *ℤ pos 1000000) ≡ ms = whole ms in
    let b : int_le (negsuc 2147483647) (milliseconds (ms *ℤ pos 1000000)) ≡ true = ap (int_le (negsuc 2147483647)) e ∙ true_of _ h.0.le in
    let c : int_le (milliseconds (ms *ℤ pos 1000000)) (pos 2147483647) ≡ true = ap (λ z. int_le z (pos 2147483647)) e ∙ true_of _ h.1.le in
    rw (a, b, c) refl

duration_whole : (bytes : List ℕ) → AreBytes bytes → has_whole (parts_of (duration bytes)) ≡ true
duration_whole bytes h =
    let ms = signed_32 (take 4 (drop 8 bytes)) in
    ap has_whole (parts_struct _) ∙ whole_int ms (signed_is_int (take 4 (drop 8 bytes)) (four_below (drop 8 bytes) (drop_bytes 8 bytes h)))

-- ---- types with nothing beneath them

-- what is known of a column's type and of its slots, once the schema of its values has names
record IsAgain (b : Bool) (s z : Schema) (t : DataType) : Type 0 where
  pub serializable : can_serialize t ≡ true
  pub clean : (f : Flaw) (n : ℕ) (bytes : List ℕ) (x : Slot) → AreBytes bytes → Encodes s bytes x → shows f (named n (optional b (is_union s) z)) x ≡ false

type_is : (b : Bool) (k : ℕ) (a t : DataType) (z : Schema) → Some a ≡ Some t → schema_of b k t ≡ Some z → schema_of b k a ≡ Some z
type_is b k a t z e q = ap (schema_of b k) (same_Some a t e) ∙ q

serial : (a t : DataType) → Some a ≡ Some t → can_serialize a ≡ true → can_serialize t ≡ true
serial a t e h = ap can_serialize (sym (same_Some a t e)) ∙ h

shown : (f : Flaw) (n : ℕ) (a z : Schema) (x : Slot) → Some a ≡ Some z → shows f (named n a) x ≡ false → shows f (named n z) x ≡ false
shown f n a z x e h = ap (λ y. shows f (named n y) x) (sym (same_Some a z e)) ∙ h

int_again : (b : Bool) (k : ℕ) (logical : Option IntLogical) (z : Schema) → schema_of b k (int_type logical) ≡ Some z → (can_serialize (int_type logical) ≡ true) × ((f : Flaw) (n : ℕ) (x : Slot) → is_held x ≡ true → shows f (named n z) x ≡ false)
int_again b k None z e = (refl, λ f n x h. shown f n _ z x e (no_null_flaw f x h))
int_again b k (Some int_logical.Date) z e = (refl, λ f n x h. shown f n _ z x e (no_null_flaw f x h))
int_again b k (Some int_logical.Time) z e = (refl, λ f n x h. shown f n _ z x e (no_null_flaw f x h))

long_again : (b : Bool) (k : ℕ) (logical : Option LongLogical) (z : Schema) → schema_of b k (long_type logical) ≡ Some z → (can_serialize (long_type logical) ≡ true) × ((f : Flaw) (n : ℕ) (x : Slot) → is_held x ≡ true → shows f (named n z) x ≡ false)
long_again b k None z e = (refl, λ f n x h. shown f n _ z x e (no_null_flaw f x h))
long_again b k (Some long_logical.Time) z e = (refl, λ f n x h. shown f n _ z x e (no_null_flaw f x h))
long_again b k (Some long_logical.TimestampMillis) z e = (refl, λ f n x h. shown f n _ z x e (no_null_flaw f x h))
long_again b k (Some long_logical.TimestampMicros) z e = (refl, λ f n x h. shown f n _ z x e (no_null_flaw f x h))
long_again b k (Some long_logical.TimestampNanos) z e = (refl, λ f n x h. shown f n _ z x e (no_null_flaw f x h))
long_again b k (Some long_logical.LocalTimestampMillis) z e = (refl, λ f n x h. shown f n _ z x e (no_null_flaw f x h))
long_again b k (Some long_logical.LocalTimestampMicros) z e = (refl, λ f n x h. shown f n _ z x e (no_null_flaw f x h))
long_again b k (Some long_logical.LocalTimestampNanos) z e = (refl, λ f n x h. shown f n _ z x e (no_null_flaw f x h))

bytes_again : (b : Bool) (k : ℕ) (logical : Option BytesLogical) (z : Schema) → schema_of b k (bytes_type logical) ≡ Some z
    → (can_serialize (bytes_type logical) ≡ true) × ((f : Flaw) (n : ℕ) (bytes : List ℕ) (x : Slot) → EncodesBytes logical bytes x → shows f (named n z) x ≡ false)
bytes_again b k None z e = (refl, λ f n bytes x h. shown f n _ z x e (no_null_flaw f x (ap is_held h.means)))
bytes_again b k (Some (bytes_logical.Decimal precision scale)) z e = (refl, λ f n bytes x h. shown f n _ z x e (no_null_flaw f x (ap is_held h.means)))

no_fixed_flaw : (f : Flaw) (x : Slot) → fixed_flaw f None x ≡ false
no_fixed_flaw flaw.Null x = refl
no_fixed_flaw flaw.Interval x = refl

whole_interval : (f : Flaw) (x : Slot) → has_whole (parts_of x) ≡ true → fixed_flaw f (Some fixed_logical.Duration) x ≡ false
whole_interval flaw.Null x h = refl
whole_interval flaw.Interval x h = rw h (none (is_held x))
  where
    none : (b : Bool) → (b && false) ≡ false
    none true = refl
    none false = refl

some_bytes : (size : ℕ) → 1 ≤ size → nat_lt 0 size ≡ true
some_bytes size h = lt-ltb 0 size (omega (arith, h))

fixed_again : (b : Bool) (k size : ℕ) (logical : Option FixedLogical) (z : Schema) → IsFixedSize size logical → schema_of b k (fixed_type size logical) ≡ Some z
    → (can_serialize (fixed_type size logical) ≡ true) × ((f : Flaw) (n : ℕ) (bytes : List ℕ) (x : Slot) → AreBytes bytes → EncodesFixed size logical bytes x → shows f (named n z) x ≡ false)
fixed_again b k size None z c e = (
  some_bytes size c,
  λ f n bytes x are h. shown f n (nameless_fixed size None) z x e (sym (of_fixed f (named n (nameless_fixed size None)) _ x refl (ap is_held h.means)) ∙ no_fixed_flaw f x),
)
fixed_again b k size (Some (fixed_logical.Decimal precision scale)) z c e = (refl, λ f n bytes x are h. shown f n _ z x e (no_null_flaw f x (ap is_held h.means)))
fixed_again b k size (Some fixed_logical.Duration) z c e = (
  refl,
  λ f n bytes x are h.
      let raw : AreBytes h.value = subst AreBytes (sym h.encoded.1) are in
      let w : has_whole (parts_of x) ≡ true = ap (λ y. has_whole (parts_of y)) h.means ∙ duration_whole h.value raw in
      shown f n (nameless_fixed 12 (Some fixed_logical.Duration)) z x e (sym (of_fixed f (named n (nameless_fixed 12 (Some fixed_logical.Duration))) _ x refl (ap is_held h.means)) ∙ whole_interval f x w),
)

-- a dictionary has no schema
no_symbols : (b : Bool) (k : ℕ) → schema_of b k symbol_type ≡ None
unfolding shape-the_row-DataType-2 hidden-the_row-DataType-2 denote.Hole.Carrier.hidden
no_symbols b k = refl

-- ---- unions

no_null : (s : Schema) → is_item s ≡ true → is_null s ≡ false
no_null s h = from (is_null s) refl (and_parts (not (is_null s)) (not (is_union s)) h).0
  where
    from : (b : Bool) → is_null s ≡ b → not (is_null s) ≡ true → is_null s ≡ false
    from false q k = q
    from true q k = absurd (false≢true (rw q at k))

no_union : (s : Schema) → is_item s ≡ true → is_union s ≡ false
no_union s h = from (is_union s) refl (and_parts (not (is_null s)) (not (is_union s)) h).1
  where
    from : (b : Bool) → is_union s ≡ b → not (is_union s) ≡ true → is_union s ≡ false
    from false q k = q
    from true q k = absurd (false≢true (rw q at k))

null_encodes : (s : Schema) (bytes : List ℕ) (x : Slot) → IsNull s → Encodes s bytes x → ⊥
null_encodes Null bytes x n h = h
null_encodes _ bytes x n h = absurd n

null_shows : (f : Flaw) (x : Slot) → is_held x ≡ true → shows f Null x ≡ false
null_shows f x h = no_null_flaw f x h

either : (f : Flaw) (x : Slot) (t : Bool) (s : Schema) → is_held x ≡ true → shows f s x ≡ false → cond t (shows f Null x) (shows f s x) ≡ false
either f x true s h e = null_shows f x h
either f x false s h e = e

-- a value that shows no flaw shows none in a union with null, and neither does a null
beside_null : (b : Bool) (f : Flaw) (n : ℕ) (z : Schema) (x : Slot) → ((m : ℕ) → is_held x ≡ true → shows f (named m z) x ≡ false) → shows f (named n (optional b true z)) x ≡ false
beside_null true f n z x h =
    sym (of_union f (named n (Union (Null ∷ z ∷ []))) (Null ∷ named (n + 0) z ∷ []) (Null ∷ named (n + 0) z ∷ []) x (union_named n (Null ∷ z ∷ [])) refl) ∙ from (is_held x) refl
  where
    from : (t : Bool) → is_held x ≡ t → (is_held x && member_shows_of f (Null ∷ named (n + 0) z ∷ []) x) ≡ false
    from false q = rw q refl
    from true q = rw q (h (n + 0) q)
beside_null false f n z x h =
    sym (of_union f (named n (Union (z ∷ Null ∷ []))) (named n z ∷ Null ∷ []) (named n z ∷ Null ∷ []) x (union_named n (z ∷ Null ∷ [])) refl) ∙ from (is_held x) refl
  where
    from : (t : Bool) → is_held x ≡ t → (is_held x && member_shows_of f (named n z ∷ Null ∷ []) x) ≡ false
    from false q = rw q refl
    from true q = rw q (either f x (is_null (named n z)) (named n z) q (h n q))

-- what is known of a schema, of each type that it gives
abbrev Again : Bool → Schema → Type 0
Again b s = (k : ℕ) (t : DataType) (z : Schema) → Carried s → (HasFloat s → ⊥) → inferred s ≡ Some t → schema_of b k t ≡ Some z → IsAgain b s z t

-- what is known of a union's members
record UnionAgain {m : _} (b : Bool) (row : Row_of-Schema m) (z : Schema) (t : DataType) : Type 0 where
  pub serializable : can_serialize t ≡ true
  pub clean : (f : Flaw) (n i : ℕ) (bytes : List ℕ) (x : Slot) → AreBytes bytes → EncodesMember row i bytes x → shows f (named n (optional b true z)) x ≡ false

not_held : (x : Slot) → x ≡ slot.Null → is_held x ≡ true → ⊥
not_held x e h = false≢true (sym (ap is_held e) ∙ h)

-- the member that is no null, which has the column's type
of_item : (b : Bool) (s z : Schema) (t : DataType) → is_item s ≡ true → IsAgain b s z t → (f : Flaw) (n : ℕ) (bytes : List ℕ) (x : Slot) → AreBytes bytes → (Encodes s bytes x ⊎ (IsNull s × (bytes ≡ []) × (x ≡ slot.Null))) → shows f (named n (optional b true z)) x ≡ false
of_item b s z t item a f n bytes x are (inl h) =
    beside_null b f n z x (λ m held. subst (λ u. shows f (named m (optional b u z)) x ≡ false) (no_union s item) (a.clean f m bytes x are h))
of_item b s z t item a f n bytes x are (inr h) = absurd (false≢true (sym (no_null s item) ∙ null_told s h.0))

-- the null
of_null : (b : Bool) (s z : Schema) → IsNull s → (f : Flaw) (n : ℕ) (bytes : List ℕ) (x : Slot) → (Encodes s bytes x ⊎ (IsNull s × (bytes ≡ []) × (x ≡ slot.Null))) → shows f (named n (optional b true z)) x ≡ false
of_null b s z null f n bytes x (inl h) = absurd (null_encodes s bytes x null h)
of_null b s z null f n bytes x (inr h) = beside_null b f n z x (λ m held. absurd (not_held x h.2 held))

null_first : (b : Bool) (s u z : Schema) (t : DataType) → IsNull s → is_item u ≡ true → IsAgain b u z t → UnionAgain b (more_of-Schema s (more_of-Schema u end_of-Schema)) z t
null_first b s u z t null item a = record { serializable = a.serializable; clean = clean }
  where
    clean : (f : Flaw) (n i : ℕ) (bytes : List ℕ) (x : Slot) → AreBytes bytes → EncodesMember (more_of-Schema s (more_of-Schema u end_of-Schema)) i bytes x → shows f (named n (optional b true z)) x ≡ false
    clean f n zero bytes x are h = of_null b s z null f n bytes x h
    clean f n (suc zero) bytes x are h = of_item b u z t item a f n bytes x are h
    clean f n (suc (suc i)) bytes x are h = absurd h

null_second : (b : Bool) (s u z : Schema) (t : DataType) → IsNull u → is_item s ≡ true → IsAgain b s z t → UnionAgain b (more_of-Schema s (more_of-Schema u end_of-Schema)) z t
null_second b s u z t null item a = record { serializable = a.serializable; clean = clean }
  where
    clean : (f : Flaw) (n i : ℕ) (bytes : List ℕ) (x : Slot) → AreBytes bytes → EncodesMember (more_of-Schema s (more_of-Schema u end_of-Schema)) i bytes x → shows f (named n (optional b true z)) x ≡ false
    clean f n zero bytes x are h = of_item b s z t item a f n bytes x are h
    clean f n (suc zero) bytes x are h = of_null b u z null f n bytes x h
    clean f n (suc (suc i)) bytes x are h = absurd h

carried_second : (s u : Schema) → IsNull s → is_item u ≡ true → (IsNull s × Carried u × IsNoUnion u) ⊎ (Carried s × IsNoUnion s × IsNull u) → Carried u
carried_second s u null item (inl h) = h.1
carried_second s u null item (inr h) = absurd (false≢true (sym (no_null u item) ∙ null_told u h.2))

carried_first : (s u : Schema) → is_item s ≡ true → (IsNull s × Carried u × IsNoUnion u) ⊎ (Carried s × IsNoUnion s × IsNull u) → Carried s
carried_first s u item (inl h) = absurd (false≢true (sym (no_null s item) ∙ null_told s h.0))
carried_first s u item (inr h) = h.0

union_again : (b : Bool) (s u : Schema) → Again b s → Again b u → (k : ℕ) (t : DataType) (z : Schema) → CarriedUnion (more_of-Schema s (more_of-Schema u end_of-Schema)) → (HasFloat s → ⊥) → (HasFloat u → ⊥)
    → inferred_member (more_of-Schema s (more_of-Schema u end_of-Schema)) ≡ Some t → schema_of b k t ≡ Some z → UnionAgain b (more_of-Schema s (more_of-Schema u end_of-Schema)) z t
union_again b s u of_s of_u k t z c ns nu e q = from (is_null s && is_item u) refl e
  where
    second : (v : Bool) → (is_item s && is_null u) ≡ v → cond v (inferred s) None ≡ Some t → UnionAgain b (more_of-Schema s (more_of-Schema u end_of-Schema)) z t
    second true p h =
        let both = and_parts (is_item s) (is_null u) p in
        null_second b s u z t (null_is u both.1) both.0 (of_s k t z (carried_first s u both.0 c) ns h q)
    second false p h = absurd (none-some t h)

    from : (v : Bool) → (is_null s && is_item u) ≡ v → cond v (inferred u) (cond (is_item s && is_null u) (inferred s) None) ≡ Some t → UnionAgain b (more_of-Schema s (more_of-Schema u end_of-Schema)) z t
    from true p h =
        let both = and_parts (is_null s) (is_item u) p in
        null_first b s u z t (null_is s both.0) both.1 (of_u k t z (carried_second s u (null_is s both.0) both.1 c) nu h q)
    from false p h = second (is_item s && is_null u) refl h

-- ---- arrays

module _ (P : List ℕ → Slot → Type 0) (p : Slot → Bool) (none_shows : (bytes : List ℕ) (x : Slot) → AreBytes bytes → P bytes x → p x ≡ false) where
  many_clean : (n : ℕ) (bytes : List ℕ) (xs : List Slot) → AreBytes bytes → Many P n bytes xs → list_any p xs ≡ false
  many_clean zero bytes xs are h = ap (list_any p) h.1
  many_clean (suc n) bytes xs are h =
      let both = parts bytes h.prefix h.back h.joined are in
      ap (list_any p) h.second.1 ∙ (rw (none_shows h.prefix h.value both.0 h.first, many_clean n h.back h.second.0 both.1 h.second.2) refl)

  block_clean : (count : ℤ) (bytes : List ℕ) (xs : List Slot) → AreBytes bytes → BlockOf P count bytes xs → list_any p xs ≡ false
  block_clean (pos zero) bytes xs are h = absurd h
  block_clean (pos (suc n)) bytes xs are h = many_clean (suc n) bytes xs are h.1
  block_clean (negsuc n) bytes xs are h =
      let both = parts bytes h.1.prefix h.1.back h.1.joined are in
      many_clean (suc n) h.1.back xs both.1 h.1.second.1

  joined_clean : (xs ys : List Slot) → list_any p xs ≡ false → list_any p ys ≡ false → list_any p (xs ++ ys) ≡ false
  joined_clean [] ys a b = b
  joined_clean (x ∷ xs) ys a b = from (p x) (list_any p xs) a (λ none. joined_clean xs ys none b)
    where
      from : (v w : Bool) → (v || w) ≡ false → (w ≡ false → list_any p (xs ++ ys) ≡ false) → (v || list_any p (xs ++ ys)) ≡ false
      from true w q more = absurd (false≢true (sym q))
      from false w q more = more q

  blocks_clean : (bytes : List ℕ) (xs : List Slot) → AreBytes bytes → Blocks P bytes xs → list_any p xs ≡ false
  blocks_clean bytes xs are (last h) = refl
  blocks_clean bytes xs are (block prefix items rest count ys zs c h more) =
      let one = split prefix (items ++ rest) are in
      let two = split items rest one.1 in
      joined_clean ys zs (block_clean count items ys two.0 h) (blocks_clean rest zs two.1 more)

-- ---- columns of a schema

column_type : (name : List ℕ) (doc : Option (List ℕ)) (s : Schema) (t : DataType) → (column_field name doc s t).data_type ≡ t
column_type name None s t = refl
column_type name (Some doc) s t = refl

column_nullable : (name : List ℕ) (doc : Option (List ℕ)) (s : Schema) (t : DataType) → (column_field name doc s t).is_nullable ≡ is_union s
column_nullable name None s t = refl
column_nullable name (Some doc) s t = refl

-- the schema of a column that a schema gives
record ColumnAgain (b : Bool) (s a : Schema) (c : Field) : Type 0 where
  pub serializable : can_serialize c.data_type ≡ true
  pub clean : (f : Flaw) (n : ℕ) (bytes : List ℕ) (x : Slot) → AreBytes bytes → Encodes s bytes x → shows f (named n a) x ≡ false

column_again : (b : Bool) (k : ℕ) (s a : Schema) (t : DataType) (c : Field) → Again b s → Carried s → (HasFloat s → ⊥) → inferred s ≡ Some t → c.data_type ≡ t → c.is_nullable ≡ is_union s → column_schema b k c ≡ Some a → ColumnAgain b s a c
column_again b k s a t c again carried floats e type nullable q =
    let w = bind_some (schema_of b k c.data_type) (λ y. Some (optional b c.is_nullable y)) a q in
    let r = again k t w.0 carried floats e (ap (schema_of b k) (sym type) ∙ w.1) in
    let is : a ≡ optional b (is_union s) w.0 = sym (same_Some (optional b c.is_nullable w.0) a w.2) ∙ ap (λ u. optional b u w.0) nullable in
    record {
      serializable = ap can_serialize type ∙ r.serializable;
      clean = λ f n bytes x are h. ap (λ y. shows f (named n y) x) is ∙ r.clean f n bytes x are h;
    }

named_fields_are : (n : ℕ) (name : List ℕ) (fs : List AvroField) → (out-Record (named_record n (plain_record name fs))).fields ≡ named_all n fs
named_fields_are n name fs =
    ap (λ (r : TheRecord). (out-Record r).fields) (record_named n (plain_record name fs)) ∙ ap (λ o. o.fields) (out-roll-Record _) ∙ ap (named_all n) (ap (λ o. o.fields) (out-roll-Record _))

-- ---- every schema

-- what is known of the item of an array, and of the fields of a record
record ItemAgain {m : _} (row : Row_of-Schema m) (a : Schema) (c : Field) : Type 0 where
  pub serializable : can_serialize c.data_type ≡ true
  pub clean : (f : Flaw) (n : ℕ) (bytes : List ℕ) (x : Slot) → AreBytes bytes → EncodesItem row bytes x → shows f (named n a) x ≡ false

record FieldsAgain {m : _} (row : Row_of-AvroField m) (fields : List AvroField) (columns : List Field) : Type 0 where
  pub serializable : can_serialize_all columns ≡ true
  pub filled : HasFields row → not (eqb (length columns) 0) ≡ true
  pub clean : (f : Flaw) (n : ℕ) (bytes : List ℕ) (xs : List Slot) → AreBytes bytes → EncodesFields row bytes xs → fields_show_of f (named_all n fields) xs ≡ false

record RecordAgain (r : TheRecord) (fields : List AvroField) (columns : List Field) : Type 0 where
  pub serializable : can_serialize (types.Struct columns) ≡ true
  pub clean : (f : Flaw) (n : ℕ) (bytes : List ℕ) (xs : List Slot) → AreBytes bytes → EncodesRecord r bytes xs → fields_show_of f (named_all n fields) xs ≡ false

filled : {A : Type 0} (x : A) (xs : List A) → not (eqb (length (x ∷ xs)) 0) ≡ true
filled x xs = some (length xs)
  where
    some : (n : ℕ) → not (eqb (suc n) 0) ≡ true
    some n = grind (arith, nat_tests)

no_fields : (fs : List Field) (avros : List AvroField) (b : Bool) (k : ℕ) → Some [] ≡ Some fs → columns_fields b k fs ≡ Some avros → FieldsAgain end_of-AvroField avros fs
no_fields fs avros b k e q =
    let none : fs ≡ [] = sym (same_Some [] fs e) in
    let empty : avros ≡ [] = sym (same_Some [] avros (ap (columns_fields b k) (sym none) ∙ q)) in
    record {
      serializable = ap can_serialize_all none;
      filled = λ h. absurd h;
      clean = λ f n bytes xs are h. ap (λ (done : List AvroField). fields_show_of f (named_all n done) xs) empty;
    }

one_field : {m : _} (b : Bool) (k : ℕ) (name : List ℕ) (doc : Option (List ℕ)) (s : Schema) (rest : Row_of-AvroField m) (fs : List Field) (avros : List AvroField) → Again b s → Carried s → (HasFloat s → ⊥)
    → ((j : ℕ) (gs : List Field) (more : List AvroField) → inferred_fields rest ≡ Some gs → columns_fields b j gs ≡ Some more → FieldsAgain rest more gs)
    → inferred_fields (more_of-AvroField name doc s rest) ≡ Some fs → columns_fields b k fs ≡ Some avros → FieldsAgain (more_of-AvroField name doc s rest) avros fs
one_field b k name doc s rest fs avros again carried floats others e q =
    let one = bind_some (inferred s) (λ t. inferred_fields rest >>= λ gs. Some (column_field name doc s t ∷ gs)) fs e in
    let t = one.0 in
    let two = bind_some (inferred_fields rest) (λ gs. Some (column_field name doc s t ∷ gs)) fs one.2 in
    let c = column_field name doc s t in
    let are : fs ≡ c ∷ two.0 = sym (same_Some (c ∷ two.0) fs two.2) in
    let q' : columns_fields b k (c ∷ two.0) ≡ Some avros = ap (columns_fields b k) (sym are) ∙ q in
    let u = bind_some (column_schema b k c) (λ a. columns_fields b (k + structs_in c.data_type) two.0 >>= λ more. Some (plain_field c.name a ∷ more)) avros q' in
    let v = bind_some (columns_fields b (k + structs_in c.data_type) two.0) (λ more. Some (plain_field c.name u.0 ∷ more)) avros u.2 in
    let first = column_again b k s u.0 t c again carried floats one.1 (column_type name doc s t) (column_nullable name doc s t) u.1 in
    let more = others (k + structs_in c.data_type) two.0 v.0 two.1 v.1 in
    let written : avros ≡ plain_field c.name u.0 ∷ v.0 = sym (same_Some (plain_field c.name u.0 ∷ v.0) avros v.2) in
    record {
      serializable = ap can_serialize_all are ∙ (rw (first.serializable, more.serializable) refl);
      filled = λ h. ap (λ (gs : List Field). not (eqb (length gs) 0)) are ∙ filled c two.0;
      clean = λ f n bytes xs ok h.
          let both = parts bytes h.prefix h.back h.joined ok in
          ap (λ (done : List AvroField). fields_show_of f (named_all n done) xs) written
          ∙ ap (fields_show_of f (named_all n (plain_field c.name u.0 ∷ v.0))) h.second.1
          ∙ (rw (first.clean f n h.prefix h.value both.0 h.first, more.clean f (n + nameless_in u.0) h.back h.second.0 both.1 h.second.2) refl);
    }

array_again : (b : Bool) (k : ℕ) (s a z : Schema) (t : DataType) (c : Field) (P : List ℕ → Slot → Type 0) → can_serialize c.data_type ≡ true → ((f : Flaw) (n : ℕ) (bytes : List ℕ) (x : Slot) → AreBytes bytes → P bytes x → shows f (named n a) x ≡ false)
    → Some (types.List c) ≡ Some t → Some (Array a) ≡ Some z → (can_serialize t ≡ true) × ((f : Flaw) (n : ℕ) (bytes : List ℕ) (xs : List Slot) (x : Slot) → AreBytes bytes → Blocks P bytes xs → x ≡ slot.List xs → shows f (named n z) x ≡ false)
array_again b k s a z t c P h clean e q = (
  serial (types.List c) t e (list_serializable c ∙ h),
  λ f n bytes xs x are blocks is.
      shown f n (Array a) z x q
      (sym (of_array f (named n (Array a)) (named n a) (named n a) x (array_named n a) refl (ap is_held is)) ∙ ap (list_any (shows f (named n a))) (ap parts_of is ∙ parts_list xs) ∙ blocks_clean P (shows f (named n a)) (λ bs y ok enc. clean f n bs y ok enc) bytes xs are blocks),
)

record_again : (b : Bool) (k : ℕ) (r : TheRecord) (z : Schema) (t : DataType) (fs : List Field) (avros : List AvroField) → RecordAgain r avros fs → Some (types.Struct fs) ≡ Some t → Some (Record (plain_record (record_name (k + 1)) avros)) ≡ Some z
    → (can_serialize t ≡ true) × ((f : Flaw) (n : ℕ) (bytes : List ℕ) (xs : List Slot) (x : Slot) → AreBytes bytes → EncodesRecord r bytes xs → x ≡ slot.Struct xs → shows f (named n z) x ≡ false)
record_again b k r z t fs avros again e q =
    let made = plain_record (record_name (k + 1)) avros in (
      serial (types.Struct fs) t e again.serializable,
      λ f n bytes xs x are h is.
          shown f n (Record made) z x q
          (sym (of_record f (named n (Record made)) (named_record n made) (named_all n avros) x refl (sym (named_fields_are n (record_name (k + 1)) avros)) (ap is_held is)) ∙ ap (fields_show_of f (named_all n avros)) (ap parts_of is ∙ parts_struct xs) ∙ again.clean f n bytes xs are h),
    )

mutual
  again : (b : Bool) (s : Schema) (k : ℕ) (t : DataType) (z : Schema) → Carried s → (HasFloat s → ⊥) → inferred s ≡ Some t → schema_of b k t ≡ Some z → IsAgain b s z t
  again b Null k t z c floats e q = absurd c
  again b Boolean k t z c floats e q = record {
    serializable = serial types.Boolean t e refl;
    clean = λ f n bytes x are h. shown f n Boolean z x (type_is b k types.Boolean t z e q) (no_null_flaw f x (ap is_held h.means));
  }
  again b (Int logical) k t z c floats e q =
      let r = int_again b k logical z (type_is b k (int_type logical) t z e q) in
      record { serializable = serial (int_type logical) t e r.0; clean = λ f n bytes x are h. r.1 f n x (ap is_held h.means) }
  again b (Long logical) k t z c floats e q =
      let r = long_again b k logical z (type_is b k (long_type logical) t z e q) in
      record { serializable = serial (long_type logical) t e r.0; clean = λ f n bytes x are h. r.1 f n x (ap is_held h.means) }
  again b Float k t z c floats e q = absurd (floats tt)
  again b Double k t z c floats e q = absurd (floats tt)
  again b (Bytes logical) k t z c floats e q =
      let r = bytes_again b k logical z (type_is b k (bytes_type logical) t z e q) in
      record { serializable = serial (bytes_type logical) t e r.0; clean = λ f n bytes x are h. r.1 f n bytes x h }
  again b (String logical) k t z c floats e q = record {
    serializable = serial types.Utf8 t e refl;
    clean = λ f n bytes x are h. shown f n (String None) z x (type_is b k types.Utf8 t z e q) (no_null_flaw f x (ap is_held h.means));
  }
  again b (Record r) k t z c floats e q =
      let one = bind_some (inferred_record r) (λ fs. Some (types.Struct fs)) t e in
      let made = sym (struct_schema_is b k one.0) ∙ type_is b k (types.Struct one.0) t z one.2 q in
      let two = bind_some (columns_fields b (k + 1) one.0) (λ avros. Some (Record (plain_record (record_name (k + 1)) avros))) z made in
      let a = record_clean b r (k + 1) one.0 two.0 c (λ h. floats (inr h)) one.1 two.1 in
      let r' = record_again b k r z t one.0 two.0 a one.2 two.2 in
      record { serializable = r'.0; clean = λ f n bytes x are h. r'.1 f n bytes h.value x are h.encoded h.means }
  again b (Enum en) k t z c floats e q = absurd (none-some z (sym (no_symbols b k) ∙ type_is b k symbol_type t z e q))
  again b (Array' shape item) k t z c floats e q =
      let one = bind_some (inferred_item item) (λ f. Some (types.List f)) t e in
      let made = sym (list_schema b k one.0) ∙ type_is b k (types.List one.0) t z one.2 q in
      let two = bind_some (column_schema b k one.0) (λ a. Some (Array a)) z made in
      let i = item_again b item k one.0 two.0 c (λ h. floats (inr h)) one.1 two.1 in
      let r = array_again b k (Array' shape item) two.0 z t one.0 (EncodesItem item) i.serializable i.clean one.2 two.2 in
      record { serializable = r.0; clean = λ f n bytes x are h. r.1 f n bytes h.value x are h.encoded h.means }
  again b (Map' shape value) k t z c floats e q = absurd c
  again b (Union' shape members) k t z c floats e q =
      let u = members_again b members k t z c (λ h. floats (inr h)) e q in
      record {
        serializable = u.serializable;
        clean = λ f n bytes x are h. u.clean f n h.second.0 h.back x (parts bytes h.prefix h.back h.joined are).1 h.second.3;
      }
  again b (Fixed fixed) k t z c floats e q =
      let r = fixed_again b k fixed.size fixed.logical z c (type_is b k (fixed_type fixed.size fixed.logical) t z e q) in
      record { serializable = serial (fixed_type fixed.size fixed.logical) t e r.0; clean = λ f n bytes x are h. r.1 f n bytes x are h }

  record_clean : (b : Bool) (r : TheRecord) (k : ℕ) (fs : List Field) (avros : List AvroField) → CarriedRecord r → (RecordHasPart IsFloat r → ⊥) → inferred_record r ≡ Some fs → columns_fields b k fs ≡ Some avros → RecordAgain r avros fs
  record_clean b (Record' name namespace doc shape fields) k fs avros c floats e q =
      let a = fields_again b fields k fs avros c.1 floats e q in
      record { serializable = struct_serializable fs ∙ (rw (a.filled c.0, a.serializable) refl); clean = a.clean }

  item_again : {m : _} (b : Bool) (row : Row_of-Schema m) (k : ℕ) (field : Field) (a : Schema) → CarriedItem row → (AnyHasPart IsFloat row → ⊥) → inferred_item row ≡ Some field → column_schema b k field ≡ Some a → ItemAgain row a field
  item_again b end_of-Schema k field a c floats e q = absurd c
  item_again b (more_of-Schema s rest) k field a c floats e q =
      let one = bind_some (inferred s) (λ t. Some (column_field item_name None s t)) field e in
      let is : field ≡ column_field item_name None s one.0 = sym (same_Some _ field one.2) in
      let r = column_again b k s a one.0 field (again b s) c (λ h. floats (inl h)) one.1 (ap (λ g. g.data_type) is) (ap (λ g. g.is_nullable) is) q in
      record { serializable = r.serializable; clean = r.clean }

  members_again : {m : _} (b : Bool) (row : Row_of-Schema m) (k : ℕ) (t : DataType) (z : Schema) → CarriedUnion row → (AnyHasPart IsFloat row → ⊥) → inferred_member row ≡ Some t → schema_of b k t ≡ Some z → UnionAgain b row z t
  members_again b (more_of-Schema s (more_of-Schema u end_of-Schema)) k t z c floats e q = union_again b s u (again b s) (again b u) k t z c (λ h. floats (inl h)) (λ h. floats (inr (inl h))) e q
  members_again b _ k t z c floats e q = absurd c

  fields_again : {m : _} (b : Bool) (row : Row_of-AvroField m) (k : ℕ) (fs : List Field) (avros : List AvroField) → CarriedFields row → (FieldHasPart IsFloat row → ⊥) → inferred_fields row ≡ Some fs → columns_fields b k fs ≡ Some avros → FieldsAgain row avros fs
  fields_again b end_of-AvroField k fs avros c floats e q = no_fields fs avros b k e q
  fields_again b (more_of-AvroField name doc s rest) k fs avros c floats e q =
      one_field b k name doc s rest fs avros (again b s) c.0 (λ h. floats (inl h)) (λ j gs more e' q'. fields_again b rest j gs more c.1 (λ h. floats (inr h)) e' q') e q

pub decoded_is_serializable : DecodedIsSerializable
decoded_is_serializable b k n s z t c floats e q = let r = again b s k t z c floats e q in (r.serializable, λ f bytes x are h. r.clean f n bytes x are h)
