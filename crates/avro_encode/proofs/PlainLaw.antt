-- The canonical encoding encodes its slot.
use Rattle.std.proofs.lemmas.Int.{ints}
use Rattle.std.proofs.Common.{◌≡◌, ℕ, suc, ◌^◌, ◌<◌, true, false, ℤ, pos, negsuc, Option, Some, None, List, [], ◌∷◌, ◌++◌, length, flat_map, refl, sym, ap, subst, arith, ◌⊎◌, inl, inr}
use Rattle.std.specs.List.{AllByRecursion}
use Rattle.std.proofs.lemmas.List.{append-nil}
use Rattle.arrow_core.specs.declared.slot.Slot.{Slot}
use Rattle.arrow_core.specs.declared.slot.Slot.TheVariants as slot
use Rattle.arrow_core.specs.declared.slot.Slot.TheViews.{outs-List, outs-Struct}
use Rattle.avro_schema.specs.declared.schema.Schema.{Schema, Null, Boolean, Int, Long, Float, Double, Bytes, String, Record, Enum, Array', Map', Union', Fixed, Row_of-Schema, end_of-Schema, more_of-Schema}
use Rattle.avro_schema.specs.declared.schema.Record.{Record as TheRecord, Record', Row_of-AvroField, end_of-AvroField, more_of-AvroField}
use Rattle.avro_schema.specs.declared.schema.BytesLogical.{BytesLogical}
use Rattle.avro_schema.specs.declared.schema.BytesLogical.TheVariants as bytes_logical
use Rattle.avro_schema.specs.declared.schema.FixedLogical.{FixedLogical}
use Rattle.avro_schema.specs.declared.schema.FixedLogical.TheVariants as fixed_logical
use Rattle.avro_schema.specs.Number.{Number}
use Rattle.arrow_array.specs.Slots.{is_held}
use Rattle.avro_schema.specs.Parts.{Grammar, Then, Meaning, Sized, Many, Blocks, last, block}
use Rattle.avro_schema.specs.Encodes.{Any, IsInt, IsNull, is_null, EncodesBytes, EncodesFixed, Encodes, EncodesRecord, EncodesItem, EncodesMember, EncodesFields}
use Rattle.avro_schema.specs.Carried.{IsNoUnion}
use Rattle.avro_schema.proofs.Encoded.{encodes_reads}
use Rattle.avro_container.specs.Shortest.{zigzagged, shortest}
use Rattle.avro_encode.specs.Decimals.{decimal}
use Rattle.avro_encode.specs.Plain.{parts_of_open, parts_of, counted, one_block, plain_bytes, plain_duration, plain_fixed, plain, plain_record, plain_fields, plain_item, plain_union, bytes_of}
use Rattle.avro_encode.specs.Pairs.{IsLong, IsCounted, PairsBytes, PairsFixed, Pairs, PairsRecord, PairsFields, PairsItem, PairsUnion}
use Rattle.avro_container.proofs.ShortestLemmas.{shortest_is}
use Rattle.avro_encode.proofs.Milliseconds.{duration_parts, duration_is, duration_length}
use Rattle.avro_encode.proofs.TwosComplement.{decimal_short, decimal_value}

pub parts_list : (xs : List Slot) → parts_of (slot.List xs) ≡ xs
parts_list xs = ap parts_of_open (outs-List xs)

pub parts_struct : (xs : List Slot) → parts_of (slot.Struct xs) ≡ xs
parts_struct xs = ap parts_of_open (outs-Struct xs)

long_fits : (v : ℤ) → IsLong v → zigzagged v < 2 ^ 64
long_fits (pos n) h = omega (arith, ints, h.1)
long_fits (negsuc n) h = omega (arith, ints, h.0)

int_fits : (v : ℤ) → IsInt v → zigzagged v < 2 ^ 64
int_fits (pos n) h = omega (arith, ints, h.1)
int_fits (negsuc n) h = omega (arith, ints, h.0)

count_is : (n : ℕ) → n < 2 ^ 63 → Number (shortest (pos n)) (pos n)
count_is n h = shortest_is (pos n) (omega (arith, h))

counted_is : (bytes : List ℕ) → length bytes < 2 ^ 63 → Sized (counted bytes) bytes
counted_is bytes h = record { prefix = shortest (pos (length bytes)); back = bytes; joined = refl; value = pos (length bytes); first = count_is (length bytes) h; second = (refl, refl) }

many_plain : (P : Grammar Slot) (encode : Slot → List ℕ) (Q : Slot → Type 0) → ((x : Slot) → Q x → P (encode x) x) → (xs : List Slot) → AllByRecursion Q xs → Many P (length xs) (flat_map encode xs) xs
many_plain P encode Q f [] h = (refl, refl)
many_plain P encode Q f (x ∷ xs) h =
    record { prefix = encode x; back = flat_map encode xs; joined = refl; value = x; first = f x h.0; second = (xs, refl, many_plain P encode Q f xs h.1) }

blocks_plain : (P : Grammar Slot) (encode : Slot → List ℕ) (Q : Slot → Type 0) → ((x : Slot) → Q x → P (encode x) x) → (xs : List Slot) → IsCounted xs → AllByRecursion Q xs → Blocks P (one_block encode xs) xs
blocks_plain P encode Q f [] c h = last (count_is 0 (omega arith))
blocks_plain P encode Q f (x ∷ xs) c h =
    subst (λ (ys : List Slot). Blocks P (one_block encode (x ∷ xs)) ys) (append-nil (x ∷ xs))
    (block (shortest (pos (suc (length xs)))) (flat_map encode (x ∷ xs)) (shortest (pos 0)) (pos (suc (length xs))) (x ∷ xs) [] (count_is (suc (length xs)) c) (c, many_plain P encode Q f (x ∷ xs) h) (last (count_is 0 (omega arith))))

bytes_plain : (logical : Option BytesLogical) (x : Slot) → PairsBytes logical x → EncodesBytes logical (plain_bytes logical x) x
bytes_plain None x h =
    subst (λ y. EncodesBytes None (plain_bytes None y) y) (sym h.1) (record { value = h.0; encoded = counted_is h.0 h.2; allowed = tt; means = refl })
bytes_plain (Some (bytes_logical.Decimal precision scale)) x h =
    let l = decimal_short h.0 h.2 in
    subst (λ y. EncodesBytes (Some (bytes_logical.Decimal precision scale)) (plain_bytes (Some (bytes_logical.Decimal precision scale)) y) y) (sym h.1)
    (record { value = decimal h.0; encoded = counted_is (decimal h.0) (omega (arith, l)); allowed = l; means = ap slot.Integer (sym (decimal_value h.0 h.2)) })

fixed_plain : (size : ℕ) (logical : Option FixedLogical) (x : Slot) → PairsFixed size logical x → EncodesFixed size logical (plain_fixed logical x) x
fixed_plain size None x h = subst (λ y. EncodesFixed size None (bytes_of y) y) (sym h.1) (record { value = h.0; encoded = (h.2, refl); allowed = tt; means = refl })
fixed_plain size (Some fixed_logical.Duration) x h =
    subst (λ (y : Slot). EncodesFixed size (Some fixed_logical.Duration) (plain_fixed (Some fixed_logical.Duration) y) y) (sym h.3)
    (subst (λ (ps : List Slot). EncodesFixed size (Some fixed_logical.Duration) (plain_duration ps) (slot.Struct (duration_parts h.0 h.1 h.2))) (sym (parts_struct (duration_parts h.0 h.1 h.2)))
    (record { value = plain_duration (duration_parts h.0 h.1 h.2); encoded = (duration_length h.0 h.1 h.2, refl); allowed = tt; means = sym (duration_is h.0 h.1 h.2 h.4 h.5 h.6) }))
fixed_plain size (Some (fixed_logical.Decimal precision scale)) x h = absurd h

-- ---- unions

pub null_told : (s : Schema) → IsNull s → is_null s ≡ true
null_told Null h = refl
null_told _ h = absurd h

pub null_or_not : (s : Schema) → (IsNull s × (is_null s ≡ true)) ⊎ (is_null s ≡ false)
null_or_not Null = inl (tt, refl)
null_or_not _ = inr refl

pub pairs_no_null : (s : Schema) (x : Slot) → Pairs s x → is_null s ≡ false
pairs_no_null Null x h = absurd h
pairs_no_null _ x h = refl

held_bytes : (logical : Option BytesLogical) (x : Slot) → PairsBytes logical x → is_held x ≡ true
held_bytes None x h = ap is_held h.1
held_bytes (Some (bytes_logical.Decimal precision scale)) x h = ap is_held h.1

held_fixed : (size : ℕ) (logical : Option FixedLogical) (x : Slot) → PairsFixed size logical x → is_held x ≡ true
held_fixed size None x h = ap is_held h.1
held_fixed size (Some fixed_logical.Duration) x h = ap is_held h.3
held_fixed size (Some (fixed_logical.Decimal precision scale)) x h = absurd h

pub pairs_held : (s : Schema) (x : Slot) → IsNoUnion s → Pairs s x → is_held x ≡ true
pairs_held Boolean x n h = ap is_held h.1
pairs_held (Int logical) x n h = ap is_held h.1
pairs_held (Long logical) x n h = ap is_held h.1
pairs_held (Bytes logical) x n h = held_bytes logical x h
pairs_held (String logical) x n h = ap is_held h.1
pairs_held (Record r) x n h = ap is_held h.1
pairs_held (Array' shape item) x n h = ap is_held h.1
pairs_held (Union' shape members) x n h = absurd n
pairs_held (Fixed f) x n h = held_fixed f.size f.logical x h
pairs_held Null x n h = absurd h
pairs_held Float x n h = absurd h
pairs_held Double x n h = absurd h
pairs_held (Enum e) x n h = absurd h
pairs_held (Map' shape value) x n h = absurd h

abbrev EncodesUnion : {m : _} → Row_of-Schema m → Grammar Slot
EncodesUnion members = Then Number (λ v back y. (k : ℕ) × (v ≡ pos k) × (k < 2) × EncodesMember members k back y)

at_position : {m : _} (members : Row_of-Schema m) (k : ℕ) (back : List ℕ) (x : Slot) → k < 2 → EncodesMember members k back x → EncodesUnion members (shortest (pos k) ++ back) x
at_position members k back x l h = record { prefix = shortest (pos k); back = back; joined = refl; value = pos k; first = count_is k (omega (arith, l)); second = (k, refl, l, h) }

alone : {m : _} (members : Row_of-Schema m) (k : ℕ) (x : Slot) → k < 2 → EncodesMember members k [] x → EncodesUnion members (shortest (pos k)) x
alone members k x l h = subst (λ (bytes : List ℕ). EncodesUnion members bytes x) (append-nil (shortest (pos k))) (at_position members k [] x l h)

mutual
  pub plain_encodes : (s : Schema) (x : Slot) → Pairs s x → Encodes s (plain s x) x
  plain_encodes Boolean x h = subst (λ y. Encodes Boolean (plain Boolean y) y) (sym h.1) (record { value = h.0; encoded = refl; allowed = tt; means = refl })
  plain_encodes (Int logical) x h =
      subst (λ y. Encodes (Int logical) (plain (Int logical) y) y) (sym h.1) (record { value = h.0; encoded = shortest_is h.0 (int_fits h.0 h.2); allowed = h.2; means = refl })
  plain_encodes (Long logical) x h =
      subst (λ y. Encodes (Long logical) (plain (Long logical) y) y) (sym h.1) (record { value = h.0; encoded = shortest_is h.0 (long_fits h.0 h.2); allowed = tt; means = refl })
  plain_encodes (Bytes logical) x h = bytes_plain logical x h
  plain_encodes (String logical) x h =
      subst (λ y. Encodes (String logical) (plain (String logical) y) y) (sym h.1) (record { value = h.0; encoded = counted_is h.0 h.3; allowed = h.2; means = refl })
  plain_encodes (Record r) x h =
      subst (λ y. Encodes (Record r) (plain (Record r) y) y) (sym h.1)
      (subst (λ (ys : List Slot). Meaning (EncodesRecord r) Any slot.Struct (plain_record r ys) (slot.Struct h.0)) (sym (parts_struct h.0))
      (record { value = h.0; encoded = record_plain r h.0 h.2; allowed = tt; means = refl }))
  plain_encodes (Array' shape item) x h =
      subst (λ y. Encodes (Array' shape item) (plain (Array' shape item) y) y) (sym h.1)
      (subst (λ (ys : List Slot). Meaning (Blocks (EncodesItem item)) Any slot.List (one_block (plain_item item) ys) (slot.List h.0)) (sym (parts_list h.0))
      (record { value = h.0; encoded = blocks_plain (EncodesItem item) (plain_item item) (PairsItem item) (item_plain item) h.0 h.2 h.3; allowed = tt; means = refl }))
  plain_encodes (Union' shape members) x h = union_plain members x h
  plain_encodes (Fixed f) x h = fixed_plain f.size f.logical x h
  plain_encodes Null x h = absurd h
  plain_encodes Float x h = absurd h
  plain_encodes Double x h = absurd h
  plain_encodes (Enum e) x h = absurd h
  plain_encodes (Map' shape value) x h = absurd h

  record_plain : (r : TheRecord) (xs : List Slot) → PairsRecord r xs → EncodesRecord r (plain_record r xs) xs
  record_plain (Record' name namespace doc shape fields) xs h = fields_plain fields xs h

  fields_plain : {m : _} (row : Row_of-AvroField m) (xs : List Slot) → PairsFields row xs → EncodesFields row (plain_fields row xs) xs
  fields_plain end_of-AvroField [] h = (refl, refl)
  fields_plain end_of-AvroField (x ∷ xs) h = absurd h
  fields_plain (more_of-AvroField name doc s rest) [] h = absurd h
  fields_plain (more_of-AvroField name doc s rest) (x ∷ xs) h =
      record { prefix = plain s x; back = plain_fields rest xs; joined = refl; value = x; first = plain_encodes s x h.0; second = (xs, refl, fields_plain rest xs h.1) }

  item_plain : {m : _} (row : Row_of-Schema m) (x : Slot) → PairsItem row x → EncodesItem row (plain_item row x) x
  item_plain end_of-Schema x h = absurd h
  item_plain (more_of-Schema s rest) x h = plain_encodes s x h

  union_plain : {m : _} (row : Row_of-Schema m) (x : Slot) → PairsUnion row x → EncodesUnion row (plain_union row x) x
  union_plain (more_of-Schema s (more_of-Schema u end_of-Schema)) x (inl (n, o, inl e)) =
      rw (null_told s n, e) (alone (more_of-Schema s (more_of-Schema u end_of-Schema)) 0 slot.Null (omega arith) (inr (n, refl, refl)))
  union_plain (more_of-Schema s (more_of-Schema u end_of-Schema)) x (inl (n, o, inr p)) =
      rw (null_told s n, pairs_held u x o p) (at_position (more_of-Schema s (more_of-Schema u end_of-Schema)) 1 (plain u x) x (omega arith) (inl (plain_encodes u x p)))
  union_plain (more_of-Schema s (more_of-Schema u end_of-Schema)) x (inr (n, o, inl e)) =
      elim (null_or_not s) [
        | inl both ↦ rw (both.1, e) (alone (more_of-Schema s (more_of-Schema u end_of-Schema)) 0 slot.Null (omega arith) (inr (both.0, refl, refl)))
        | inr not_null ↦ rw (not_null, e) (alone (more_of-Schema s (more_of-Schema u end_of-Schema)) 1 slot.Null (omega arith) (inr (n, refl, refl)))
      ]
  union_plain (more_of-Schema s (more_of-Schema u end_of-Schema)) x (inr (n, o, inr p)) =
      rw (pairs_no_null s x p, pairs_held s x o p) (at_position (more_of-Schema s (more_of-Schema u end_of-Schema)) 0 (plain s x) x (omega arith) (inl (plain_encodes s x p)))
  union_plain _ x h = absurd h

pub plain_tells : (s : Schema) (x y : Slot) → Pairs s x → Pairs s y → plain s x ≡ plain s y → x ≡ y
plain_tells s x y p q e =
    (encodes_reads s (plain s x) (plain s y) [] [] x y (plain_encodes s x p) (plain_encodes s y q) (ap (λ (z : List ℕ). z ++ []) e)).1
