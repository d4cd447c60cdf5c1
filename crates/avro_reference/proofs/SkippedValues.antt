-- A value is passed exactly where a prefix of the bytes is skipped, and the answer is Negative
-- exactly where they are broken.
use Rattle.std.proofs.Common.{◌≡◌, ℕ, zero, suc, ◌<◌, ℤ, pos, nat_abs, Bool, true, false, cond, List, [], ◌++◌, length, Ok, Err, refl, sym, ◌∙◌, ap, subst, inl, inr, ◌⊎◌}
use Rattle.std.proofs.lemmas.Bool.{lt-ltb}
use Rattle.avro_schema.specs.declared.schema.Schema.{Schema, Null, Boolean, Int, Long, Float, Double, Bytes, String, Record, Enum, Array', Map', Union', Fixed, Row_of-Schema, end_of-Schema, more_of-Schema}
use Rattle.avro_schema.specs.declared.schema.Record.{Record as TheRecord, Record', Row_of-AvroField, end_of-AvroField, more_of-AvroField}
use Rattle.avro_schema.specs.Number.{Number}
use Rattle.avro_schema.specs.Parts.{Grammar, Measured}
use Rattle.avro_schema.specs.Encodes.{IsNull}
use Rattle.avro_schema.specs.Skips.{Passed, nothing, seen_only, both, fixed_size, Skips, SkipsRecord, SkipsItem, SkipsMember, SkipsFields}
use Rattle.avro_schema.specs.Broken.{Broken, BrokenRecord, BrokenItem, BrokenMember, BrokenFields}
use Rattle.avro_reference.specs.Prefix.{is_index}
use Rattle.avro_schema.specs.Encodes.{is_null}
use Rattle.avro_reference.specs.Skip.{◌>>=◌, Bad, Negative, Parser, measured_at, skip, skip_record, skip_item, skip_member, skip_fields}
use Rattle.avro_reference.proofs.Prefixes.{joined_up, split_up}
use Rattle.avro_schema.proofs.Basics.{null_is, null_told}
use Rattle.avro_reference.proofs.Values.{index_is}
use Rattle.avro_reference.proofs.Parsers.{Sound, Complete, Breaks, Broke, bad-ok, ok-negative, bad-negative, ok_pair_parts, bind_ok, bind_negative, chosen, chosen_negative, both_assoc, both-nothing, nothing-both, then_sound, then_complete, measured_sound, measured_complete, measured_never, raw_sound, raw_complete, raw_never, skip_number_sound, skip_number_complete, skip_number_never, skip_sized_sound, skip_sized_complete, skip_sized_never}
use Rattle.avro_reference.proofs.SkippedArrays.{array_sound, array_complete, array_breaks, array_broke}

skips_not_null : (s : Schema) (bytes : List ℕ) (p : Passed) → Skips s bytes p → is_null s ≡ false
skips_not_null Null bytes p h = absurd h
skips_not_null _ bytes p h = refl

broken_not_null : (s : Schema) (bytes : List ℕ) → Broken s bytes → is_null s ≡ false
broken_not_null Null bytes h = absurd h
broken_not_null _ bytes h = refl

-- ---- unions

-- the member of the number that stands before it
abbrev Member : {m : _} → Row_of-Schema m → ℤ × ℕ → Grammar Passed
Member members v back z = (k : ℕ) × (v.0 ≡ pos k) × (k < 2) × (p : Passed) × (z ≡ both (seen_only v.1) p) × SkipsMember members k back p

abbrev member_at : {m : _} → Row_of-Schema m → ℤ × ℕ → Parser Passed
member_at members v bytes = cond (is_index v.0 2) (skip_member members (nat_abs v.0) bytes >>= λ p. Ok (both (seen_only v.1) p.0, p.1)) (Err Bad)

abbrev SoundAt : {m : _} → Row_of-Schema m → ℕ → Type 0
SoundAt members k = Sound (skip_member members k) (SkipsMember members k)

member_numbered : {m : _} (members : Row_of-Schema m) (v : ℤ × ℕ) → ((k : ℕ) → SoundAt members k) → Sound (member_at members v) (Member members v)
member_numbered members v h bytes r x e =
    let c = chosen (is_index v.0 2) (skip_member members (nat_abs v.0) bytes >>= λ p. Ok (both (seen_only v.1) p.0, p.1)) (x, r) e in
    let b = bind_ok (skip_member members (nat_abs v.0) bytes) (λ p. Ok (both (seen_only v.1) p.0, p.1)) (x, r) c.1 in
    let one = h (nat_abs v.0) bytes b.0.1 b.0.0 b.1 in
    let p = ok_pair_parts (both (seen_only v.1) b.0.0) x b.0.1 r b.2 in
    let k = index_is v.0 2 c.0 in
    (one.0, (k.0, k.1, k.2, b.0.0, sym p.0, subst (λ j. SkipsMember members j one.0 b.0.0) k.3 one.1), one.2 ∙ ap (λ (z : List ℕ). one.0 ++ z) p.1)

numbered_member : {m : _} (members : Row_of-Schema m) (v : ℤ × ℕ) → ((k : ℕ) → Complete (skip_member members k) (SkipsMember members k)) → Complete (member_at members v) (Member members v)
numbered_member members v h prefix r x m =
    rw (m.1, lt-ltb m.0 2 m.2, h m.0 prefix r m.3 m.5, m.4) refl

abbrev BrokenUnion : {m : _} → Row_of-Schema m → List ℕ → Type 0
BrokenUnion members bytes = (prefix back : List ℕ) × (bytes ≡ prefix ++ back) × (k : ℕ) × (k < 2) × Number prefix (pos k) × BrokenMember members k back

union_breaks : {m : _} (members : Row_of-Schema m) → ((k : ℕ) → Breaks (skip_member members k) (BrokenMember members k)) → Breaks (λ bytes. measured_at bytes >>= λ n. member_at members n.0 n.1) (BrokenUnion members)
union_breaks members h bytes e =
    elim (bind_negative (measured_at bytes) (λ n. member_at members n.0 n.1) e) [
      | inl here ↦ absurd (measured_never bytes here)
      | inr there ↦
          let v = there.0.0 in
          let n = measured_sound bytes there.0.1 v there.1 in
          let c = chosen_negative (is_index v.0 2) (skip_member members (nat_abs v.0) there.0.1 >>= λ p. Ok (both (seen_only v.1) p.0, p.1)) there.2 in
          let k = index_is v.0 2 c.0 in
          elim (bind_negative (skip_member members (nat_abs v.0) there.0.1) (λ p. Ok (both (seen_only v.1) p.0, p.1)) c.1) [
            | inl here ↦ (n.0, there.0.1, n.2, k.0, k.2, subst (Number n.0) k.1 n.1.0, subst (λ j. BrokenMember members j there.0.1) k.3 (h (nat_abs v.0) there.0.1 here))
            | inr none ↦ absurd (ok-negative _ none.2)
          ]
    ]

union_broke : {m : _} (members : Row_of-Schema m) → ((k : ℕ) → Broke (skip_member members k) (BrokenMember members k)) → Broke (λ bytes. measured_at bytes >>= λ n. member_at members n.0 n.1) (BrokenUnion members)
union_broke members h bytes b =
    rw (b.2, measured_complete b.0 b.1 (pos b.3, length b.0) (b.5, refl), lt-ltb b.3 2 b.4, h b.3 b.1 b.6) refl

null_or : (s : Schema) (bytes r : List ℕ) (x : Passed) (t : Bool) → is_null s ≡ t → cond t (Ok (nothing, bytes)) (skip s bytes) ≡ Ok (x, r) → (skip s bytes ≡ Ok (x, r) → (prefix : List ℕ) × Skips s prefix x × (bytes ≡ prefix ++ r)) → (prefix : List ℕ) × (Skips s prefix x ⊎ (IsNull s × (prefix ≡ []) × (x ≡ nothing))) × (bytes ≡ prefix ++ r)
null_or s bytes r x true q e h = let p = ok_pair_parts nothing x bytes r e in ([], inr (null_is s q, refl, sym p.0), p.1)
null_or s bytes r x false q e h = let one = h e in (one.0, inl one.1, one.2)

null_never : (s : Schema) (bytes : List ℕ) (t : Bool) → cond t (Ok (nothing, bytes)) (skip s bytes) ≡ Err Negative → skip s bytes ≡ Err Negative
null_never s bytes true e = absurd (ok-negative _ e)
null_never s bytes false e = e

-- ---- what is passed

mutual
  pub skip_sound : (s : Schema) → Sound (skip s) (Skips s)
  skip_sound Null bytes r x e = absurd (bad-ok (x, r) e)
  skip_sound Boolean bytes r x e = raw_sound 1 1 bytes r x e
  skip_sound (Int logical) bytes r x e = skip_number_sound bytes r x e
  skip_sound (Long logical) bytes r x e = skip_number_sound bytes r x e
  skip_sound Float bytes r x e = raw_sound 4 0 bytes r x e
  skip_sound Double bytes r x e = raw_sound 8 0 bytes r x e
  skip_sound (Bytes logical) bytes r x e = skip_sized_sound bytes r x e
  skip_sound (String logical) bytes r x e = skip_sized_sound bytes r x e
  skip_sound (Record t) bytes r x e =
      let k = record_sound t nothing x bytes r e in (k.0, subst (SkipsRecord t k.0) (sym (k.3 ∙ nothing-both k.1)) k.2, k.4)
  skip_sound (Enum e) bytes r x q = skip_number_sound bytes r x q
  skip_sound (Array' shape item) bytes r x e = array_sound (skip_item item) (SkipsItem item) (item_sound item) bytes r x e
  skip_sound (Map' shape value) bytes r x e = absurd (bad-ok (x, r) e)
  skip_sound (Union' shape members) bytes r x e =
      then_sound measured_at (member_at members) (Measured Number) (Member members) measured_sound
      (λ v. member_numbered members v (member_sound members)) bytes r x e
  skip_sound (Fixed f) bytes r x e = raw_sound (fixed_size f.size f.logical) 0 bytes r x e

  record_sound : (t : TheRecord) (old all : Passed) (bytes r : List ℕ) → skip_record t old bytes ≡ Ok (all, r) → (prefix : List ℕ) × (p : Passed) × SkipsRecord t prefix p × (all ≡ both old p) × (bytes ≡ prefix ++ r)
  record_sound (Record' name namespace doc shape fields) old all bytes r e = fields_sound fields old all bytes r e

  item_sound : {m : _} (row : Row_of-Schema m) → Sound (skip_item row) (SkipsItem row)
  item_sound end_of-Schema bytes r x e = absurd (bad-ok (x, r) e)
  item_sound (more_of-Schema s rest) bytes r x e = skip_sound s bytes r x e

  member_sound : {m : _} (row : Row_of-Schema m) (k : ℕ) → SoundAt row k
  member_sound end_of-Schema k bytes r x e = absurd (bad-ok (x, r) e)
  member_sound (more_of-Schema s rest) zero bytes r x e = null_or s bytes r x (is_null s) refl e (skip_sound s bytes r x)
  member_sound (more_of-Schema s rest) (suc k) bytes r x e = member_sound rest k bytes r x e

  fields_sound : {m : _} (row : Row_of-AvroField m) (old all : Passed) (bytes r : List ℕ) → skip_fields row old bytes ≡ Ok (all, r) → (prefix : List ℕ) × (p : Passed) × SkipsFields row prefix p × (all ≡ both old p) × (bytes ≡ prefix ++ r)
  fields_sound end_of-AvroField old all bytes r e =
      let p = ok_pair_parts old all bytes r e in ([], nothing, (refl, refl), sym p.0 ∙ sym (both-nothing old), p.1)
  fields_sound (more_of-AvroField name doc s rest) old all bytes r e =
      let b = bind_ok (skip s bytes) (λ p. skip_fields rest (both old p.0) p.1) (all, r) e in
      let one = skip_sound s bytes b.0.1 b.0.0 b.1 in
      let more = fields_sound rest (both old b.0.0) all b.0.1 r b.2 in (
        one.0 ++ more.0,
        both b.0.0 more.1,
        record { prefix = one.0; back = more.0; joined = refl; value = b.0.0; first = one.1; second = (more.1, refl, more.2) },
        more.3 ∙ both_assoc old b.0.0 more.1,
        split_up bytes one.0 more.0 r b.0.1 one.2 more.4,
      )

mutual
  pub skip_complete : (s : Schema) → Complete (skip s) (Skips s)
  skip_complete Null prefix r x h = absurd h
  skip_complete Boolean prefix r x h = raw_complete 1 1 prefix r x h
  skip_complete (Int logical) prefix r x h = skip_number_complete prefix r x h
  skip_complete (Long logical) prefix r x h = skip_number_complete prefix r x h
  skip_complete Float prefix r x h = raw_complete 4 0 prefix r x h
  skip_complete Double prefix r x h = raw_complete 8 0 prefix r x h
  skip_complete (Bytes logical) prefix r x h = skip_sized_complete prefix r x h
  skip_complete (String logical) prefix r x h = skip_sized_complete prefix r x h
  skip_complete (Record t) prefix r x h = all_of_record t nothing x prefix r h ∙ ap (λ (z : Passed). Ok (z, r)) (nothing-both x)
  skip_complete (Enum e) prefix r x h = skip_number_complete prefix r x h
  skip_complete (Array' shape item) prefix r x h = array_complete (skip_item item) (SkipsItem item) (all_of_item item) prefix r x h
  skip_complete (Map' shape value) prefix r x h = absurd h
  skip_complete (Union' shape members) prefix r x h =
      then_complete measured_at (member_at members) (Measured Number) (Member members) measured_complete
      (λ v. numbered_member members v (all_of_member members)) prefix r x h
  skip_complete (Fixed f) prefix r x h = raw_complete (fixed_size f.size f.logical) 0 prefix r x h

  all_of_record : (t : TheRecord) (old p : Passed) (prefix r : List ℕ) → SkipsRecord t prefix p → skip_record t old (prefix ++ r) ≡ Ok (both old p, r)
  all_of_record (Record' name namespace doc shape fields) old p prefix r h = all_of_fields fields old p prefix r h

  all_of_item : {m : _} (row : Row_of-Schema m) → Complete (skip_item row) (SkipsItem row)
  all_of_item end_of-Schema prefix r x h = absurd h
  all_of_item (more_of-Schema s rest) prefix r x h = skip_complete s prefix r x h

  all_of_member : {m : _} (row : Row_of-Schema m) (k : ℕ) → Complete (skip_member row k) (SkipsMember row k)
  all_of_member end_of-Schema k prefix r x h = absurd h
  all_of_member (more_of-Schema s rest) zero prefix r x (inl h) = rw (skips_not_null s prefix x h) (skip_complete s prefix r x h)
  all_of_member (more_of-Schema s rest) zero prefix r x (inr h) = rw (null_told s h.0, h.1, h.2) refl
  all_of_member (more_of-Schema s rest) (suc k) prefix r x h = all_of_member rest k prefix r x h

  all_of_fields : {m : _} (row : Row_of-AvroField m) (old p : Passed) (prefix r : List ℕ) → SkipsFields row prefix p → skip_fields row old (prefix ++ r) ≡ Ok (both old p, r)
  all_of_fields end_of-AvroField old p prefix r h = rw (h.0, h.1, both-nothing old) refl
  all_of_fields (more_of-AvroField name doc s rest) old p prefix r h =
      let one = skip_complete s h.prefix (h.back ++ r) h.value h.first in
      let more = all_of_fields rest (both old h.value) h.second.0 h.back r h.second.2 in
      rw (joined_up prefix h.prefix h.back r h.joined, one, h.second.1)
      (more ∙ ap (λ (q : Passed). Ok (q, r)) (both_assoc old h.value h.second.0))

-- ---- what breaks

mutual
  pub skip_breaks : (s : Schema) → Breaks (skip s) (Broken s)
  skip_breaks Null bytes e = bad-negative e
  skip_breaks Boolean bytes e = raw_never 1 1 bytes e
  skip_breaks (Int logical) bytes e = skip_number_never bytes e
  skip_breaks (Long logical) bytes e = skip_number_never bytes e
  skip_breaks Float bytes e = raw_never 4 0 bytes e
  skip_breaks Double bytes e = raw_never 8 0 bytes e
  skip_breaks (Bytes logical) bytes e = skip_sized_never bytes e
  skip_breaks (String logical) bytes e = skip_sized_never bytes e
  skip_breaks (Record t) bytes e = record_breaks t nothing bytes e
  skip_breaks (Enum t) bytes e = skip_number_never bytes e
  skip_breaks (Array' shape item) bytes e = array_breaks (skip_item item) (SkipsItem item) (BrokenItem item) (item_sound item) (item_breaks item) bytes e
  skip_breaks (Map' shape value) bytes e = bad-negative e
  skip_breaks (Union' shape members) bytes e = union_breaks members (member_breaks members) bytes e
  skip_breaks (Fixed f) bytes e = raw_never (fixed_size f.size f.logical) 0 bytes e

  record_breaks : (t : TheRecord) (old : Passed) → Breaks (skip_record t old) (BrokenRecord t)
  record_breaks (Record' name namespace doc shape fields) old bytes e = fields_break fields old bytes e

  item_breaks : {m : _} (row : Row_of-Schema m) → Breaks (skip_item row) (BrokenItem row)
  item_breaks end_of-Schema bytes e = bad-negative e
  item_breaks (more_of-Schema s rest) bytes e = skip_breaks s bytes e

  member_breaks : {m : _} (row : Row_of-Schema m) (k : ℕ) → Breaks (skip_member row k) (BrokenMember row k)
  member_breaks end_of-Schema k bytes e = bad-negative e
  member_breaks (more_of-Schema s rest) zero bytes e = skip_breaks s bytes (null_never s bytes (is_null s) e)
  member_breaks (more_of-Schema s rest) (suc k) bytes e = member_breaks rest k bytes e

  fields_break : {m : _} (row : Row_of-AvroField m) (old : Passed) → Breaks (skip_fields row old) (BrokenFields row)
  fields_break end_of-AvroField old bytes e = absurd (ok-negative _ e)
  fields_break (more_of-AvroField name doc s rest) old bytes e =
      elim (bind_negative (skip s bytes) (λ p. skip_fields rest (both old p.0) p.1) e) [
        | inl here ↦ inl (skip_breaks s bytes here)
        | inr there ↦
            let one = skip_sound s bytes there.0.1 there.0.0 there.1 in
            inr (one.0, there.0.1, one.2, there.0.0, one.1, fields_break rest (both old there.0.0) there.0.1 there.2)
      ]

mutual
  pub skip_broke : (s : Schema) → Broke (skip s) (Broken s)
  skip_broke (Record t) bytes b = record_broke t nothing bytes b
  skip_broke (Array' shape item) bytes b = array_broke (skip_item item) (SkipsItem item) (BrokenItem item) (all_of_item item) (item_broke item) bytes b
  skip_broke (Union' shape members) bytes b = union_broke members (member_broke members) bytes b
  skip_broke Null bytes b = absurd b
  skip_broke Boolean bytes b = absurd b
  skip_broke (Int logical) bytes b = absurd b
  skip_broke (Long logical) bytes b = absurd b
  skip_broke Float bytes b = absurd b
  skip_broke Double bytes b = absurd b
  skip_broke (Bytes logical) bytes b = absurd b
  skip_broke (String logical) bytes b = absurd b
  skip_broke (Enum t) bytes b = absurd b
  skip_broke (Map' shape value) bytes b = absurd b
  skip_broke (Fixed f) bytes b = absurd b

  record_broke : (t : TheRecord) (old : Passed) → Broke (skip_record t old) (BrokenRecord t)
  record_broke (Record' name namespace doc shape fields) old bytes b = fields_broke fields old bytes b

  item_broke : {m : _} (row : Row_of-Schema m) → Broke (skip_item row) (BrokenItem row)
  item_broke end_of-Schema bytes b = absurd b
  item_broke (more_of-Schema s rest) bytes b = skip_broke s bytes b

  member_broke : {m : _} (row : Row_of-Schema m) (k : ℕ) → Broke (skip_member row k) (BrokenMember row k)
  member_broke end_of-Schema k bytes b = absurd b
  member_broke (more_of-Schema s rest) zero bytes b = rw (broken_not_null s bytes b) (skip_broke s bytes b)
  member_broke (more_of-Schema s rest) (suc k) bytes b = member_broke rest k bytes b

  fields_broke : {m : _} (row : Row_of-AvroField m) (old : Passed) → Broke (skip_fields row old) (BrokenFields row)
  fields_broke end_of-AvroField old bytes b = absurd b
  fields_broke (more_of-AvroField name doc s rest) old bytes (inl b) = rw (skip_broke s bytes b) refl
  fields_broke (more_of-AvroField name doc s rest) old bytes (inr b) =
      rw (b.2, skip_complete s b.0 b.1 b.3 b.4) (fields_broke rest (both old b.3) b.1 b.5)
