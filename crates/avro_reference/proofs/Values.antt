-- A value is read exactly where a prefix of the bytes encodes it.
use Rattle.std.proofs.Common.{◌≡◌, ℕ, zero, suc, ◌<◌, ℤ, pos, negsuc, nat_abs, Bool, true, false, cond, eqb, leb, ◌⊎◌, List, [], ◌∷◌, ◌++◌, length, Option, Some, None, refl, sym, ◌∙◌, ap, subst, inl, inr, append_assoc}
use Rattle.std.specs.Prelude.{T}
use Rattle.std.specs.Str.{is_utf8, IsUtf8}
use Rattle.std.specs.Int.Signed.{le_z_yes}
use Rattle.std.proofs.lemmas.Bool.{eqb-true, ltb-true, lt-ltb, leb-true, le-leb, and_parts, and_from, false≢true}
use Rattle.std.proofs.lemmas.List.{append-nil}
use Rattle.std.proofs.lemmas.Option.{some_pair_parts, none-some}
use Rattle.std.proofs.lemmas.Float.{T_from_true}
use Rattle.std.proofs.lemmas.Str.{IsUtf8-from_is_utf8, is_utf8-from_IsUtf8}
use Rattle.arrow_core.specs.declared.slot.Slot.{Slot}
use Rattle.arrow_core.specs.declared.slot.Slot.TheVariants as slot
use Rattle.avro_schema.specs.declared.schema.Schema.{Schema, Null, Boolean, Int, Long, Float, Double, Bytes, String, Record, Enum, Array', Map', Union', Fixed, Row_of-Schema, end_of-Schema, more_of-Schema}
use Rattle.avro_schema.specs.declared.schema.Record.{Record as TheRecord, Record', Row_of-AvroField, end_of-AvroField, more_of-AvroField}
use Rattle.avro_schema.specs.declared.schema.BytesLogical.{BytesLogical}
use Rattle.avro_schema.specs.declared.schema.BytesLogical.TheVariants as bytes_logical
use Rattle.avro_schema.specs.declared.schema.FixedLogical.{FixedLogical}
use Rattle.avro_schema.specs.declared.schema.FixedLogical.TheVariants as fixed_logical
use Rattle.avro_schema.specs.Number.{Number}
use Rattle.avro_schema.specs.Parts.{Grammar, Meaning, Raw, Sized}
use Rattle.avro_schema.specs.Encodes.{Any, IsBooleanByte, IsInt, twos_complement, duration, IsShort, EncodesBytes, EncodesFixed, IsIndex, symbol_at, IsNull, Encodes, EncodesRecord, EncodesItem, EncodesMember, EncodesFields}
use Rattle.avro_reference.specs.Prefix.{Reader, number_at, bytes_at, sized_at, is_index}
use Rattle.avro_schema.specs.Encodes.{is_null}
use Rattle.avro_reference.specs.Read.{boolean_at, is_int, int_at, long_at, string_at, binary_at, decimal_at, bytes_logical_at, fixed_at, symbol_of, push_one, read, read_record, read_item, read_member, read_fields}
use Rattle.avro_schema.proofs.Basics.{bind_some, null_is, null_told}
use Rattle.avro_reference.proofs.Prefixes.{Sound, Complete, joined_up, split_up, then_sound, then_complete, told_sound, told_complete, tested_sound, tested_complete, number_sound, number_complete, bytes_sound, bytes_complete, sized_sound, sized_complete}
use Rattle.avro_reference.proofs.Arrays.{push_one-some, array_sound, array_complete}

-- ---- flat kinds

pub boolean_sound : Sound boolean_at (Meaning IsBooleanByte Any slot.Boolean)
unfolding boolean_at
boolean_sound [] r x e = absurd (none-some (x, r) e)
boolean_sound (b ∷ bytes) r x e = tested (eqb b 0) (eqb b 1) refl refl e
  where
    tested : (t u : Bool) → eqb b 0 ≡ t → eqb b 1 ≡ u → cond {A = Option (Slot × List ℕ)} t (Some (slot.Boolean false, bytes)) (cond u (Some (slot.Boolean true, bytes)) None) ≡ Some (x, r) → (prefix : List ℕ) × Meaning IsBooleanByte Any slot.Boolean prefix x × (b ∷ bytes ≡ prefix ++ r)
    tested true u q w h =
        let p = some_pair_parts (slot.Boolean false) x bytes r h in
        (b ∷ [], record { value = false; encoded = ap (λ z. z ∷ []) (eqb-true b 0 q); allowed = tt; means = sym p.0 }, ap (λ (z : List ℕ). b ∷ z) p.1)
    tested false true q w h =
        let p = some_pair_parts (slot.Boolean true) x bytes r h in
        (b ∷ [], record { value = true; encoded = ap (λ z. z ∷ []) (eqb-true b 1 w); allowed = tt; means = sym p.0 }, ap (λ (z : List ℕ). b ∷ z) p.1)
    tested false false q w h = absurd (none-some (x, r) h)

pub boolean_complete : Complete boolean_at (Meaning IsBooleanByte Any slot.Boolean)
unfolding boolean_at
boolean_complete prefix r x h = either h.value h.encoded h.means
  where
    either : (v : Bool) → prefix ≡ cond v 1 0 ∷ [] → x ≡ slot.Boolean v → boolean_at (prefix ++ r) ≡ Some (x, r)
    either false s m = rw (s, m) refl
    either true s m = rw (s, m) refl

int_tested : (v : ℤ) → is_int v ≡ true → IsInt v
int_tested v e =
    let p = and_parts _ _ e in (le_z_yes (T_from_true _ p.0), le_z_yes (T_from_true _ p.1))

true_from_T : (b : Bool) → T b → b ≡ true
true_from_T true h = refl
true_from_T false h = absurd h

int_allowed : (v : ℤ) → IsInt v → is_int v ≡ true
int_allowed v h = and_from _ _ (true_from_T _ h.0.le) (true_from_T _ h.1.le)

int_sound : Sound int_at (Meaning Number IsInt slot.Integer)
unfolding int_at
int_sound bytes r x e = tested_sound number_at is_int slot.Integer Number IsInt number_sound int_tested bytes r x e

int_complete : Complete int_at (Meaning Number IsInt slot.Integer)
unfolding int_at
int_complete prefix r x h = tested_complete number_at is_int slot.Integer Number IsInt number_complete int_allowed prefix r x h

long_sound : Sound long_at (Meaning Number Any slot.Integer)
unfolding long_at
long_sound bytes r x e = told_sound number_at slot.Integer Number number_sound bytes r x e

long_complete : Complete long_at (Meaning Number Any slot.Integer)
unfolding long_at
long_complete prefix r x h = told_complete number_at slot.Integer Number number_complete prefix r x h

string_sound : Sound string_at (Meaning Sized IsUtf8 slot.String)
unfolding string_at
string_sound bytes r x e = tested_sound sized_at is_utf8 slot.String Sized IsUtf8 sized_sound IsUtf8-from_is_utf8 bytes r x e

string_complete : Complete string_at (Meaning Sized IsUtf8 slot.String)
unfolding string_at
string_complete prefix r x h = tested_complete sized_at is_utf8 slot.String Sized IsUtf8 sized_complete is_utf8-from_IsUtf8 prefix r x h

binary_sound : Sound binary_at (Meaning Sized Any slot.Binary)
unfolding binary_at
binary_sound bytes r x e = told_sound sized_at slot.Binary Sized sized_sound bytes r x e

binary_complete : Complete binary_at (Meaning Sized Any slot.Binary)
unfolding binary_at
binary_complete prefix r x h = told_complete sized_at slot.Binary Sized sized_complete prefix r x h

abbrev whole_of : List ℕ → Slot
whole_of y = slot.Integer (twos_complement y)

abbrev is_short : List ℕ → Bool
is_short y = leb (length y) 16

short_tested : (y : List ℕ) → is_short y ≡ true → IsShort y
short_tested y e = leb-true (length y) 16 e

short_allowed : (y : List ℕ) → IsShort y → is_short y ≡ true
short_allowed y h = le-leb (length y) 16 h

decimal_sound : (f : Reader (List ℕ)) (P : Grammar (List ℕ)) → Sound f P → Sound (decimal_at f) (Meaning P IsShort whole_of)
unfolding decimal_at
decimal_sound f P h bytes r x e = tested_sound f is_short whole_of P IsShort h short_tested bytes r x e

decimal_complete : (f : Reader (List ℕ)) (P : Grammar (List ℕ)) → Complete f P → Complete (decimal_at f) (Meaning P IsShort whole_of)
unfolding decimal_at
decimal_complete f P h prefix r x m = tested_complete f is_short whole_of P IsShort h short_allowed prefix r x m

bytes_logical_sound : (logical : Option BytesLogical) → Sound (bytes_logical_at logical) (EncodesBytes logical)
unfolding bytes_logical_at
bytes_logical_sound None bytes r x e = binary_sound bytes r x e
bytes_logical_sound (Some (bytes_logical.Decimal precision scale)) bytes r x e = decimal_sound sized_at Sized sized_sound bytes r x e

bytes_logical_complete : (logical : Option BytesLogical) → Complete (bytes_logical_at logical) (EncodesBytes logical)
unfolding bytes_logical_at
bytes_logical_complete None prefix r x h = binary_complete prefix r x h
bytes_logical_complete (Some (bytes_logical.Decimal precision scale)) prefix r x h = decimal_complete sized_at Sized sized_complete prefix r x h

fixed_sound : (size : ℕ) (logical : Option FixedLogical) → Sound (fixed_at size logical) (EncodesFixed size logical)
unfolding fixed_at
fixed_sound size None bytes r x e = told_sound (bytes_at size) slot.Binary (Raw size) (bytes_sound size) bytes r x e
fixed_sound size (Some (fixed_logical.Decimal precision scale)) bytes r x e = decimal_sound (bytes_at size) (Raw size) (bytes_sound size) bytes r x e
fixed_sound size (Some fixed_logical.Duration) bytes r x e = told_sound (bytes_at 12) duration (Raw 12) (bytes_sound 12) bytes r x e

fixed_complete : (size : ℕ) (logical : Option FixedLogical) → Complete (fixed_at size logical) (EncodesFixed size logical)
unfolding fixed_at
fixed_complete size None prefix r x h = told_complete (bytes_at size) slot.Binary (Raw size) (bytes_complete size) prefix r x h
fixed_complete size (Some (fixed_logical.Decimal precision scale)) prefix r x h = decimal_complete (bytes_at size) (Raw size) (bytes_complete size) prefix r x h
fixed_complete size (Some fixed_logical.Duration) prefix r x h = told_complete (bytes_at 12) duration (Raw 12) (bytes_complete 12) prefix r x h

index_tested : {A : Type 0} (xs : List A) (v : ℤ) → is_index v (length xs) ≡ true → IsIndex xs v
index_tested xs (pos k) e = ltb-true k (length xs) e
index_tested xs (negsuc k) e = absurd (false≢true e)

index_allowed : {A : Type 0} (xs : List A) (v : ℤ) → IsIndex xs v → is_index v (length xs) ≡ true
index_allowed xs (pos k) h = lt-ltb k (length xs) h
index_allowed xs (negsuc k) h = absurd h

symbol_sound : (symbols : List (List ℕ)) → Sound (symbol_of symbols) (Meaning Number (IsIndex symbols) (λ v. slot.String (symbol_at symbols v)))
unfolding symbol_of
symbol_sound symbols bytes r x e =
    tested_sound number_at (λ v. is_index v (length symbols)) (λ v. slot.String (symbol_at symbols v)) Number (IsIndex symbols) number_sound (index_tested symbols) bytes r x e

symbol_complete : (symbols : List (List ℕ)) → Complete (symbol_of symbols) (Meaning Number (IsIndex symbols) (λ v. slot.String (symbol_at symbols v)))
unfolding symbol_of
symbol_complete symbols prefix r x h =
    tested_complete number_at (λ v. is_index v (length symbols)) (λ v. slot.String (symbol_at symbols v)) Number (IsIndex symbols) number_complete (index_allowed symbols) prefix r x h

-- ---- values

pub index_is : (v : ℤ) (n : ℕ) → is_index v n ≡ true → (k : ℕ) × (v ≡ pos k) × (k < n) × (nat_abs v ≡ k)
index_is (pos k) n e = (k, refl, ltb-true k n e, refl)
index_is (negsuc k) n e = absurd (false≢true e)

pub not_null : (s : Schema) (bytes : List ℕ) (x : Slot) → Encodes s bytes x → is_null s ≡ false
not_null Null bytes x h = absurd h
not_null _ bytes x h = refl

abbrev Member : {m : _} → Row_of-Schema m → ℤ → Grammar Slot
Member members v back y = (k : ℕ) × (v ≡ pos k) × (k < 2) × EncodesMember members k back y

abbrev member_at : {m : _} → Row_of-Schema m → ℤ → Reader Slot
member_at members v bytes = cond (is_index v 2) (read_member members (nat_abs v) bytes) None

tested : {m : _} (members : Row_of-Schema m) (v : ℤ) (bytes r : List ℕ) (x : Slot) (t : Bool) → is_index v 2 ≡ t → cond t (read_member members (nat_abs v) bytes) None ≡ Some (x, r) → (read_member members (nat_abs v) bytes ≡ Some (x, r) → (prefix : List ℕ) × EncodesMember members (nat_abs v) prefix x × (bytes ≡ prefix ++ r)) → (prefix : List ℕ) × Member members v prefix x × (bytes ≡ prefix ++ r)
tested members v bytes r x false q e h = absurd (none-some (x, r) e)
tested members v bytes r x true q e h =
    let p = index_is v 2 q in
    let one = h e in
    (one.0, (p.0, p.1, p.2, subst (λ k. EncodesMember members k one.0 x) p.3 one.1), one.2)

null_or : (s : Schema) (bytes r : List ℕ) (x : Slot) (t : Bool) → is_null s ≡ t → cond t (Some (slot.Null, bytes)) (read s bytes) ≡ Some (x, r) → (read s bytes ≡ Some (x, r) → (prefix : List ℕ) × Encodes s prefix x × (bytes ≡ prefix ++ r)) → (prefix : List ℕ) × (Encodes s prefix x ⊎ (IsNull s × (prefix ≡ []) × (x ≡ slot.Null))) × (bytes ≡ prefix ++ r)
null_or s bytes r x true q e h = let p = some_pair_parts slot.Null x bytes r e in ([], inr (null_is s q, refl, sym p.0), p.1)
null_or s bytes r x false q e h = let one = h e in (one.0, inl one.1, one.2)

numbered : {m : _} (members : Row_of-Schema m) (v : ℤ) (k : ℕ) (prefix r : List ℕ) (x : Slot) → v ≡ pos k → k < 2 → read_member members k (prefix ++ r) ≡ Some (x, r) → member_at members v (prefix ++ r) ≡ Some (x, r)
numbered members v k prefix r x e l h = rw (e, lt-ltb k 2 l) h

mutual
  pub read_sound : (s : Schema) → Sound (read s) (Encodes s)
  read_sound Null bytes r x e = absurd (none-some (x, r) e)
  read_sound Boolean bytes r x e = boolean_sound bytes r x e
  read_sound (Int logical) bytes r x e = int_sound bytes r x e
  read_sound (Long logical) bytes r x e = long_sound bytes r x e
  read_sound Float bytes r x e = absurd (none-some (x, r) e)
  read_sound Double bytes r x e = absurd (none-some (x, r) e)
  read_sound (Bytes logical) bytes r x e = bytes_logical_sound logical bytes r x e
  read_sound (String logical) bytes r x e = string_sound bytes r x e
  read_sound (Record t) bytes r x e =
      let b = bind_some (read_record t [] bytes) (λ xs. Some (slot.Struct xs.0, xs.1)) (x, r) e in
      let p = some_pair_parts (slot.Struct b.0.0) x b.0.1 r b.2 in
      let k = record_sound t [] b.0.0 bytes b.0.1 b.1 in
      (k.0, record { value = k.1; encoded = k.2; allowed = tt; means = sym p.0 ∙ ap slot.Struct k.3 }, k.4 ∙ ap (λ (z : List ℕ). k.0 ++ z) p.1)
  read_sound (Enum e) bytes r x q = symbol_sound e.symbols bytes r x q
  read_sound (Array' shape item) bytes r x e = array_sound (read_item item) (EncodesItem item) (item_sound item) bytes r x e
  read_sound (Map' shape value) bytes r x e = absurd (none-some (x, r) e)
  read_sound (Union' shape members) bytes r x e =
      then_sound number_at (member_at members) Number (Member members) number_sound
      (λ v bytes r x e. tested members v bytes r x (is_index v 2) refl e (member_sound members (nat_abs v) bytes r x))
      bytes r x e
  read_sound (Fixed f) bytes r x e = fixed_sound f.size f.logical bytes r x e

  record_sound : (t : TheRecord) (old all : List Slot) (bytes r : List ℕ) → read_record t old bytes ≡ Some (all, r) → (prefix : List ℕ) × (xs : List Slot) × EncodesRecord t prefix xs × (all ≡ old ++ xs) × (bytes ≡ prefix ++ r)
  record_sound (Record' name namespace doc shape fields) old all bytes r e = fields_sound fields old all bytes r e

  item_sound : {m : _} (row : Row_of-Schema m) → Sound (read_item row) (EncodesItem row)
  item_sound end_of-Schema bytes r x e = absurd (none-some (x, r) e)
  item_sound (more_of-Schema s rest) bytes r x e = read_sound s bytes r x e

  member_sound : {m : _} (row : Row_of-Schema m) (k : ℕ) → Sound (read_member row k) (EncodesMember row k)
  member_sound end_of-Schema k bytes r x e = absurd (none-some (x, r) e)
  member_sound (more_of-Schema s rest) zero bytes r x e = null_or s bytes r x (is_null s) refl e (read_sound s bytes r x)
  member_sound (more_of-Schema s rest) (suc k) bytes r x e = member_sound rest k bytes r x e

  fields_sound : {m : _} (row : Row_of-AvroField m) (old all : List Slot) (bytes r : List ℕ) → read_fields row old bytes ≡ Some (all, r) → (prefix : List ℕ) × (xs : List Slot) × EncodesFields row prefix xs × (all ≡ old ++ xs) × (bytes ≡ prefix ++ r)
  fields_sound end_of-AvroField old all bytes r e =
      let p = some_pair_parts old all bytes r e in ([], [], (refl, refl), sym p.0 ∙ sym (append-nil old), p.1)
  fields_sound (more_of-AvroField name doc s rest) old all bytes r e =
      let b = bind_some (push_one old (read s bytes)) (λ x. read_fields rest x.0 x.1) (all, r) e in
      let o = push_one-some old b.0.0 (read s bytes) b.0.1 b.1 in
      let one = read_sound s bytes b.0.1 o.0 o.1 in
      let more = fields_sound rest b.0.0 all b.0.1 r b.2 in (
        one.0 ++ more.0,
        o.0 ∷ more.1,
        record { prefix = one.0; back = more.0; joined = refl; value = o.0; first = one.1; second = (more.1, refl, more.2) },
        more.3 ∙ ap (λ (ys : List Slot). ys ++ more.1) o.2 ∙ append_assoc old (o.0 ∷ []) more.1,
        split_up bytes one.0 more.0 r b.0.1 one.2 more.4,
      )

mutual
  unfolding push_one

  pub read_complete : (s : Schema) → Complete (read s) (Encodes s)
  read_complete Null prefix r x h = absurd h
  read_complete Boolean prefix r x h = boolean_complete prefix r x h
  read_complete (Int logical) prefix r x h = int_complete prefix r x h
  read_complete (Long logical) prefix r x h = long_complete prefix r x h
  read_complete Float prefix r x h = absurd h
  read_complete Double prefix r x h = absurd h
  read_complete (Bytes logical) prefix r x h = bytes_logical_complete logical prefix r x h
  read_complete (String logical) prefix r x h = string_complete prefix r x h
  read_complete (Record t) prefix r x h =
      let one : read_record t [] (prefix ++ r) ≡ Some (h.value, r) = all_of_record t [] h.value prefix r h.encoded in
      rw (one, h.means) refl
  read_complete (Enum e) prefix r x h = symbol_complete e.symbols prefix r x h
  read_complete (Array' shape item) prefix r x h = array_complete (read_item item) (EncodesItem item) (all_of_item item) prefix r x h
  read_complete (Map' shape value) prefix r x h = absurd h
  read_complete (Union' shape members) prefix r x h =
      then_complete number_at (member_at members) Number (Member members) number_complete
      (λ v prefix r x h. numbered members v h.0 prefix r x h.1 h.2 (all_of_member members h.0 prefix r x h.3))
      prefix r x h
  read_complete (Fixed f) prefix r x h = fixed_complete f.size f.logical prefix r x h

  all_of_record : (t : TheRecord) (old xs : List Slot) (prefix r : List ℕ) → EncodesRecord t prefix xs → read_record t old (prefix ++ r) ≡ Some (old ++ xs, r)
  all_of_record (Record' name namespace doc shape fields) old xs prefix r h = all_of_fields fields old xs prefix r h

  all_of_item : {m : _} (row : Row_of-Schema m) → Complete (read_item row) (EncodesItem row)
  all_of_item end_of-Schema prefix r x h = absurd h
  all_of_item (more_of-Schema s rest) prefix r x h = read_complete s prefix r x h

  all_of_member : {m : _} (row : Row_of-Schema m) (k : ℕ) → Complete (read_member row k) (EncodesMember row k)
  all_of_member end_of-Schema k prefix r x h = absurd h
  all_of_member (more_of-Schema s rest) zero prefix r x (inl h) = rw (not_null s prefix x h) (read_complete s prefix r x h)
  all_of_member (more_of-Schema s rest) zero prefix r x (inr h) = rw (null_told s h.0, h.1, h.2) refl
  all_of_member (more_of-Schema s rest) (suc k) prefix r x h = all_of_member rest k prefix r x h

  all_of_fields : {m : _} (row : Row_of-AvroField m) (old xs : List Slot) (prefix r : List ℕ) → EncodesFields row prefix xs → read_fields row old (prefix ++ r) ≡ Some (old ++ xs, r)
  all_of_fields end_of-AvroField old xs prefix r h = rw (h.0, h.1, append-nil old) refl
  all_of_fields (more_of-AvroField name doc s rest) old xs prefix r h =
      let one = read_complete s h.prefix (h.back ++ r) h.value h.first in
      let more = all_of_fields rest (old ++ h.value ∷ []) h.second.0 h.back r h.second.2 in
      rw (joined_up prefix h.prefix h.back r h.joined, one, h.second.1)
      (more ∙ ap (λ (ys : List Slot). Some (ys, r)) (append_assoc old (h.value ∷ []) h.second.0))
