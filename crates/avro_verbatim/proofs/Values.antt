-- Slots of unions, arrays and records, and rows, in their canonical encoding.
use Rattle.std.proofs.Common.{◌≡◌, ◌∙◌, inl, inr, ℕ, suc, ◌+◌, ◌-◌, ◌^◌, ◌<◌, ◌≤◌, pos, List, [], ◌∷◌, ◌++◌, length, take, drop, get_or, flat_map, map, refl, sym, ap, subst, append_assoc, length-append, length-drop, drop-cons, add-one, arith}
use Rattle.std.specs.List.{AllByRecursion}
use Rattle.std.proofs.lemmas.List.{append-nil, drop_all, length-map, take_all}
use Rattle.std.proofs.Math.Seq.{drop-append_seam}
use Rattle.arrow_core.specs.declared.slot.Slot.{Slot}
use Rattle.arrow_core.specs.declared.slot.Slot.TheVariants as slot
use Rattle.avro_schema.specs.declared.schema.AvroField.{AvroField}
use Rattle.avro_schema.specs.declared.schema.Record.{Record as TheRecord, out-Record}
use Rattle.avro_schema.specs.declared.schema.Schema.{Schema, Array, Union, Record}
use Rattle.avro_schema.specs.Carried.{IsNoUnion}
use Rattle.avro_schema.specs.Encodes.{IsNull}
use Rattle.avro_container.specs.Shortest.{shortest}
use Rattle.avro_container.proofs.ShortestLemmas.{ends}
use Rattle.avro_encode.specs.Listed.{PairsFieldsOf, PairsUnionOf, plain_fields_of, plain_union_of}
use Rattle.avro_encode.specs.Pairs.{Pairs}
use Rattle.avro_encode.specs.Plain.{one_block, plain}
use Rattle.avro_encode.proofs.ByLists.{pairs_array_back, pairs_record_back, pairs_union_back, plain_array, plain_record_is, plain_union_is}
use Rattle.avro_encode.proofs.PlainLaw.{null_told, pairs_held, parts_list, parts_struct}
use Rattle.avro_verbatim.specs.Begins.{BeginsWith, BeginsWithFields, BeginsWithItems, BeginsWithLength, BeginsWithMany, BeginsWithRows, BeginsWithSlot}
use Rattle.avro_verbatim.specs.Canonical.{AreCanonicalRows}

byte_of_0 : shortest (pos 0) ≡ 0 ∷ []
byte_of_0 = ends 9 0 (omega arith)

byte_of_1 : shortest (pos 1) ≡ 2 ∷ []
byte_of_1 = ends 9 2 (omega arith)

-- ---- unions

module _ (s u : Schema) (null : IsNull s) (no_union : IsNoUnion u) where
  abbrev Union_of : List ℕ → List ℕ → Type 0
  Union_of = BeginsWith (PairsUnionOf (s ∷ u ∷ [])) (plain_union_of (s ∷ u ∷ []))

  null_plain : plain_union_of (s ∷ u ∷ []) slot.Null ≡ 0 ∷ []
  null_plain = rw (null_told s null) byte_of_0

  pub null_begins : (bytes rest : List ℕ) → bytes ≡ 0 ∷ rest → Union_of bytes rest
  null_begins bytes rest e =
      record { value = slot.Null; holds = inl (null, no_union, inl refl); joined = e ∙ ap (λ (xs : List ℕ). xs ++ rest) (sym null_plain) }

  held_plain : (x : Slot) → Pairs u x → plain_union_of (s ∷ u ∷ []) x ≡ 2 ∷ plain u x
  held_plain x p = rw (null_told s null, pairs_held u x no_union p) (ap (λ (xs : List ℕ). xs ++ plain u x) byte_of_1)

  pub held_begins : (bytes mid rest : List ℕ) → bytes ≡ 2 ∷ mid → BeginsWithSlot u mid rest → Union_of bytes rest
  held_begins bytes mid rest e h = record {
    value = h.value;
    holds = inl (null, no_union, inr h.holds);
    joined = e ∙ ap (λ (xs : List ℕ). 2 ∷ xs) h.joined ∙ ap (λ (xs : List ℕ). xs ++ rest) (sym (held_plain h.value h.holds));
  }

union_begins : (ms : List Schema) (bytes rest : List ℕ) → BeginsWith (PairsUnionOf ms) (plain_union_of ms) bytes rest → BeginsWithSlot (Union ms) bytes rest
union_begins ms bytes rest h =
    record { value = h.value; holds = pairs_union_back ms h.value h.holds; joined = h.joined ∙ ap (λ (xs : List ℕ). xs ++ rest) (sym (plain_union_is ms h.value)) }

-- a list of two
two_are : {A : Type 0} (xs : List A) (a b : A) → 2 ≤ length xs → length xs < 3 → a ≡ get_or xs 0 a → b ≡ get_or xs 1 b → xs ≡ a ∷ b ∷ []
two_are [] a b l h e d = absurd (omega (arith, l))
two_are (x ∷ []) a b l h e d = absurd (omega (arith, l))
two_are (x ∷ y ∷ []) a b l h e d = rw (e, d) refl
two_are (x ∷ y ∷ z ∷ more) a b l h e d = absurd (omega (arith, h))

module _ (ms : List Schema) (s u : Schema) (least : 2 ≤ length ms) (most : length ms < 3) (first : s ≡ get_or ms 0 s) (second : u ≡ get_or ms 1 u) (null : IsNull s) (no_union : IsNoUnion u) where
  of_two : (bytes rest : List ℕ) → BeginsWith (PairsUnionOf (s ∷ u ∷ [])) (plain_union_of (s ∷ u ∷ [])) bytes rest → BeginsWithSlot (Union ms) bytes rest
  of_two bytes rest h =
      subst (λ (zs : List Schema). BeginsWithSlot (Union zs) bytes rest) (sym (two_are ms s u least most first second)) (union_begins (s ∷ u ∷ []) bytes rest h)

  pub null_of_two : (bytes rest : List ℕ) → bytes ≡ 0 ∷ rest → BeginsWithSlot (Union ms) bytes rest
  null_of_two bytes rest e = of_two bytes rest (null_begins s u null no_union bytes rest e)

  pub held_of_two : (bytes mid rest : List ℕ) → bytes ≡ 2 ∷ mid → BeginsWithSlot u mid rest → BeginsWithSlot (Union ms) bytes rest
  held_of_two bytes mid rest e h = of_two bytes rest (held_begins s u null no_union bytes mid rest e h)

pub of_union : (s : Schema) (ms slice : List Schema) (bytes rest : List ℕ) → s ≡ Union ms → slice ≡ ms → BeginsWithSlot (Union slice) bytes rest → BeginsWithSlot s bytes rest
of_union s ms slice bytes rest e d h = subst (λ (z : Schema). BeginsWithSlot z bytes rest) (ap Union d ∙ sym e) h

pub value_as : (s u : Schema) (bytes mid rest : List ℕ) → s ≡ u → bytes ≡ mid → BeginsWithSlot s bytes rest → BeginsWithSlot u mid rest
value_as s u bytes mid rest e d h = subst (λ (z : Schema). BeginsWithSlot z mid rest) e (subst (λ (xs : List ℕ). BeginsWithSlot s xs rest) d h)

-- ---- arrays

array_plain : (item : Schema) (xs : List Slot) → plain (Array item) (slot.List xs) ≡ one_block (plain item) xs
array_plain item xs = plain_array item (slot.List xs) ∙ ap (one_block (plain item)) (parts_list xs)

pub no_items : (item : Schema) (bytes rest : List ℕ) (b : ℕ) → bytes ≡ b ∷ rest → b ≡ 0 → BeginsWithSlot (Array item) bytes rest
no_items item bytes rest b e none = record {
  value = slot.List [];
  holds = pairs_array_back item (slot.List []) ([], refl, omega arith, tt);
  joined = e ∙ ap (λ k. k ∷ rest) none ∙ ap (λ (xs : List ℕ). xs ++ rest) (sym (array_plain item [] ∙ byte_of_0));
}

block_is : (item : Schema) (xs : List Slot) (n : ℕ) → 0 < n → length xs ≡ n → one_block (plain item) xs ≡ shortest (pos n) ++ (flat_map (plain item) xs ++ shortest (pos 0))
block_is item [] n some e = absurd (omega (arith, some, e))
block_is item (x ∷ xs) n some e = ap (λ k. shortest (pos k) ++ (flat_map (plain item) (x ∷ xs) ++ shortest (pos 0))) e

pub some_items : (item : Schema) (bytes items after rest : List ℕ) (n : ℕ) → BeginsWithLength bytes n items → 0 < n → BeginsWithItems item n items after → after ≡ 0 ∷ rest → BeginsWithSlot (Array item) bytes rest
some_items item bytes items after rest n h some t e =
    let xs = t.value in
    let all = flat_map (plain item) xs in
    let fits : n < 2 ^ 63 = h.fits in
    let last : after ≡ shortest (pos 0) ++ rest = e ∙ ap (λ (zs : List ℕ). zs ++ rest) (sym byte_of_0) in
    record {
      value = slot.List xs;
      holds = pairs_array_back item (slot.List xs) (xs, refl, omega (arith, fits, t.holds.0), t.holds.1);
      joined =
          h.joined ∙ ap (λ (zs : List ℕ). shortest (pos n) ++ zs) t.joined ∙ ap (λ (zs : List ℕ). shortest (pos n) ++ (all ++ zs)) last
          ∙ ap (λ (zs : List ℕ). shortest (pos n) ++ zs) (sym (append_assoc all (shortest (pos 0)) rest))
          ∙ sym (append_assoc (shortest (pos n)) (all ++ shortest (pos 0)) rest)
          ∙ ap (λ (zs : List ℕ). zs ++ rest) (sym (array_plain item xs ∙ block_is item xs n some t.holds.0));
    }

-- ---- one after another

module _ {A : Type 0} (P : A → Type 0) (encode : A → List ℕ) (Whole : List ℕ → Type 0) where
  pub one_more : (n m : ℕ) (rest next : List ℕ) → n ≡ suc m → BeginsWith P encode rest next → ((after : List ℕ) → BeginsWithMany P encode n rest after → Whole after) → (after : List ℕ) → BeginsWithMany P encode m next after → Whole after
  one_more n m rest next is h whole after t =
      whole after
      (record {
        value = h.value ∷ t.value;
        holds = (ap suc t.holds.0 ∙ sym is, (h.holds, t.holds.1));
        joined = h.joined ∙ ap (λ (zs : List ℕ). encode h.value ++ zs) t.joined ∙ sym (append_assoc (encode h.value) (flat_map encode t.value) after);
      })

  pub none_left : (n : ℕ) (rest : List ℕ) → n ≡ 0 → ((after : List ℕ) → BeginsWithMany P encode n rest after → Whole after) → Whole rest
  none_left n rest none whole = whole rest (record { value = []; holds = (sym none, tt); joined = refl })

-- ---- fields

module _ (fs : List AvroField) (i : ℕ) (Whole : List ℕ → Type 0) (rest : List ℕ) (whole : (after : List ℕ) → BeginsWithFields (drop i fs) rest after → Whole after) where
  pub one_field : (f : AvroField) (next : List ℕ) → i < length fs → BeginsWithSlot (get_or fs i f).schema rest next → (after : List ℕ) → BeginsWithFields (drop (i + 1) fs) next after → Whole after
  one_field f next l h after t =
      let g = get_or fs i f in
      let more : List AvroField = drop (i + 1) fs in
      let same : drop i fs ≡ g ∷ more = drop-cons fs i f l ∙ ap (λ k. g ∷ drop k fs) (sym (add-one i)) in
      let both : BeginsWithFields (g ∷ more) rest after =
      record {
        value = h.value ∷ t.value;
        holds = (h.holds, t.holds);
        joined = h.joined ∙ ap (λ (zs : List ℕ). plain g.schema h.value ++ zs) t.joined ∙ sym (append_assoc (plain g.schema h.value) (plain_fields_of more t.value) after);
      } in
      whole after (subst (λ (gs : List AvroField). BeginsWithFields gs rest after) (sym same) both)

  pub no_field : length fs ≤ i → Whole rest
  no_field l =
      let none : BeginsWithFields [] rest rest = record { value = []; holds = tt; joined = refl } in
      whole rest (subst (λ (gs : List AvroField). BeginsWithFields gs rest rest) (sym (drop_all i fs l)) none)

record_begins : (r : TheRecord) (bytes rest : List ℕ) → BeginsWithFields (out-Record r).fields bytes rest → BeginsWithSlot (Record r) bytes rest
record_begins r bytes rest h =
    let xs = h.value in
    record {
      value = slot.Struct xs;
      holds = pairs_record_back r (slot.Struct xs) (xs, refl, h.holds);
      joined = h.joined ∙ ap (λ (zs : List ℕ). zs ++ rest) (sym (plain_record_is r (slot.Struct xs) ∙ ap (plain_fields_of (out-Record r).fields) (parts_struct xs)));
    }

of_record : (s : Schema) (r : TheRecord) (fs : List AvroField) (bytes rest : List ℕ) → s ≡ Record r → fs ≡ (out-Record r).fields → BeginsWithFields fs bytes rest → BeginsWithSlot s bytes rest
of_record s r fs bytes rest e x h =
    subst (λ (z : Schema). BeginsWithSlot z bytes rest) (sym e) (record_begins r bytes rest (subst (λ (gs : List AvroField). BeginsWithFields gs bytes rest) x h))

-- the bytes from an index on, as a slice of them is told
pub from_index : (bytes : List ℕ) (n : ℕ) → take (length bytes - n) (drop n bytes) ≡ drop n bytes
from_index bytes n = take_all (length bytes - n) (drop n bytes) (omega (arith, length-drop n bytes))

-- one row is the fields
row_is_fields : (fs : List AvroField) (bytes rest : List ℕ) → BeginsWithRows fs 1 bytes rest → BeginsWithFields fs bytes rest
row_is_fields fs bytes rest h = from h.value h.holds.0 h.holds.1 h.joined
  where
    from : (table : List (List Slot)) → length table ≡ 1 → AllByRecursion (PairsFieldsOf fs) table → bytes ≡ flat_map (plain_fields_of fs) table ++ rest → BeginsWithFields fs bytes rest
    from [] e p j = absurd (omega (arith, e))
    from (xs ∷ []) e p j = record { value = xs; holds = p.0; joined = j ∙ ap (λ (zs : List ℕ). zs ++ rest) (append-nil (plain_fields_of fs xs)) }
    from (xs ∷ ys ∷ table) e p j = absurd (omega (arith, e))

pub record_taken : (s : Schema) (r : TheRecord) (fs : List AvroField) (bytes : List ℕ) (n : ℕ) → s ≡ Record r → fs ≡ (out-Record r).fields → BeginsWithRows fs 1 bytes (drop n bytes) → BeginsWithSlot s bytes (take (length bytes - n) (drop n bytes))
record_taken s r fs bytes n e x h =
    subst (λ (xs : List ℕ). BeginsWithSlot s bytes xs) (sym (from_index bytes n)) (of_record s r fs bytes (drop n bytes) e x (row_is_fields fs bytes (drop n bytes) h))

-- rows are items of a record's schema
module _ (r : TheRecord) where
  abbrev fields_of : List AvroField
  fields_of = (out-Record r).fields

  all_pairs : (table : List (List Slot)) → AllByRecursion (PairsFieldsOf fields_of) table → AllByRecursion (Pairs (Record r)) (map slot.Struct table)
  all_pairs [] h = tt
  all_pairs (xs ∷ table) h = (pairs_record_back r (slot.Struct xs) (xs, refl, h.0), all_pairs table h.1)

  row_plain : (xs : List Slot) → plain_fields_of fields_of xs ≡ plain (Record r) (slot.Struct xs)
  row_plain xs = sym (plain_record_is r (slot.Struct xs) ∙ ap (plain_fields_of fields_of) (parts_struct xs))

  all_plain : (table : List (List Slot)) → flat_map (plain_fields_of fields_of) table ≡ flat_map (plain (Record r)) (map slot.Struct table)
  all_plain [] = refl
  all_plain (xs ∷ table) = λ i. row_plain xs i ++ all_plain table i

  rows_are_items : (n : ℕ) (bytes rest : List ℕ) → BeginsWithRows fields_of n bytes rest → BeginsWithItems (Record r) n bytes rest
  rows_are_items n bytes rest h = record {
    value = map slot.Struct h.value;
    holds = (length-map h.value slot.Struct ∙ h.holds.0, all_pairs h.value h.holds.1);
    joined = h.joined ∙ ap (λ (zs : List ℕ). zs ++ rest) (all_plain h.value);
  }

pub items_taken : (s : Schema) (r : TheRecord) (fs : List AvroField) (count : ℕ) (bytes : List ℕ) (n : ℕ) → s ≡ Record r → fs ≡ (out-Record r).fields → BeginsWithRows fs count bytes (drop n bytes) → BeginsWithItems s count bytes (take (length bytes - n) (drop n bytes))
items_taken s r fs count bytes n e x h =
    subst (λ (z : Schema). BeginsWithItems z count bytes (take (length bytes - n) (drop n bytes))) (sym e)
    (subst (λ (xs : List ℕ). BeginsWithItems (Record r) count bytes xs) (sym (from_index bytes n)) (rows_are_items r count bytes (drop n bytes) (subst (λ (gs : List AvroField). BeginsWithRows gs count bytes (drop n bytes)) x h)))

-- rows that are all of the bytes
pub whole_rows : (n : ℕ) (fs : List AvroField) (bytes : List ℕ) (len : ℕ) → len ≡ length bytes → BeginsWithRows fs n bytes (drop len bytes) → AreCanonicalRows n fs bytes
whole_rows n fs bytes len e h = record {
  table = h.value;
  counted = h.holds.0;
  encoded = h.holds.1;
  is = h.joined ∙ ap (λ (zs : List ℕ). flat_map (plain_fields_of fs) h.value ++ zs) (drop_all len bytes (omega (arith, e))) ∙ append-nil (flat_map (plain_fields_of fs) h.value);
}

-- ---- how many bytes were taken

module _ {A : Type 0} (P : A → Type 0) (encode : A → List ℕ) (bytes rest : List ℕ) (h : BeginsWith P encode bytes rest) where
  all_bytes : length bytes ≡ length (encode h.value) + length rest
  all_bytes = ap length h.joined ∙ length-append (encode h.value) rest

  pub no_longer : length rest ≤ length bytes
  no_longer = omega (arith, all_bytes)

  left_is : drop (length bytes - length rest) bytes ≡ rest
  left_is =
      let same : length bytes - length rest ≡ length (encode h.value) = omega (arith, all_bytes) in
      (λ i. drop (same i) (h.joined i)) ∙ drop-append_seam (encode h.value) rest

  pub taken : (length bytes - length rest ≤ length bytes) × BeginsWith P encode bytes (drop (length bytes - length rest) bytes)
  taken = (omega arith, subst (λ (xs : List ℕ). BeginsWith P encode bytes xs) (sym left_is) h)
