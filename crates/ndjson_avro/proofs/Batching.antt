-- Batches that are written one after another.
use Rattle.std.proofs.Common.{◌≡◌, ℕ, suc, ◌+◌, ◌<◌, ◌≤◌, true, ◌||◌, List, [], ◌∷◌, ◌++◌, length, map, Option, refl, sym, ap, ◌∙◌, subst, append_assoc, arith}
use Rattle.std.specs.Prelude.{All, flat_map, slice_index_or}
use Rattle.std.specs.List.{AllZip, range_with_len}
use Rattle.std.specs.Io.KnownBytes.{Appends}
use Rattle.std.proofs.KnownBytes.{Appends-nil, Appends-trans}
use Rattle.std.proofs.lemmas.List.{append-nil, length-append, map-append}
use Rattle.std.proofs.lemmas.List.Elements.{All-append, All-cons, All-nil}
use Rattle.std.proofs.lemmas.List.Folds.{list_any-append}
use Rattle.arrow_core.specs.declared.slot.Slot.{Slot}
use Rattle.arrow_core.specs.declared.types.DataType.{DataType}
use Rattle.avro_container.specs.Canonical.{canonical_block, canonical_blocks}
use Rattle.avro_container.specs.File.{the_block}
use Rattle.avro_encode.specs.Pairs.{Pairs}
use Rattle.avro_encode.specs.Plain.{plain}
use Rattle.avro_schema.specs.declared.schema.Schema.{Schema}
use Rattle.avro_write.specs.declared.flaws.Flaw.TheVariants as flaw
use Rattle.avro_write.specs.Flaws.{shows}
use Rattle.avro_write.specs.Rows.{row, rows}
use Rattle.json_flat.specs.Reading.{reading}
use Rattle.json_flat.specs.Columns.{AreSlotsOf, means}
use Rattle.json_flat.specs.Meaning.{slot_of}
use Rattle.json_tree.specs.Meaning.{IsJson}
use Rattle.json_tree.specs.Tree.{Json}
use Rattle.ndjson_read.specs.Reading.{State}
use Rattle.ndjson_avro.specs.Rows.{all_rows, AreBatches, AreRows, rows_block, rows_blocks}
use Rattle.ndjson_avro.specs.Steps.{AllWritten, NextWritten, WrittenSoFar, as_batch}
use Rattle.ndjson_avro.specs.Taken.{TakesRows}
use Rattle.ndjson_avro.specs.Values.{is_object}
use Rattle.ndjson_avro.proofs.Taking.{takes_both, takes_none}

-- ---- rows after rows

zip_more : {A B : Type 0} (R : A → B → Type 0) (xs us : List A) (ys vs : List B) → AllZip R xs ys → AllZip R us vs → AllZip R (xs ++ us) (ys ++ vs)
zip_more R [] us [] vs h k = k
zip_more R [] us (y ∷ ys) vs h k = absurd h
zip_more R (x ∷ xs) us [] vs h k = absurd h
zip_more R (x ∷ xs) us (y ∷ ys) vs h k = (h.0, zip_more R xs us ys vs h.1 k)

pub no_rows : (t : DataType) (root : Schema) → AreRows t root [] []
no_rows t root = record { values = []; have = tt; objects = All-nil (λ (v : Json). is_object v ≡ true); meant = refl; complete = refl; paired = All-nil (Pairs root) }

pub more_rows : (t : DataType) (root : Schema) (ts us : List (List ℕ)) (xs ys : List Slot) → AreRows t root ts xs → AreRows t root us ys → AreRows t root (ts ++ us) (xs ++ ys)
more_rows t root ts us xs ys a b = record {
  values = a.values ++ b.values;
  have = zip_more IsJson a.values b.values ts us a.have b.have;
  objects = All-append (λ (v : Json). is_object v ≡ true) a.values b.values a.objects b.objects;
  meant = map-append (means (reading t)) a.values b.values ∙ (λ i. a.meant i ++ b.meant i) ∙ sym (map-append slot_of xs ys);
  complete = list_any-append (shows flaw.Null root) xs ys ∙ (λ i. (a.complete i || b.complete i));
  paired = All-append (Pairs root) xs ys a.paired b.paired;
}

-- as many rows as texts
pub zip_length : {A B : Type 0} (R : A → B → Type 0) (xs : List A) (ys : List B) → AllZip R xs ys → length xs ≡ length ys
zip_length R [] [] h = refl
zip_length R [] (y ∷ ys) h = absurd h
zip_length R (x ∷ xs) [] h = absurd h
zip_length R (x ∷ xs) (y ∷ ys) h = ap suc (zip_length R xs ys h.1)

map_length : {A B : Type 0} (f : A → B) (xs : List A) → length (map f xs) ≡ length xs
map_length f [] = refl
map_length f (x ∷ xs) = ap suc (map_length f xs)

pub slots_length : (t : DataType) (values : List Json) (slots : List Slot) → AreSlotsOf (reading t) values slots → length slots ≡ length values
slots_length t values slots e = sym (map_length slot_of slots) ∙ sym (ap length e) ∙ map_length (means (reading t)) values

pub rows_length : (t : DataType) (root : Schema) (texts : List (List ℕ)) (slots : List Slot) → AreRows t root texts slots → length slots ≡ length texts
rows_length t root texts slots a = slots_length t a.values slots a.meant ∙ zip_length IsJson a.values texts a.have

-- ---- batches after batches

all_more : (xs ys : List (List Slot)) → all_rows (xs ++ ys) ≡ all_rows xs ++ all_rows ys
all_more [] ys = refl
all_more (x ∷ xs) ys = ap (λ (z : List Slot). x ++ z) (all_more xs ys) ∙ sym (append_assoc x (all_rows xs) (all_rows ys))

all_of_batch : (slots : List Slot) → all_rows (as_batch slots) ≡ slots
all_of_batch [] = refl
all_of_batch (x ∷ slots) = append-nil (x ∷ slots)

blocks_more : (root : Schema) (marker : List ℕ) (xs ys : List (List Slot)) → canonical_blocks marker (rows_blocks root (xs ++ ys)) ≡ canonical_blocks marker (rows_blocks root xs) ++ canonical_blocks marker (rows_blocks root ys)
blocks_more root marker [] ys = refl
blocks_more root marker (x ∷ xs) ys =
    ap (λ (z : List ℕ). canonical_block marker (rows_block root x) ++ z) (blocks_more root marker xs ys)
    ∙ sym (append_assoc (canonical_block marker (rows_block root x)) (canonical_blocks marker (rows_blocks root xs)) (canonical_blocks marker (rows_blocks root ys)))

tail_full : (n : ℕ) (x : List Slot) (xs : List (List Slot)) → All (λ b. length b ≡ n) (x ∷ xs) → (length x ≡ n) × All (λ b. length b ≡ n) xs
tail_full n x xs h = (h 0 x (omega arith), λ k d l. h (suc k) d (omega (arith, l)))

cut_more : (n : ℕ) (batches : List (List Slot)) (slots : List Slot) → 0 < n → All (λ b. length b ≡ n) batches → length slots ≤ n → AreBatches n (batches ++ as_batch slots)
cut_more n [] [] some full most = tt
cut_more n [] (x ∷ slots) some full most = (omega arith, most)
cut_more n (b ∷ []) [] some full most = let h = tail_full n b [] full in (omega (arith, h.0, some), omega (arith, h.0))
cut_more n (b ∷ []) (x ∷ slots) some full most = let h = tail_full n b [] full in (h.0, cut_more n [] (x ∷ slots) some h.1 most)
cut_more n (b ∷ c ∷ more) slots some full most = let h = tail_full n b (c ∷ more) full in (h.0, cut_more n (c ∷ more) slots some h.1 most)

full_more : (n : ℕ) (batches : List (List Slot)) (slots : List Slot) → 0 < n → All (λ b. length b ≡ n) batches → length slots ≡ n → All (λ b. length b ≡ n) (batches ++ as_batch slots)
full_more n batches [] some full e = absurd (omega (arith, e, some))
full_more n batches (x ∷ slots) some full e = All-append (λ (b : List Slot). length b ≡ n) batches ((x ∷ slots) ∷ []) full (All-cons (λ (b : List Slot). length b ≡ n) (x ∷ slots) [] e (All-nil (λ (b : List Slot). length b ≡ n)))

-- ---- the loop

pub none_written : (t : DataType) (root : Schema) (marker : List ℕ) (n : ℕ) (s : State) (held : Option (List ℕ)) → WrittenSoFar t root marker n s s held held 0
none_written t root marker n s held = record {
  batches = [];
  before = record { texts = []; takes = takes_none s; rows = no_rows t root; full = All-nil (λ (b : List Slot). length b ≡ n); written = Appends-nil held };
  counted = refl;
  few = omega arith;
}

-- the next rows are written under the same row type and root
pub moved_next : (t other : DataType) (root another : Schema) (marker : List ℕ) (n : ℕ) (b c : State) (between after : Option (List ℕ)) (next : ℕ) → other ≡ t → another ≡ root → NextWritten other another marker n b c between after next → NextWritten t root marker n b c between after next
moved_next t other root another marker n b c between after next same also w = subst (λ (x : DataType × Schema). NextWritten x.0 x.1 marker n b c between after next) (λ i. (same i, also i)) w

module _ (t : DataType) (root : Schema) (marker : List ℕ) (n : ℕ) (a b c : State) (held between after : Option (List ℕ)) (count next : ℕ) (some : 0 < n) (s : WrittenSoFar t root marker n a b held between count) (w : NextWritten t root marker n b c between after next) where
  size : length w.slots ≡ next
  size = rows_length t root w.texts w.slots w.rows ∙ sym w.counted

  both_taken : TakesRows a c (s.before.texts ++ w.texts)
  both_taken = takes_both a b c s.before.texts w.texts s.before.takes w.takes.takes

  both_are : AreRows t root (s.before.texts ++ w.texts) (all_rows (s.batches ++ as_batch w.slots))
  both_are =
      subst (AreRows t root (s.before.texts ++ w.texts)) (sym (all_more s.batches (as_batch w.slots) ∙ ap (λ (z : List Slot). all_rows s.batches ++ z) (all_of_batch w.slots)))
      (more_rows t root s.before.texts w.texts (all_rows s.batches) w.slots s.before.rows w.rows)

  both_written : Appends held after (canonical_blocks marker (rows_blocks root (s.batches ++ as_batch w.slots)))
  both_written =
      subst (Appends held after) (sym (blocks_more root marker s.batches (as_batch w.slots)))
      (Appends-trans held between after (canonical_blocks marker (rows_blocks root s.batches)) (canonical_blocks marker (rows_blocks root (as_batch w.slots))) s.before.written w.written)

  both_counted : count + next ≡ length (s.before.texts ++ w.texts)
  both_counted = omega (arith, s.counted, w.counted, length-append s.before.texts w.texts)

  -- a whole batch
  pub more_written : n ≤ next → WrittenSoFar t root marker n a c held after (count + next)
  more_written whole = record {
    batches = s.batches ++ as_batch w.slots;
    before = record {
      texts = s.before.texts ++ w.texts;
      takes = both_taken;
      rows = both_are;
      full = full_more n s.batches w.slots some s.before.full (omega (arith, size, whole, w.counted, w.takes.most));
      written = both_written;
    };
    counted = both_counted;
    few = omega (arith, s.few, w.takes.few, length-append s.before.texts w.texts);
  }

  pub batch_falls : n ≤ next → c.limit < b.limit
  batch_falls whole = omega (arith, some, whole, w.counted, w.takes.few)

  pub batch_fits : (most : ℕ) → a.limit ≤ most → count + next ≤ most
  batch_fits most bound = omega (arith, s.counted, s.few, w.counted, w.takes.few, bound)

  -- the last one
  pub last_written : next < n → AllWritten t root marker n a c held after (count + next)
  last_written short = record {
    texts = s.before.texts ++ w.texts;
    takes = both_taken;
    end = w.takes.fewer (omega (arith, short, w.counted));
    batches = s.batches ++ as_batch w.slots;
    rows = both_are;
    cut = cut_more n s.batches w.slots some s.before.full (omega (arith, size, short));
    written = both_written;
    counted = both_counted;
  }

-- ---- the bytes of a block

at_seam : (before : List (List ℕ)) (y : List ℕ) (after : List (List ℕ)) → slice_index_or (before ++ y ∷ after) (length before) [] ≡ y
at_seam [] y after = refl
at_seam (b ∷ before) y after = at_seam before y after

bytes_from : (f : Slot → List ℕ) (slots : List Slot) (before : List (List ℕ)) (k : ℕ) → k ≡ length before → flat_map (λ i. row i ((before ++ map f slots) ∷ [])) (range_with_len k (length slots)) ≡ flat_map f slots
bytes_from f [] before k e = refl
bytes_from f (x ∷ slots) before k e =
    let here : row k ((before ++ map f (x ∷ slots)) ∷ []) ≡ f x = append-nil (slice_index_or (before ++ map f (x ∷ slots)) k []) ∙ ap (λ (n : ℕ). slice_index_or (before ++ map f (x ∷ slots)) n []) e ∙ at_seam before (f x) (map f slots) in
    let next = bytes_from f slots (before ++ f x ∷ []) (k + 1) (omega (arith, e, length-append before (f x ∷ []))) in
    let moved = ap (λ (z : List (List ℕ)). flat_map (λ i. row i (z ∷ [])) (range_with_len (k + 1) (length slots))) (sym (append_assoc before (f x ∷ []) (map f slots))) in
    λ i. here i ++ (moved ∙ next) i

-- the rows of one column
pub column_bytes : (f : Slot → List ℕ) (slots : List Slot) → rows (length slots) (map f slots ∷ []) ≡ flat_map f slots
column_bytes f slots = bytes_from f slots [] 0 refl

-- the serializer of one column fills the block of its rows
pub block_filled : (root : Schema) (slots : List Slot) (n m : ℕ) (left : List (List ℕ)) (bytes : List ℕ) → length slots ≡ n → m ≡ n → left ≡ map (plain root) slots → bytes ≡ rows n (left ∷ []) → the_block m bytes ≡ rows_block root slots
block_filled root slots n m left bytes number same items filled =
    let count : m ≡ length slots = same ∙ sym number in
    let content : bytes ≡ flat_map (plain root) slots = filled ∙ (λ i. rows (sym number i) (items i ∷ [])) ∙ column_bytes (plain root) slots in
    λ i. the_block (count i) (content i)

pub as_many_left : (root : Schema) (slots : List Slot) (n : ℕ) (left : List (List ℕ)) → length slots ≡ n → left ≡ map (plain root) slots → length left ≡ n
as_many_left root slots n left number items = ap length items ∙ map_length (plain root) slots ∙ number
