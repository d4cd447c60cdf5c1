-- One batch that is written, and why one isn't.
use Rattle.std.proofs.Common.{◌≡◌, ◌∙◌, inl, inr, ℕ, ◌<◌, ◌≤◌, List, [], ◌∷◌, length, Option, refl, sym, ap, subst, arith}
use Rattle.std.specs.Io.KnownBytes.{Appends}
use Rattle.std.proofs.KnownBytes.{Appends-nil}
use Rattle.std.proofs.lemmas.List.{append-nil}
use Rattle.arrow_base.specs.Outside.{AppendsPrefix, RoseOrFull}
use Rattle.arrow_core.specs.declared.error.Error.{Error}
use Rattle.arrow_core.specs.declared.error.Error.TheVariants.{WriteFault}
use Rattle.arrow_core.specs.declared.slot.Slot.{Slot}
use Rattle.arrow_core.specs.declared.types.DataType.{DataType}
use Rattle.avro_container.specs.Canonical.{canonical_block, canonical_blocks}
use Rattle.avro_container.specs.File.{FileBlock, the_block}
use Rattle.avro_schema.specs.declared.schema.Schema.{Schema}
use Rattle.ndjson_read.specs.Reading.{State}
use Rattle.ndjson_read.proofs.RowLemmas.{rose_after}
use Rattle.avro_container.specs.Changes.{change_of}
use Rattle.ndjson_avro.specs.Batches.{BatchFails, StopsAtBatch}
use Rattle.ndjson_avro.specs.Rows.{AreRows, rows_block, rows_blocks}
use Rattle.ndjson_avro.specs.Steps.{EncodesRows, NextWritten, WrittenSoFar, as_batch}
use Rattle.ndjson_avro.specs.BatchSteps.{TakesSome}
use Rattle.ndjson_avro.proofs.Batching.{no_rows, rows_length}

none_left : (texts : List (List ℕ)) → length texts ≡ 0 → texts ≡ []
none_left [] e = refl
none_left (t ∷ texts) e = absurd (omega (arith, e))

one_block : (root : Schema) (marker : List ℕ) (held after : Option (List ℕ)) (slots : List Slot) (block : FileBlock) → 0 < length slots → block ≡ rows_block root slots → Appends held after (canonical_block marker block) → Appends held after (canonical_blocks marker (rows_blocks root (as_batch slots)))
one_block root marker held after [] block some is h = absurd (omega (arith, some))
one_block root marker held after (x ∷ slots) block some is h =
    subst (Appends held after) (ap (canonical_block marker) is ∙ sym (append-nil (canonical_block marker (rows_block root (x ∷ slots))))) h

-- a block states as many rows as there are texts
pub block_count : (t : DataType) (root : Schema) (texts : List (List ℕ)) (rows : ℕ) (bytes : List ℕ) → EncodesRows t root texts (the_block rows bytes) → rows ≡ length texts
block_count t root texts rows bytes e = ap (λ (b : FileBlock). b.rows) e.is ∙ rows_length t root texts e.slots e.rows

module _ (t : DataType) (root : Schema) (marker : List ℕ) (n : ℕ) (old new : State) where
  pub none_written_next : (held : Option (List ℕ)) (texts given : List (List ℕ)) → given ≡ texts → length given ≡ 0 → TakesSome n old new texts → NextWritten t root marker n old new held held 0
  none_written_next held texts given same e takes =
      let none = none_left texts (ap length (sym same) ∙ e) in
      record {
        texts = texts;
        takes = takes;
        slots = [];
        rows = subst (λ (z : List (List ℕ)). AreRows t root z []) (sym none) (no_rows t root);
        written = Appends-nil held;
        counted = sym (ap length none);
      }

  pub written_next : (held after : Option (List ℕ)) (texts given : List (List ℕ)) (block : FileBlock) (count : ℕ) → given ≡ texts → count ≡ length given → 0 < count → TakesSome n old new texts → EncodesRows t root given block → Appends held after (canonical_block marker block) → NextWritten t root marker n old new held after count
  written_next held after texts given block count same is some takes e appended = record {
    texts = texts;
    takes = takes;
    slots = e.slots;
    rows = subst (λ (z : List (List ℕ)). AreRows t root z e.slots) same e.rows;
    written = one_block root marker held after e.slots block (omega (arith, rows_length t root given e.slots e.rows, is, some)) e.is appended;
    counted = is ∙ ap length same;
  }

  pub breaks_off : (held after : Option (List ℕ)) (faults faults_after : ℕ) (texts given : List (List ℕ)) (block : FileBlock) (e : Error) → given ≡ texts → 0 < length given → TakesSome n old new texts → EncodesRows t root given block → e ≡ WriteFault → AppendsPrefix held after (canonical_block marker block) → RoseOrFull faults faults_after
      → BatchFails t root marker n old new (change_of held faults after faults_after) e
  breaks_off held after faults faults_after texts given block e same some takes encodes is prefix cause = inr (record {
    is = is;
    texts = texts;
    takes = takes.takes;
    some = omega (arith, some, ap length same);
    most = takes.most;
    fewer = takes.fewer;
    slots = encodes.slots;
    rows = subst (λ (z : List (List ℕ)). AreRows t root z encodes.slots) same encodes.rows;
    prefix = subst (λ (b : FileBlock). AppendsPrefix held after (canonical_block marker b)) encodes.is prefix;
    failed = cause;
  })

  -- the sink's faults are counted from an earlier moment
  pub earlier : (held after : Option (List ℕ)) (first faults faults_after : ℕ) (e : Error) → first ≤ faults → BatchFails t root marker n old new (change_of held faults after faults_after) e → BatchFails t root marker n old new (change_of held first after faults_after) e
  earlier held after first faults faults_after e l (inl h) = inl h
  earlier held after first faults faults_after e l (inr b) = inr (record {
    is = b.is;
    texts = b.texts;
    takes = b.takes;
    some = b.some;
    most = b.most;
    fewer = b.fewer;
    slots = b.slots;
    rows = b.rows;
    prefix = b.prefix;
    failed = rose_after first faults faults_after l b.failed;
  })

pub stops_earlier : (t : DataType) (root : Schema) (marker : List ℕ) (n : ℕ) (old new : State) (held after : Option (List ℕ)) (first faults faults_after : ℕ) (e : Error) → first ≤ faults → StopsAtBatch t root marker n old new (change_of held faults after faults_after) e
    → StopsAtBatch t root marker n old new (change_of held first after faults_after) e
stops_earlier t root marker n old new held after first faults faults_after e l s = record {
  between = s.between;
  held = s.held;
  batches = s.batches;
  before = s.before;
  fails = earlier t root marker n s.between new s.held after first faults faults_after e l s.fails;
}

-- the loop stops
pub stops_at : (t other : DataType) (root another : Schema) (marker : List ℕ) (n : ℕ) (a b c : State) (held between after : Option (List ℕ)) (first faults faults_after count : ℕ) (e : Error) → first ≤ faults → other ≡ t → another ≡ root → WrittenSoFar t root marker n a b held between count
    → BatchFails other another marker n b c (change_of between faults after faults_after) e → StopsAtBatch t root marker n a c (change_of held first after faults_after) e
stops_at t other root another marker n a b c held between after first faults faults_after count e l same also s fails = record {
  between = b;
  held = between;
  batches = s.batches;
  before = s.before;
  fails = earlier t root marker n b c between after first faults faults_after e l (subst (λ (x : DataType × Schema). BatchFails x.0 x.1 marker n b c (change_of between faults after faults_after) e) (λ i. (same i, also i)) fails);
}
