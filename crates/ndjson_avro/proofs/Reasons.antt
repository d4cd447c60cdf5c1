-- Why a step isn't taken, by the errors of the calls that it makes.
use Rattle.std.proofs.Common.{◌≡◌, ◌∙◌, inl, inr, ℕ, true, false, ◌||◌, List, [], ◌∷◌, length, Option, None, refl, sym, subst}
use Rattle.std.specs.Prelude.{All}
use Rattle.std.specs.List.{list_any}
use Rattle.std.proofs.lemmas.Bool.{false≢true}
use Rattle.std.proofs.KnownBytes.{Keeps-refl}
use Rattle.arrow_array.specs.declared.array.Array.{Array}
use Rattle.arrow_array.specs.Arrays.{array_slots, array_type}
use Rattle.arrow_core.specs.declared.error.Error.{Error}
use Rattle.arrow_core.specs.declared.error.Error.TheVariants.{InvalidArgumentError, NotYetImplemented, Overflow, OutOfMemory}
use Rattle.arrow_core.specs.declared.error.Reason.TheVariants as reason
use Rattle.arrow_core.specs.declared.slot.Slot.{Slot}
use Rattle.arrow_core.specs.declared.types.DataType.{DataType}
use Rattle.arrow_core.specs.declared.types.Field.{Field}
use Rattle.avro_types.specs.Schemas.{NoAvroTypeWhere, record_of}
use Rattle.avro_schema.specs.declared.schema.Schema.{Schema}
use Rattle.avro_write.specs.declared.flaws.Flaw.TheVariants as flaw
use Rattle.avro_write.specs.Flaws.{IsRefused, shows}
use Rattle.json_columns.specs.Refusals.{IsRefusal}
use Rattle.json_tree.specs.Meaning.{IsJson}
use Rattle.json_tree.specs.Tree.{Json}
use Rattle.avro_container.specs.File.{FileBlock}
use Rattle.avro_encode.specs.Pairs.{Pairs}
use Rattle.ndjson_read.specs.Reading.{State}
use Rattle.avro_container.specs.Changes.{change_of}
use Rattle.ndjson_avro.specs.Batches.{BatchFails}
use Rattle.ndjson_avro.specs.Rows.{lacks_value, rows_block, AreNotWritten, AreRefused}
use Rattle.ndjson_avro.specs.Steps.{TextsRefused, AreNotRead, AreRead, EncodesRows, HasNonObject, RowsRefused, IsRootOf}
use Rattle.ndjson_avro.specs.Target.{AreNamed, HasNoTarget}
use Rattle.ndjson_avro.specs.BatchSteps.{NoRowsOf, TakesSome}
use Rattle.ndjson_avro.specs.Values.{is_object}
use Rattle.ndjson_avro.proofs.Batching.{slots_length, zip_length}

-- ---- the record

pub no_record : (fields : List Field) (e : Error) → AreNamed fields → NoAvroTypeWhere (record_of true fields ≡ None) e → HasNoTarget fields e
no_record fields (NotYetImplemented reason.NoAvroType) named h = (named, inl h)
no_record fields OutOfMemory named h = tt
no_record fields _ named h = absurd h

-- ---- a block

-- columns of the root are refused for a null alone, out of memory aside
pub not_encoded : (root : Schema) (a : Array) (e : Error) → IsRootOf root (array_type a) → IsRefused root a e → RowsRefused root (array_slots a) e
not_encoded root a (NotYetImplemented reason.SerializerPair) is h = absurd (h is.pairs)
not_encoded root a (InvalidArgumentError reason.NullUnderRequired) is h = inr (refl, h.1)
not_encoded root a (InvalidArgumentError reason.Interval) is h = absurd (false≢true (sym (none (array_slots a)) ∙ h.2))
  where
    none : (xs : List Slot) → list_any (shows flaw.Interval root) xs ≡ false
    none [] = refl
    none (x ∷ xs) = λ i. (is.no_interval x i || none xs i)
not_encoded root a OutOfMemory is h = inl refl
not_encoded root a _ is h = absurd h

pub not_read : (t : DataType) (root : Schema) (values : List Json) (e : Error) → IsRootOf root t → All (λ v. is_object v ≡ true) values → IsRefusal t values e → AreNotWritten t root values e
not_read t root values (InvalidArgumentError reason.DuplicateName) is objects h = absurd (false≢true (sym is.distinct ∙ h))
not_read t root values (NotYetImplemented reason.NoJsonReading) is objects h = absurd (false≢true (sym h.1 ∙ is.readable))
not_read t root values (NotYetImplemented reason.TextTimestamp) is objects h = (objects, h.2)
not_read t root values Overflow is objects h = (objects, h.2, h.3)
not_read t root values OutOfMemory is objects h = tt
not_read t root values _ is objects h = absurd h

pub other_value : (t : DataType) (root : Schema) (values : List Json) (e : Error) → HasNonObject values e → AreNotWritten t root values e
other_value t root values e h = subst (AreNotWritten t root values) (sym h.0) h.1

-- texts that aren't read aren't written
pub not_written_rows : (t : DataType) (root : Schema) (texts : List (List ℕ)) (e : Error) → IsRootOf root t → AreNotRead t texts e → TextsRefused t root texts e
not_written_rows t root texts e is (inl (inl memory)) = inl memory
not_written_rows t root texts e is (inl (inr first)) = inr (inl first)
not_written_rows t root texts e is (inr (values, have, inl other)) = inr (inr (values, have, other_value t root values e other))
not_written_rows t root texts e is (inr (values, have, inr h)) = inr (inr (values, have, not_read t root values e is h.0 h.1))

pub lacks_a_value : (t : DataType) (root : Schema) (texts : List (List ℕ)) (slots : List Slot) (e : Error) → AreRead t texts slots → RowsRefused root slots e → TextsRefused t root texts e
lacks_a_value t root texts slots e read (inl memory) = inl memory
lacks_a_value t root texts slots e read (inr h) = inr (inr (read.values, read.have, subst (AreNotWritten t root read.values) (sym h.0) (read.objects, (slots, read.meant, h.1))))

-- the texts that were read and encoded are rows
pub encoded_rows : (t : DataType) (root : Schema) (texts : List (List ℕ)) (slots : List Slot) (block : FileBlock) → AreRead t texts slots → lacks_value root slots ≡ false → All (Pairs root) slots → block ≡ rows_block root slots → EncodesRows t root texts block
encoded_rows t root texts slots block read complete paired is = record {
  slots = slots;
  rows = record { values = read.values; have = read.have; objects = read.objects; meant = read.meant; complete = complete; paired = paired };
  is = is;
}

-- as many slots as texts
pub read_length : (t : DataType) (texts : List (List ℕ)) (slots : List Slot) → AreRead t texts slots → length slots ≡ length texts
read_length t texts slots read = slots_length t read.values slots read.meant ∙ zip_length IsJson read.values texts read.have

-- ---- a batch

module _ (t : DataType) (root : Schema) (marker : List ℕ) (n : ℕ) (old new : State) (held : Option (List ℕ)) (faults : ℕ) where
  pub no_batch : (e : Error) → NoRowsOf n old new e → BatchFails t root marker n old new (change_of held faults held faults) e
  no_batch e (inl memory) = inl (Keeps-refl held, inl memory)
  no_batch e (inr h) = inl (Keeps-refl held, inr (inl h))

  pub not_written : (texts given : List (List ℕ)) (e : Error) → given ≡ texts → TakesSome n old new texts → TextsRefused t root given e → BatchFails t root marker n old new (change_of held faults held faults) e
  not_written texts given e is takes (inl memory) = inl (Keeps-refl held, inl (record { is = memory; taken = takes.takes.taken; takes = takes.takes.takes }))
  not_written texts given e is takes (inr h) =
      inl (Keeps-refl held, inr (inr (record { texts = texts; takes = takes.takes; most = takes.most; fewer = takes.fewer; why = subst (λ (z : List (List ℕ)). AreRefused t root z e) is h })))
