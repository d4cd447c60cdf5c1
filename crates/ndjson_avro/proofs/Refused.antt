-- Why rows of fields can't be written: for one reason at most, and for none where they can.
use Rattle.std.proofs.Common.{◌≡◌, ◌≢◌, ◌∙◌, ◌⊎◌, inl, inr, ℕ, ◌<◌, Bool, true, false, List, [], length, Option, Some, None, refl, sym, ap, arith}
use Rattle.std.proofs.lemmas.Bool.{false≢true}
use Rattle.arrow_core.specs.declared.error.Error.{Error}
use Rattle.arrow_core.specs.declared.error.Error.TheVariants.{InvalidArgumentError, NotYetImplemented, OutOfMemory}
use Rattle.arrow_core.specs.declared.error.Reason.TheVariants as reason
use Rattle.arrow_core.specs.declared.types.DataType as types
use Rattle.arrow_core.specs.declared.types.Field.{Field}
use Rattle.avro_container.specs.Changes.{Change}
use Rattle.avro_container.proofs.Results.{memory_or_not}
use Rattle.avro_types.specs.Schemas.{record_of}
use Rattle.avro_schema.specs.declared.schema.Record.{Record}
use Rattle.ndjson_avro.specs.Conversion.{Converts, ConversionFails}
use Rattle.ndjson_avro.specs.Nulls.{holds_null}
use Rattle.ndjson_avro.specs.Target.{AreWritable, HasNoTarget, HasTarget}

-- a boolean isn't both
clash : {A : Type 0} {b : Bool} → b ≡ false → b ≡ true → A
clash neither both = absurd (false≢true (sym neither ∙ both))

no_field : {A : Type 0} (fields : List Field) → fields ≡ [] → 0 < length fields → A
no_field fields none some = absurd (omega (arith, ap length none, some))

module _ (fields : List Field) where
  -- a record, or none
  unwritable : ((record_of true fields ≡ None) ⊎ (holds_null (types.Struct fields) ≡ true)) → AreWritable fields → ⊥
  unwritable (inl none) (named, (r, is), no_null) = some_none (sym is ∙ none)
    where
      some_none : ◌≡◌ {A = Option Record} (Some r) None → ⊥
      some_none q = cc
  unwritable (inr null) (named, recorded, no_null) = clash no_null null

  pub target_or_not : (name : List ℕ) (target : Record) (e : Error) → HasTarget fields name target → HasNoTarget fields e → e ≡ OutOfMemory
  target_or_not name target (InvalidArgumentError reason.DuplicateName) can h = clash can.distinct h
  target_or_not name target (NotYetImplemented reason.NoField) can h = no_field fields h.1 can.some
  target_or_not name target (NotYetImplemented reason.NoAvroType) can h = absurd (unwritable h.1 ((can.distinct, can.some), (can.nameless, can.recorded), can.no_null))
  target_or_not name target (NotYetImplemented reason.NoJsonReading) can h = clash h.1 can.readable
  target_or_not name target OutOfMemory can h = refl
  target_or_not name target _ can h = absurd h

  pub one_reason : (e d : Error) → HasNoTarget fields e → HasNoTarget fields d → e ≢ OutOfMemory → d ≢ OutOfMemory → e ≡ d
  one_reason (InvalidArgumentError reason.DuplicateName) (InvalidArgumentError reason.DuplicateName) h k wrong also = refl
  one_reason (InvalidArgumentError reason.DuplicateName) (NotYetImplemented reason.NoField) h k wrong also = clash k.0 h
  one_reason (InvalidArgumentError reason.DuplicateName) (NotYetImplemented reason.NoAvroType) h k wrong also = clash k.0.0 h
  one_reason (InvalidArgumentError reason.DuplicateName) (NotYetImplemented reason.NoJsonReading) h k wrong also = clash k.0.0.0 h
  one_reason (InvalidArgumentError reason.DuplicateName) OutOfMemory h k wrong also = absurd (also refl)
  one_reason (InvalidArgumentError reason.DuplicateName) _ h k wrong also = absurd k
  one_reason (NotYetImplemented reason.NoField) (InvalidArgumentError reason.DuplicateName) h k wrong also = clash h.0 k
  one_reason (NotYetImplemented reason.NoField) (NotYetImplemented reason.NoField) h k wrong also = refl
  one_reason (NotYetImplemented reason.NoField) (NotYetImplemented reason.NoAvroType) h k wrong also = no_field fields h.1 k.0.1
  one_reason (NotYetImplemented reason.NoField) (NotYetImplemented reason.NoJsonReading) h k wrong also = no_field fields h.1 k.0.0.1
  one_reason (NotYetImplemented reason.NoField) OutOfMemory h k wrong also = absurd (also refl)
  one_reason (NotYetImplemented reason.NoField) _ h k wrong also = absurd k
  one_reason (NotYetImplemented reason.NoAvroType) (InvalidArgumentError reason.DuplicateName) h k wrong also = clash h.0.0 k
  one_reason (NotYetImplemented reason.NoAvroType) (NotYetImplemented reason.NoField) h k wrong also = no_field fields k.1 h.0.1
  one_reason (NotYetImplemented reason.NoAvroType) (NotYetImplemented reason.NoAvroType) h k wrong also = refl
  one_reason (NotYetImplemented reason.NoAvroType) (NotYetImplemented reason.NoJsonReading) h k wrong also = absurd (unwritable h.1 k.0)
  one_reason (NotYetImplemented reason.NoAvroType) OutOfMemory h k wrong also = absurd (also refl)
  one_reason (NotYetImplemented reason.NoAvroType) _ h k wrong also = absurd k
  one_reason (NotYetImplemented reason.NoJsonReading) (InvalidArgumentError reason.DuplicateName) h k wrong also = clash h.0.0.0 k
  one_reason (NotYetImplemented reason.NoJsonReading) (NotYetImplemented reason.NoField) h k wrong also = no_field fields k.1 h.0.0.1
  one_reason (NotYetImplemented reason.NoJsonReading) (NotYetImplemented reason.NoAvroType) h k wrong also = absurd (unwritable k.1 h.0)
  one_reason (NotYetImplemented reason.NoJsonReading) (NotYetImplemented reason.NoJsonReading) h k wrong also = refl
  one_reason (NotYetImplemented reason.NoJsonReading) OutOfMemory h k wrong also = absurd (also refl)
  one_reason (NotYetImplemented reason.NoJsonReading) _ h k wrong also = absurd k
  one_reason OutOfMemory d h k wrong also = absurd (wrong refl)
  one_reason _ d h k wrong also = absurd h

  module _ (name marker : List ℕ) (n limit : ℕ) (source sink : Change) (due : Error) (wrong : due ≢ OutOfMemory) (h : HasNoTarget fields due) where
    memory_or_due : (e : Error) → HasNoTarget fields e → (e ≡ OutOfMemory) ⊎ (e ≢ OutOfMemory) → (e ≡ OutOfMemory) ⊎ (e ≡ due)
    memory_or_due e k (inl memory) = inl memory
    memory_or_due e k (inr other) = inr (one_reason e due k h other wrong)

    pub refused_as_due : (e : Error) → ConversionFails fields name marker n limit source sink e → (e ≡ OutOfMemory) ⊎ (e ≡ due)
    refused_as_due e (inl not_begun) = memory_or_due e not_begun.why (memory_or_not e)
    refused_as_due e (inr (inl header)) = absurd (wrong (target_or_not name header.target due header.has h))
    refused_as_due e (inr (inr batch)) = absurd (wrong (target_or_not name batch.target due batch.has h))

    pub refused_is_not_converted : (count : ℕ) → Converts fields name marker n limit source sink count → ⊥
    refused_is_not_converted count c = wrong (target_or_not name c.target due c.has h)
