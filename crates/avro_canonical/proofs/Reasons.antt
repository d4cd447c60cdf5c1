-- Why fields can't be rewritten: for one reason at most, and for none where they can.
use Rattle.std.proofs.Common.{◌≡◌, ◌≢◌, ◌∙◌, true, List, length, Option, Some, None, refl, sym, ap, arith}
use Rattle.std.proofs.lemmas.Option.{same_Some}
use Rattle.arrow_core.specs.declared.error.Error.{Error}
use Rattle.arrow_core.specs.declared.error.Error.TheVariants.{NotYetImplemented, OutOfMemory}
use Rattle.arrow_core.specs.declared.error.Reason.TheVariants as reason
use Rattle.arrow_core.specs.declared.types.Field.{Field}
use Rattle.avro_schema.specs.declared.schema.AvroField.{AvroField}
use Rattle.avro_schema.specs.declared.schema.Record.{Record}
use Rattle.avro_types.specs.Schemas.{record_of}
use Rattle.avro_canonical.specs.Canonical.{CanBeRewritten, CannotBeRewritten, HasNoRecord}

module _ (xs : List AvroField) where
  recorded_or_not : (columns : List Field) (target : Record) → CanBeRewritten xs columns target → HasNoRecord xs → ⊥
  recorded_or_not columns target can h =
      let same : columns ≡ h.0 = same_Some columns h.0 (sym can.inferred ∙ h.1) in
      some_none (sym can.recorded ∙ ap (record_of true) same ∙ h.2)
    where
      some_none : ◌≡◌ {A = Option Record} (Some target) None → ⊥
      some_none q = cc

  pub rewritten_or_not : (columns : List Field) (target : Record) → CanBeRewritten xs columns target → (e : Error) → CannotBeRewritten xs e → e ≡ OutOfMemory
  rewritten_or_not columns target can (NotYetImplemented reason.NoField) h = absurd (omega (arith, ap length h, can.carried.0))
  rewritten_or_not columns target can (NotYetImplemented reason.NotCarried) h = absurd (h.1 can.carried.1)
  rewritten_or_not columns target can (NotYetImplemented reason.Float) h = absurd (h.1 can.no_float)
  rewritten_or_not columns target can (NotYetImplemented reason.NoAvroType) h = absurd (recorded_or_not columns target can h.2)
  rewritten_or_not columns target can OutOfMemory h = refl
  rewritten_or_not columns target can _ h = absurd h

  pub one_reason : (e d : Error) → CannotBeRewritten xs e → CannotBeRewritten xs d → e ≢ OutOfMemory → d ≢ OutOfMemory → e ≡ d
  one_reason (NotYetImplemented reason.NoField) (NotYetImplemented reason.NoField) h d not_first not_second = refl
  one_reason (NotYetImplemented reason.NoField) (NotYetImplemented reason.NotCarried) h d not_first not_second = absurd (omega (arith, ap length h, d.0))
  one_reason (NotYetImplemented reason.NoField) (NotYetImplemented reason.Float) h d not_first not_second = absurd (omega (arith, ap length h, d.0.0))
  one_reason (NotYetImplemented reason.NoField) (NotYetImplemented reason.NoAvroType) h d not_first not_second = absurd (omega (arith, ap length h, d.0.0))
  one_reason (NotYetImplemented reason.NoField) OutOfMemory h d not_first not_second = absurd (not_second refl)
  one_reason (NotYetImplemented reason.NoField) _ h d not_first not_second = absurd d
  one_reason (NotYetImplemented reason.NotCarried) (NotYetImplemented reason.NoField) h d not_first not_second = absurd (omega (arith, ap length d, h.0))
  one_reason (NotYetImplemented reason.NotCarried) (NotYetImplemented reason.NotCarried) h d not_first not_second = refl
  one_reason (NotYetImplemented reason.NotCarried) (NotYetImplemented reason.Float) h d not_first not_second = absurd (h.1 d.0.1)
  one_reason (NotYetImplemented reason.NotCarried) (NotYetImplemented reason.NoAvroType) h d not_first not_second = absurd (h.1 d.0.1)
  one_reason (NotYetImplemented reason.NotCarried) OutOfMemory h d not_first not_second = absurd (not_second refl)
  one_reason (NotYetImplemented reason.NotCarried) _ h d not_first not_second = absurd d
  one_reason (NotYetImplemented reason.Float) (NotYetImplemented reason.NoField) h d not_first not_second = absurd (omega (arith, ap length d, h.0.0))
  one_reason (NotYetImplemented reason.Float) (NotYetImplemented reason.NotCarried) h d not_first not_second = absurd (d.1 h.0.1)
  one_reason (NotYetImplemented reason.Float) (NotYetImplemented reason.Float) h d not_first not_second = refl
  one_reason (NotYetImplemented reason.Float) (NotYetImplemented reason.NoAvroType) h d not_first not_second = absurd (h.1 d.1)
  one_reason (NotYetImplemented reason.Float) OutOfMemory h d not_first not_second = absurd (not_second refl)
  one_reason (NotYetImplemented reason.Float) _ h d not_first not_second = absurd d
  one_reason (NotYetImplemented reason.NoAvroType) (NotYetImplemented reason.NoField) h d not_first not_second = absurd (omega (arith, ap length d, h.0.0))
  one_reason (NotYetImplemented reason.NoAvroType) (NotYetImplemented reason.NotCarried) h d not_first not_second = absurd (d.1 h.0.1)
  one_reason (NotYetImplemented reason.NoAvroType) (NotYetImplemented reason.Float) h d not_first not_second = absurd (d.1 h.1)
  one_reason (NotYetImplemented reason.NoAvroType) (NotYetImplemented reason.NoAvroType) h d not_first not_second = refl
  one_reason (NotYetImplemented reason.NoAvroType) OutOfMemory h d not_first not_second = absurd (not_second refl)
  one_reason (NotYetImplemented reason.NoAvroType) _ h d not_first not_second = absurd d
  one_reason OutOfMemory other h d not_first not_second = absurd (not_first refl)
  one_reason _ other h d not_first not_second = absurd h
