-- Why fields can't be shown: for one reason at most, and for none where they can.
use Rattle.std.proofs.Common.{◌≡◌, ◌≢◌, ◌∙◌, ℕ, List, [], length, Option, Some, refl, sym, ap, subst, arith}
use Rattle.std.proofs.lemmas.Option.{same_Some}
use Rattle.arrow_core.specs.declared.error.Error.{Error}
use Rattle.arrow_core.specs.declared.error.Error.TheVariants.{InvalidArgumentError, NotYetImplemented, OutOfMemory}
use Rattle.arrow_core.specs.declared.error.Reason.TheVariants as reason
use Rattle.arrow_core.specs.declared.types.Field.{Field}
use Rattle.avro_schema.specs.declared.schema.AvroField.{AvroField}
use Rattle.avro_ndjson.specs.Keep.{NamesFields}
use Rattle.avro_ndjson.specs.Refusals.{CannotBeShown}
use Rattle.avro_ndjson.specs.Shown.{kept_of, HaveTexts, CanBeShown}

-- no numbers are those of fields
nothing_fits : (keep : Option (List ℕ)) (n : ℕ) → keep ≡ Some [] → NamesFields keep n
nothing_fits keep n e = subst (λ (k : Option (List ℕ)). NamesFields k n) (sym e) (record { within = λ k d lt. absurd (omega (arith, lt)); distinct = λ i j d lt in_list. absurd (omega (arith, in_list)) })

module _ (keep : Option (List ℕ)) (xs : List AvroField) where
  pub shown_or_not : (fs : List Field) → CanBeShown keep xs fs → (e : Error) → CannotBeShown keep xs e → e ≡ OutOfMemory
  shown_or_not fs s (NotYetImplemented reason.NoField) h = absurd (omega (arith, ap length h, s.some))
  shown_or_not fs s (NotYetImplemented reason.NotCarried) h = absurd (h.1 s.carried)
  shown_or_not fs s (InvalidArgumentError reason.KeepNumber) h = absurd (h.1 s.numbers)
  shown_or_not fs s (InvalidArgumentError reason.NothingKept) h = absurd (s.some_kept h.1)
  shown_or_not fs s (NotYetImplemented reason.Float) h = absurd (h.1 s.no_float)
  shown_or_not fs s (NotYetImplemented reason.NoJsonText) h =
      let same : fs ≡ h.2.0 = same_Some fs h.2.0 (sym s.columns ∙ h.2.1) in
      absurd (h.2.2 (subst (λ (gs : List Field). HaveTexts gs (kept_of keep xs)) same s.texts))
  shown_or_not fs s OutOfMemory h = refl
  shown_or_not fs s _ h = absurd h

  pub one_reason : (e d : Error) → CannotBeShown keep xs e → CannotBeShown keep xs d → e ≢ OutOfMemory → d ≢ OutOfMemory → e ≡ d
  one_reason (NotYetImplemented reason.NoField) (NotYetImplemented reason.NoField) h d not_first not_second = refl
  one_reason (NotYetImplemented reason.NoField) (NotYetImplemented reason.NotCarried) h d not_first not_second = absurd (omega (arith, ap length h, d.0))
  one_reason (NotYetImplemented reason.NoField) (InvalidArgumentError reason.KeepNumber) h d not_first not_second = absurd (omega (arith, ap length h, d.0.0))
  one_reason (NotYetImplemented reason.NoField) (InvalidArgumentError reason.NothingKept) h d not_first not_second = absurd (omega (arith, ap length h, d.0.0))
  one_reason (NotYetImplemented reason.NoField) (NotYetImplemented reason.Float) h d not_first not_second = absurd (omega (arith, ap length h, d.0.0.0))
  one_reason (NotYetImplemented reason.NoField) (NotYetImplemented reason.NoJsonText) h d not_first not_second = absurd (omega (arith, ap length h, d.0.0.0))
  one_reason (NotYetImplemented reason.NoField) OutOfMemory h d not_first not_second = absurd (not_second refl)
  one_reason (NotYetImplemented reason.NoField) _ h d not_first not_second = absurd d
  one_reason (NotYetImplemented reason.NotCarried) (NotYetImplemented reason.NoField) h d not_first not_second = absurd (omega (arith, ap length d, h.0))
  one_reason (NotYetImplemented reason.NotCarried) (NotYetImplemented reason.NotCarried) h d not_first not_second = refl
  one_reason (NotYetImplemented reason.NotCarried) (InvalidArgumentError reason.KeepNumber) h d not_first not_second = absurd (h.1 d.0.1)
  one_reason (NotYetImplemented reason.NotCarried) (InvalidArgumentError reason.NothingKept) h d not_first not_second = absurd (h.1 d.0.1)
  one_reason (NotYetImplemented reason.NotCarried) (NotYetImplemented reason.Float) h d not_first not_second = absurd (h.1 d.0.0.1)
  one_reason (NotYetImplemented reason.NotCarried) (NotYetImplemented reason.NoJsonText) h d not_first not_second = absurd (h.1 d.0.0.1)
  one_reason (NotYetImplemented reason.NotCarried) OutOfMemory h d not_first not_second = absurd (not_second refl)
  one_reason (NotYetImplemented reason.NotCarried) _ h d not_first not_second = absurd d
  one_reason (InvalidArgumentError reason.KeepNumber) (NotYetImplemented reason.NoField) h d not_first not_second = absurd (omega (arith, ap length d, h.0.0))
  one_reason (InvalidArgumentError reason.KeepNumber) (NotYetImplemented reason.NotCarried) h d not_first not_second = absurd (d.1 h.0.1)
  one_reason (InvalidArgumentError reason.KeepNumber) (InvalidArgumentError reason.KeepNumber) h d not_first not_second = refl
  one_reason (InvalidArgumentError reason.KeepNumber) (InvalidArgumentError reason.NothingKept) h d not_first not_second = absurd (h.1 (nothing_fits keep (length xs) d.1))
  one_reason (InvalidArgumentError reason.KeepNumber) (NotYetImplemented reason.Float) h d not_first not_second = absurd (h.1 d.0.1)
  one_reason (InvalidArgumentError reason.KeepNumber) (NotYetImplemented reason.NoJsonText) h d not_first not_second = absurd (h.1 d.0.1)
  one_reason (InvalidArgumentError reason.KeepNumber) OutOfMemory h d not_first not_second = absurd (not_second refl)
  one_reason (InvalidArgumentError reason.KeepNumber) _ h d not_first not_second = absurd d
  one_reason (InvalidArgumentError reason.NothingKept) (NotYetImplemented reason.NoField) h d not_first not_second = absurd (omega (arith, ap length d, h.0.0))
  one_reason (InvalidArgumentError reason.NothingKept) (NotYetImplemented reason.NotCarried) h d not_first not_second = absurd (d.1 h.0.1)
  one_reason (InvalidArgumentError reason.NothingKept) (InvalidArgumentError reason.KeepNumber) h d not_first not_second = absurd (d.1 (nothing_fits keep (length xs) h.1))
  one_reason (InvalidArgumentError reason.NothingKept) (InvalidArgumentError reason.NothingKept) h d not_first not_second = refl
  one_reason (InvalidArgumentError reason.NothingKept) (NotYetImplemented reason.Float) h d not_first not_second = absurd (d.0.2 h.1)
  one_reason (InvalidArgumentError reason.NothingKept) (NotYetImplemented reason.NoJsonText) h d not_first not_second = absurd (d.0.2 h.1)
  one_reason (InvalidArgumentError reason.NothingKept) OutOfMemory h d not_first not_second = absurd (not_second refl)
  one_reason (InvalidArgumentError reason.NothingKept) _ h d not_first not_second = absurd d
  one_reason (NotYetImplemented reason.Float) (NotYetImplemented reason.NoField) h d not_first not_second = absurd (omega (arith, ap length d, h.0.0.0))
  one_reason (NotYetImplemented reason.Float) (NotYetImplemented reason.NotCarried) h d not_first not_second = absurd (d.1 h.0.0.1)
  one_reason (NotYetImplemented reason.Float) (InvalidArgumentError reason.KeepNumber) h d not_first not_second = absurd (d.1 h.0.1)
  one_reason (NotYetImplemented reason.Float) (InvalidArgumentError reason.NothingKept) h d not_first not_second = absurd (h.0.2 d.1)
  one_reason (NotYetImplemented reason.Float) (NotYetImplemented reason.Float) h d not_first not_second = refl
  one_reason (NotYetImplemented reason.Float) (NotYetImplemented reason.NoJsonText) h d not_first not_second = absurd (h.1 d.1)
  one_reason (NotYetImplemented reason.Float) OutOfMemory h d not_first not_second = absurd (not_second refl)
  one_reason (NotYetImplemented reason.Float) _ h d not_first not_second = absurd d
  one_reason (NotYetImplemented reason.NoJsonText) (NotYetImplemented reason.NoField) h d not_first not_second = absurd (omega (arith, ap length d, h.0.0.0))
  one_reason (NotYetImplemented reason.NoJsonText) (NotYetImplemented reason.NotCarried) h d not_first not_second = absurd (d.1 h.0.0.1)
  one_reason (NotYetImplemented reason.NoJsonText) (InvalidArgumentError reason.KeepNumber) h d not_first not_second = absurd (d.1 h.0.1)
  one_reason (NotYetImplemented reason.NoJsonText) (InvalidArgumentError reason.NothingKept) h d not_first not_second = absurd (h.0.2 d.1)
  one_reason (NotYetImplemented reason.NoJsonText) (NotYetImplemented reason.Float) h d not_first not_second = absurd (d.1 h.1)
  one_reason (NotYetImplemented reason.NoJsonText) (NotYetImplemented reason.NoJsonText) h d not_first not_second = refl
  one_reason (NotYetImplemented reason.NoJsonText) OutOfMemory h d not_first not_second = absurd (not_second refl)
  one_reason (NotYetImplemented reason.NoJsonText) _ h d not_first not_second = absurd d
  one_reason OutOfMemory other h d not_first not_second = absurd (not_first refl)
  one_reason _ other h d not_first not_second = absurd h
