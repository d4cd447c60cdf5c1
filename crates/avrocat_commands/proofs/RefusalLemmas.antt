-- From the refusals of the parts to those of a block.
use Rattle.std.proofs.Common.{◌≡◌, ◌∙◌, ◌⊎◌, inl, inr, ℕ, ◌<◌, ◌≤◌, Bool, None, Result, Ok, Err, IfErr, OnErr, List, [], ◌∷◌, length, refl, sym, ap, subst, arith}
use Rattle.std.specs.Io.KnownBytes.{Keeps}
use Rattle.arrow_core.specs.declared.error.Error.{Error}
use Rattle.arrow_core.specs.declared.error.Error.TheVariants.{InvalidArgumentError, NotYetImplemented, ExternalFormat, OutOfSpec, Overflow, LimitExceeded, ReadFault, WriteFault, OutOfMemory}
use Rattle.arrow_core.specs.declared.error.Reason.TheVariants as reason
use Rattle.arrow_core.specs.declared.types.Field.{Field}
use Rattle.avro_schema.specs.declared.schema.AvroField.{AvroField}
use Rattle.avro_schema.specs.Carried.{CarriedList}
use Rattle.avro_schema.specs.Types.{Fits}
use Rattle.avro_schema.specs.Refusals.{BelongTogether, FieldsRefused, BytesRefused, BlockRefused}
use Rattle.arrow_base.specs.Outside.{AppendsPrefix}
use Rattle.cli_words.specs.declared.command.BlockWords.{BlockWords}
use Rattle.avrocat_commands.specs.Blocks.{AreColumnsOf, ShowsColumns}
use Rattle.avro_container.specs.Changes.{Change, Failed}
use Rattle.avrocat_commands.specs.Input.{byte_limit, TakesAll, NotRead}
use Rattle.avrocat_commands.specs.Refusals.{IsWrong, BlockCommandFails}
use Rattle.avrocat_commands.proofs.ColumnLemmas.{forms_fit}
use Rattle.avro_types.proofs.ColumnTypes.{zip_length}

none_left : {A B : Type 0} (xs : List A) (ys : List B) → length xs ≡ length ys → xs ≡ [] → ys ≡ []
none_left xs [] same none = refl
none_left xs (y ∷ ys) same none = absurd (omega (arith, same, ap length none))

-- where a schema isn't carried, there is a field
some_field : (fields : List AvroField) → (CarriedList fields → ⊥) → 0 < length fields
some_field [] none = absurd (none (λ k d lt. absurd (omega (arith, lt))))
some_field (f ∷ fs) none = omega arith

-- What `deserialize` tells of columns that the schemas have, in the words of a block.
module _ (block : BlockWords) (fields : List Field) (bytes : List ℕ)
    (same : length block.avro_fields ≡ length block.projection) (typed : AreColumnsOf block.avro_fields block.large fields) (few : length bytes ≤ byte_limit) where
  fit : Fits fields block.avro_fields
  fit = forms_fit block.avro_fields block.large fields typed

  each : length fields ≡ length block.avro_fields
  each = zip_length _ fields block.avro_fields fit

  by_fields : (e : Error) → FieldsRefused fields block.avro_fields block.projection e → (e ≡ OutOfMemory) ⊎ IsWrong block bytes e
  by_fields (InvalidArgumentError reason.Lengths) h = absurd (h (each, each ∙ same))
  by_fields (NotYetImplemented reason.NoField) h = inr (none_left fields block.avro_fields each h.1)
  by_fields (NotYetImplemented reason.NotCarried) h = inr (omega (arith, h.1, each), h.2)
  by_fields (InvalidArgumentError reason.FieldType) h = absurd (h.1 fit)
  by_fields (NotYetImplemented reason.Float) h = inr (h.0.1, h.2)
  by_fields Overflow h = inr (h.0.1, h.2, h.3)
  by_fields OutOfMemory h = inl refl
  by_fields _ h = absurd h

  by_bytes : (e : Error) → BelongTogether fields block.avro_fields block.projection → BytesRefused block.rows fields block.avro_fields block.projection bytes e → (e ≡ OutOfMemory) ⊎ IsWrong block bytes e
  by_bytes Overflow b h = absurd (h (inl (omega (arith, few))))
  by_bytes (ExternalFormat reason.Rows) b h = inr (((omega (arith, b.some, each), b.carried), b.no_float, b.symbols), h.1)
  by_bytes (ExternalFormat reason.BlockBytes) b h = inr (((omega (arith, b.some, each), b.carried), b.no_float, b.symbols), h.0.1, h.1, h.2)
  by_bytes (OutOfSpec reason.NegativeSize) b h = inr (((omega (arith, b.some, each), b.carried), b.no_float, b.symbols), h.0.1, h.1)
  by_bytes OutOfMemory b h = inl refl
  by_bytes _ b h = absurd h

  pub is_wrong : (e : Error) → BlockRefused fields block.rows block.avro_fields block.projection bytes e → (e ≡ OutOfMemory) ⊎ IsWrong block bytes e
  is_wrong e (inl h) = by_fields e h
  is_wrong e (inr h) = by_bytes e h.0 h.1

-- a schema without a column is not carried
pub no_column : (block : BlockWords) (now : List AvroField) (bytes : List ℕ) (e : Error) → now ≡ block.avro_fields
    → (e ≡ OutOfMemory) ⊎ ((e ≡ NotYetImplemented reason.NotCarried) × (CarriedList now → ⊥)) → (e ≡ OutOfMemory) ⊎ IsWrong block bytes e
no_column block now bytes e lent (inl h) = inl h
no_column block now bytes e lent (inr h) =
    let none : CarriedList block.avro_fields → ⊥ = λ all. h.1 (subst CarriedList (sym lent) all) in
    inr (subst (IsWrong block bytes) (sym h.0) (some_field block.avro_fields none, none))

-- the same of lists that are those of the block
pub of_block : {X : Type 0} (block : BlockWords) (fields : List AvroField) (keeps : List Bool) (bytes given : List ℕ) (answer : Result X Error)
    → fields ≡ block.avro_fields → keeps ≡ block.projection → given ≡ bytes
    → IfErr answer (λ e. (e ≡ OutOfMemory) ⊎ IsWrong (record { rows = block.rows; avro_fields = fields; projection = keeps; large = block.large }) given e)
    → IfErr answer (λ e. (e ≡ OutOfMemory) ⊎ IsWrong block bytes e)
of_block block fields keeps bytes given answer same_fields same_keeps same_bytes h =
    subst (λ (p : BlockWords × List ℕ). IfErr answer (λ e. (e ≡ OutOfMemory) ⊎ IsWrong p.0 p.1 e))
    (λ i. (record { rows = block.rows; avro_fields = same_fields i; projection = same_keeps i; large = block.large }, same_bytes i)) h

module _ (block : BlockWords) (source sink : Change) where
  pub not_read : (e : Error) → Keeps sink.bytes sink.bytes_after → NotRead source e → BlockCommandFails block source sink e
  not_read (ReadFault None) keeps h = (keeps, h)
  not_read LimitExceeded keeps h = (keeps, h)
  not_read OutOfMemory keeps h = (keeps, h)
  not_read _ keeps h = absurd h

  pub by_what_was_read : (e : Error) (bytes : List ℕ) → Keeps sink.bytes sink.bytes_after → TakesAll source.bytes source.bytes_after bytes → (e ≡ OutOfMemory) ⊎ IsWrong block bytes e
      → BlockCommandFails block source sink e
  by_what_was_read e bytes keeps all (inl h) = subst (BlockCommandFails block source sink) (sym h) (keeps, (bytes, omega (arith, all.within), all.taken))
  by_what_was_read (NotYetImplemented r) bytes keeps all (inr h) = (keeps, (bytes, all, h))
  by_what_was_read (ExternalFormat r) bytes keeps all (inr h) = (keeps, (bytes, all, h))
  by_what_was_read (OutOfSpec r) bytes keeps all (inr h) = (keeps, (bytes, all, h))
  by_what_was_read Overflow bytes keeps all (inr h) = (keeps, (bytes, all, h))
  by_what_was_read _ bytes keeps all (inr h) = absurd h

  pub write_fails : (answer : Result Unit Error) (bytes text : List ℕ) → TakesAll source.bytes source.bytes_after bytes → ShowsColumns block bytes text
      → IfErr answer (λ e. e ≡ WriteFault) → OnErr answer (AppendsPrefix sink.bytes sink.bytes_after text) → OnErr answer (Failed sink) → IfErr answer (BlockCommandFails block source sink)
  write_fails (Ok _) bytes text all shows only prefix cause = tt
  write_fails (Err e) bytes text all shows only prefix cause =
      subst (BlockCommandFails block source sink) (sym only) (record { bytes = bytes; text = text; read = all; shows = shows; prefix = prefix; failed = cause })
