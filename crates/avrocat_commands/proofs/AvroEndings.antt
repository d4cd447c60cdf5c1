-- How the file made of lines ends, against what is due.
use Rattle.std.proofs.Common.{◌≡◌, ◌≢◌, ◌∙◌, ◌⊎◌, inl, inr, List, length, take, Option, Some, None, refl, sym, ap, subst, arith}
use Rattle.std.proofs.lemmas.List.{take_all}
use Rattle.std.proofs.lemmas.Option.{same_Some}
use Rattle.arrow_core.specs.declared.error.Error.{Error}
use Rattle.arrow_core.specs.declared.error.Error.TheVariants.{NotYetImplemented, WriteFault, OutOfMemory}
use Rattle.arrow_core.specs.declared.error.Reason.TheVariants.{MapOrUnion}
use Rattle.arrow_core.specs.declared.types.Field.{Field}
use Rattle.avro_schema.specs.Inferred.{HasMapOrUnion, inferred_columns}
use Rattle.avro_types.specs.Inference.{SchemaRefused}
use Rattle.avro_types.proofs.Inferring.{none_in_fields}
use Rattle.avro_schema.specs.declared.schema.Record.{Record as TheRecord, out-Record}
use Rattle.avro_schema.specs.declared.schema.Schema.{Record}
use Rattle.avro_container.specs.Changes.{Change, Failed}
use Rattle.cli_words.specs.declared.command.AvroWords.{AvroWords}
use Rattle.ndjson_avro.specs.Conversion.{Converts, ConversionFails}
use Rattle.ndjson_avro.specs.Target.{HasNoTarget}
use Rattle.ndjson_avro.proofs.Refused.{one_reason, target_or_not, refused_as_due, refused_is_not_converted}
use Rattle.ndjson_avro.proofs.Complete.{lines_are_written}
use Rattle.avrocat_commands.specs.Input.{byte_limit}
use Rattle.avrocat_commands.specs.Avro.{HasColumns, AvroDone, HasNoColumns, AvroFails, HasRows, AvroDue}

module _ (avro : AvroWords) where
  -- where a record's fields have a map or such a union, they have no columns
  no_columns_of : (r : TheRecord) → avro.avro_fields ≡ (out-Record r).fields → HasMapOrUnion (Record r) → inferred_columns avro.avro_fields ≡ None
  no_columns_of r is h = from (inferred_columns avro.avro_fields) refl
    where
      from : (o : Option (List Field)) → inferred_columns avro.avro_fields ≡ o → inferred_columns avro.avro_fields ≡ None
      from None e = e
      from (Some columns) e =
          let whole : take (length avro.avro_fields) avro.avro_fields ≡ avro.avro_fields = take_all (length avro.avro_fields) avro.avro_fields (omega arith) in
          absurd (none_in_fields r avro.avro_fields (length avro.avro_fields) columns (omega arith) is (ap inferred_columns whole ∙ e) h)

  pub schema_refused : (r : TheRecord) (e : Error) → avro.avro_fields ≡ (out-Record r).fields → SchemaRefused (HasMapOrUnion (Record r)) e → HasNoColumns avro e
  schema_refused r (NotYetImplemented MapOrUnion) is h = no_columns_of r is h
  schema_refused r OutOfMemory is h = tt
  schema_refused r _ is h = absurd h

  -- fields have columns or none
  none_and_some : (columns : List Field) → inferred_columns avro.avro_fields ≡ None → HasColumns avro columns → ⊥
  none_and_some columns none some = some_none (sym some ∙ none)
    where
      some_none : ◌≡◌ {A = Option (List Field)} (Some columns) None → ⊥
      some_none q = cc

  no_columns : (columns : List Field) (e : Error) → e ≢ OutOfMemory → HasNoColumns avro e → HasColumns avro columns → ⊥
  no_columns columns (NotYetImplemented MapOrUnion) wrong h has = none_and_some columns h has
  no_columns columns OutOfMemory wrong h has = absurd (wrong refl)
  no_columns columns _ wrong h has = absurd h

  one_none : (one other : Error) → one ≢ OutOfMemory → other ≢ OutOfMemory → HasNoColumns avro one → HasNoColumns avro other → one ≡ other
  one_none (NotYetImplemented MapOrUnion) (NotYetImplemented MapOrUnion) wrong also h d = refl
  one_none (NotYetImplemented MapOrUnion) OutOfMemory wrong also h d = absurd (also refl)
  one_none (NotYetImplemented MapOrUnion) _ wrong also h d = absurd d
  one_none OutOfMemory other wrong also h d = absurd (wrong refl)
  one_none _ other wrong also h d = absurd h

  same_columns : (columns others : List Field) → HasColumns avro columns → HasColumns avro others → columns ≡ others
  same_columns columns others h d = same_Some columns others (sym h ∙ d)

  pub avro_due_once : (one other : Error) → AvroDue avro one → AvroDue avro other → one ≡ other
  avro_due_once one other (wrong, inl h) (also, inl d) = one_none one other wrong also h d
  avro_due_once one other (wrong, inl h) (also, inr (columns, has, d)) = absurd (no_columns columns one wrong h has)
  avro_due_once one other (wrong, inr (columns, has, h)) (also, inl d) = absurd (no_columns columns other also d has)
  avro_due_once one other (wrong, inr (columns, has, h)) (also, inr (others, had, d)) =
      one_reason columns one other h (subst (λ z. HasNoTarget z other) (sym (same_columns columns others has had)) d) wrong also

  pub avro_never_due : (source : Change) (e : Error) → HasRows avro source → AvroDue avro e → ⊥
  avro_never_due source e (columns, bytes, has, tells, are) (wrong, inl h) = no_columns columns e wrong h has
  avro_never_due source e (columns, bytes, has, tells, are) (wrong, inr (others, had, h)) =
      wrong (target_or_not columns avro.name are.target e are.has (subst (λ z. HasNoTarget z e) (sym (same_columns columns others has had)) h))

  module _ (source sink : Change) where
    pub avro_fails_in_memory : (e : Error) → HasRows avro source → (Failed sink → ⊥) → AvroFails avro source sink e → e ≡ OutOfMemory
    avro_fails_in_memory e (columns, bytes, has, tells, are) open_sink (inl h) = memory e h.2
      where
        memory : (d : Error) → HasNoColumns avro d → d ≡ OutOfMemory
        memory (NotYetImplemented MapOrUnion) n = absurd (none_and_some columns n has)
        memory OutOfMemory n = refl
        memory _ n = absurd n
    avro_fails_in_memory e (columns, bytes, has, tells, are) open_sink (inr (others, had, fails)) =
        from (lines_are_written columns avro.name avro.marker bytes avro.rows_per_block byte_limit source sink e tells are
        (subst (λ z. ConversionFails z avro.name avro.marker avro.rows_per_block byte_limit source sink e) (sym (same_columns columns others has had)) fails))
      where
        from : (e ≡ OutOfMemory) ⊎ ((e ≡ WriteFault) × Failed sink) → e ≡ OutOfMemory
        from (inl is) = is
        from (inr broken) = absurd (open_sink broken.1)

    pub avro_fails_as_due : (e due : Error) → AvroDue avro due → AvroFails avro source sink e → (e ≡ OutOfMemory) ⊎ (e ≡ due)
    avro_fails_as_due e due (wrong, inl h) (inl fails) = from e fails.2
      where
        from : (d : Error) → HasNoColumns avro d → (d ≡ OutOfMemory) ⊎ (d ≡ due)
        from (NotYetImplemented MapOrUnion) n = inr (one_none (NotYetImplemented MapOrUnion) due (λ q. cc) wrong n h)
        from OutOfMemory n = inl refl
        from _ n = absurd n
    avro_fails_as_due e due (wrong, inl h) (inr (columns, has, fails)) = absurd (no_columns columns due wrong h has)
    avro_fails_as_due e due (wrong, inr (columns, has, h)) (inl fails) = from e fails.2
      where
        from : (d : Error) → HasNoColumns avro d → (d ≡ OutOfMemory) ⊎ (d ≡ due)
        from (NotYetImplemented MapOrUnion) n = absurd (none_and_some columns n has)
        from OutOfMemory n = inl refl
        from _ n = absurd n
    avro_fails_as_due e due (wrong, inr (columns, has, h)) (inr (others, had, fails)) =
        refused_as_due columns avro.name avro.marker avro.rows_per_block byte_limit source sink due wrong h e
        (subst (λ z. ConversionFails z avro.name avro.marker avro.rows_per_block byte_limit source sink e) (sym (same_columns columns others has had)) fails)

    pub avro_done_not_due : (due : Error) → AvroDue avro due → AvroDone avro source sink → ⊥
    avro_done_not_due due (wrong, inl h) (columns, count, has, converts) = no_columns columns due wrong h has
    avro_done_not_due due (wrong, inr (columns, has, h)) (others, count, had, converts) =
        refused_is_not_converted columns avro.name avro.marker avro.rows_per_block byte_limit source sink due wrong h count
        (subst (λ z. Converts z avro.name avro.marker avro.rows_per_block byte_limit source sink count) (sym (same_columns columns others has had)) converts)
