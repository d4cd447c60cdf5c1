-- How the lines of a file end, against what is due.
use Rattle.std.proofs.Common.{◌≡◌, ◌∙◌, ◌⊎◌, inl, inr, ℕ, List, Some, sym, subst}
use Rattle.std.proofs.lemmas.Option.{same_Some}
use Rattle.arrow_core.specs.declared.error.Error.{Error}
use Rattle.arrow_core.specs.declared.error.Error.TheVariants.{OutOfMemory}
use Rattle.avro_ndjson.specs.Laws.{IsHeaderDue}
use Rattle.avro_ndjson.proofs.Complete.{files_are_converted, fields_are_refused, refused_is_not_converted, due_once, never_due}
use Rattle.avro_container.specs.Changes.{Change, Failed}
use Rattle.avrocat_commands.specs.Input.{byte_limit}
use Rattle.avrocat_commands.specs.Ndjson.{keep_of, NdjsonDone, NdjsonFails, HasLines, NdjsonDue}

pub tells_one : (source : Change) (bytes other : List ℕ) → source.bytes ≡ Some bytes → source.bytes ≡ Some other → bytes ≡ other
tells_one source bytes other p q = same_Some bytes other (sym p ∙ q)

module _ (numbers : List ℕ) (source : Change) where
  pub ndjson_due_once : (one other : Error) → NdjsonDue numbers source one → NdjsonDue numbers source other → one ≡ other
  ndjson_due_once one other (bytes, tells, h) (others, told, d) =
      due_once (keep_of numbers) bytes one other h (subst (λ z. IsHeaderDue (keep_of numbers) z other) (sym (tells_one source bytes others tells.told told.told)) d)

  pub ndjson_never_due : (e : Error) → HasLines numbers source → NdjsonDue numbers source e → ⊥
  ndjson_never_due e (bytes, tells, can) (others, told, d) =
      never_due (keep_of numbers) bytes e can (subst (λ z. IsHeaderDue (keep_of numbers) z e) (sym (tells_one source bytes others tells.told told.told)) d)

  module _ (sink : Change) where
    pub ndjson_fails_in_memory : (e : Error) → HasLines numbers source → (Failed sink → ⊥) → NdjsonFails numbers source sink e → e ≡ OutOfMemory
    ndjson_fails_in_memory e (bytes, tells, can) open_sink h =
        files_are_converted (keep_of numbers) bytes byte_limit source sink e tells can open_sink h

    pub ndjson_fails_as_due : (e due : Error) → NdjsonDue numbers source due → NdjsonFails numbers source sink e → (e ≡ OutOfMemory) ⊎ (e ≡ due)
    ndjson_fails_as_due e due (bytes, tells, h) fails = from (fields_are_refused (keep_of numbers) bytes byte_limit source sink due e tells h fails)
      where
        from : (e ≡ due) ⊎ (e ≡ OutOfMemory) → (e ≡ OutOfMemory) ⊎ (e ≡ due)
        from (inl is) = inr is
        from (inr is) = inl is

    pub ndjson_done_not_due : (due : Error) → NdjsonDue numbers source due → NdjsonDone numbers source sink → ⊥
    ndjson_done_not_due due (bytes, tells, h) done = refused_is_not_converted (keep_of numbers) bytes byte_limit done.0 source sink due tells h done.1
