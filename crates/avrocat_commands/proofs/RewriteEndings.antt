-- How the canonical form of a file ends, against what is due.
use Rattle.std.proofs.Common.{◌≡◌, ◌⊎◌, inl, inr, sym, subst}
use Rattle.arrow_core.specs.declared.error.Error.{Error}
use Rattle.arrow_core.specs.declared.error.Error.TheVariants.{WriteFault, OutOfMemory}
use Rattle.avro_container.specs.Changes.{Change, Failed}
use Rattle.avro_canonical.specs.Answers.{IsHeaderDue}
use Rattle.avro_canonical.proofs.Complete.{files_are_rewritten, fields_are_refused, refused_is_not_rewritten, due_once, never_due}
use Rattle.cli_words.specs.declared.command.RewriteWords.{RewriteWords}
use Rattle.avrocat_commands.specs.Input.{byte_limit}
use Rattle.avrocat_commands.specs.Rewrite.{RewriteDone, RewriteFails, CanBeRewritten, RewriteDue}
use Rattle.avrocat_commands.proofs.NdjsonEndings.{tells_one}

pub rewrite_due_once : (source : Change) (one other : Error) → RewriteDue source one → RewriteDue source other → one ≡ other
rewrite_due_once source one other (bytes, tells, h) (others, told, d) =
    due_once bytes one other h (subst (λ z. IsHeaderDue z other) (sym (tells_one source bytes others tells.told told.told)) d)

pub rewrite_never_due : (source : Change) (e : Error) → CanBeRewritten source → RewriteDue source e → ⊥
rewrite_never_due source e (bytes, tells, can) (others, told, d) =
    never_due bytes e can (subst (λ z. IsHeaderDue z e) (sym (tells_one source bytes others tells.told told.told)) d)

module _ (rewrite : RewriteWords) (source sink : Change) where
  pub rewrite_fails_in_memory : (e : Error) → CanBeRewritten source → (Failed sink → ⊥) → RewriteFails rewrite source sink e → e ≡ OutOfMemory
  rewrite_fails_in_memory e (bytes, tells, can) open_sink h = from (files_are_rewritten rewrite.name rewrite.marker bytes byte_limit source sink e tells can h)
    where
      from : (e ≡ OutOfMemory) ⊎ ((e ≡ WriteFault) × Failed sink) → e ≡ OutOfMemory
      from (inl is) = is
      from (inr broken) = absurd (open_sink broken.1)

  pub rewrite_fails_as_due : (e due : Error) → RewriteDue source due → RewriteFails rewrite source sink e → (e ≡ OutOfMemory) ⊎ (e ≡ due)
  rewrite_fails_as_due e due (bytes, tells, h) fails = from (fields_are_refused rewrite.name rewrite.marker bytes byte_limit source sink due e tells h fails)
    where
      from : (e ≡ due) ⊎ (e ≡ OutOfMemory) → (e ≡ OutOfMemory) ⊎ (e ≡ due)
      from (inl is) = inr is
      from (inr is) = inl is

  pub rewrite_done_not_due : (due : Error) → RewriteDue source due → RewriteDone rewrite source sink → ⊥
  rewrite_done_not_due due (bytes, tells, h) done = refused_is_not_rewritten rewrite.name rewrite.marker bytes byte_limit done.0 source sink due tells h done.1
