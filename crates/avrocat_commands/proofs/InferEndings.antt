-- How the type of lines ends, against what is due.
use Rattle.std.proofs.Common.{◌≡◌, ◌∙◌, ◌⊎◌, inl, inr, ℕ, List, length, Some, None, Result, Ok, Err, refl, sym, ap, arith}
use Rattle.arrow_base.specs.Outside.{RoseOrFull}
use Rattle.arrow_core.specs.declared.error.Error.{Error}
use Rattle.arrow_core.specs.declared.error.Error.TheVariants.{ExternalFormat, LimitExceeded, ReadFault, WriteFault, OutOfMemory}
use Rattle.arrow_core.specs.declared.types.DataType.{DataType}
use Rattle.ndjson_read.specs.Lines.{lines}
use Rattle.ndjson_read.specs.Inference.{NoType}
use Rattle.ndjson_read.specs.Laws.{IsTold}
use Rattle.ndjson_read.specs.Needed.{size_of_lines}
use Rattle.ndjson_read.proofs.Complete.{complete}
use Rattle.ndjson_read.proofs.LineLists.{joined, size_joined}
use Rattle.ndjson_read.proofs.TwoReadings.{one_error_comes, type_or_error_comes}
use Rattle.avro_container.specs.Changes.{Change, Failed}
use Rattle.avrocat_commands.specs.Infer.{before, after, telling, HasRowsOf, InferDone, InferFails, HasType, InferDue}
use Rattle.avrocat_commands.specs.Input.{byte_limit}
use Rattle.avrocat_commands.proofs.NdjsonEndings.{tells_one}

pub lines_size : (bytes : List ℕ) → size_of_lines (lines bytes) ≡ length bytes
lines_size bytes = sym (size_joined (lines bytes)) ∙ ap length (joined bytes)

pub same_error : {T : Type 0} (answer : Result T Error) (e : Error) (right : T) → answer ≡ Err e → (answer ≡ Ok right) ⊎ (answer ≡ Err OutOfMemory) → e ≡ OutOfMemory
same_error answer e right is (inl ok) = let other : Err e ≡ Ok right = sym is ∙ ok in absurd cc
same_error answer e right is (inr err) = let same : Err e ≡ Err OutOfMemory = sym is ∙ err in cc

-- a reading in which no read fails
none_failed : RoseOrFull 0 0 → ⊥
none_failed (inl rose) = omega (arith, rose)
none_failed (inr full) = omega (arith, full)

same_bytes : (bytes other rest : List ℕ) → other ≡ bytes → IsTold bytes (telling other) (telling rest)
same_bytes bytes other rest is = record { told = ap Some is; steady = none_failed }

pub infer_due_once : (source : Change) (one other : Error) → InferDue source one → InferDue source other → one ≡ other
infer_due_once source one other h d =
    from (one_error_comes None byte_limit h.bytes (telling h.bytes) (telling h.rest) (telling d.bytes) (telling d.rest) one other (same_bytes h.bytes h.bytes h.rest refl)
    (same_bytes h.bytes d.bytes d.rest (tells_one source d.bytes h.bytes d.told h.told)) h.ends d.ends)
  where
    from : (one ≡ other) ⊎ (one ≡ OutOfMemory) ⊎ (other ≡ OutOfMemory) → one ≡ other
    from (inl same) = same
    from (inr (inl memory)) = absurd (h.other memory)
    from (inr (inr memory)) = absurd (d.other memory)

pub infer_never_due : (source : Change) (e : Error) → HasType source → InferDue source e → ⊥
infer_never_due source e (bytes, values, tells, some, utf8, rows) h =
    h.other (same_error (Err e) e _ refl
    (complete None byte_limit (telling h.bytes) (telling h.rest) (Err e) tt h.ends bytes values (ap Some (tells_one source h.bytes bytes h.told tells.told)) some (omega arith) refl (omega arith)
    (omega (arith, tells.within, lines_size bytes)) utf8 rows))

module _ (source sink : Change) where
  pub infer_fails_in_memory : (e : Error) → HasType source → (Failed sink → ⊥) → InferFails source sink e → e ≡ OutOfMemory
  infer_fails_in_memory WriteFault can open_sink (t, infers, prefix, failed) = absurd (open_sink failed)
  infer_fails_in_memory OutOfMemory can open_sink h = refl
  infer_fails_in_memory _ can open_sink h = absurd (h.2 can)

  module _ (due : Error) (h : InferDue source due) where
    is_told : IsTold h.bytes (before source) (after source)
    is_told = record { told = h.told; steady = h.steady }

    -- what has a type has no error due
    no_type : (t : DataType) → HasRowsOf source t → ⊥
    no_type t has =
        h.other (type_or_error_comes None byte_limit h.bytes (before source) (after source) (telling h.bytes) (telling h.rest) t due is_told (same_bytes h.bytes h.bytes h.rest refl) has h.ends)

    as_due : (e : Error) → NoType None byte_limit (before source) (after source) e → (e ≡ OutOfMemory) ⊎ (e ≡ due)
    as_due e why =
        from (one_error_comes None byte_limit h.bytes (before source) (after source) (telling h.bytes) (telling h.rest) e due is_told (same_bytes h.bytes h.bytes h.rest refl) why h.ends)
      where
        from : (e ≡ due) ⊎ (e ≡ OutOfMemory) ⊎ (due ≡ OutOfMemory) → (e ≡ OutOfMemory) ⊎ (e ≡ due)
        from (inl same) = inr same
        from (inr (inl memory)) = inl memory
        from (inr (inr memory)) = absurd (h.other memory)

    fails_so : (e : Error) → InferFails source sink e → (e ≡ OutOfMemory) ⊎ (e ≡ due)
    fails_so WriteFault (t, infers, prefix, failed) = absurd (no_type t infers)
    fails_so OutOfMemory fails = inl refl
    fails_so (ReadFault line) fails = as_due (ReadFault line) fails.1
    fails_so LimitExceeded fails = as_due LimitExceeded fails.1
    fails_so (ExternalFormat r) fails = as_due (ExternalFormat r) fails.1
    fails_so _ fails = absurd fails.1

  pub infer_fails_as_due : (e due : Error) → InferDue source due → InferFails source sink e → (e ≡ OutOfMemory) ⊎ (e ≡ due)
  infer_fails_as_due e due h fails = fails_so due h e fails

  pub infer_done_not_due : (due : Error) → InferDue source due → InferDone source sink → ⊥
  infer_done_not_due due h done = no_type due h done.0 done.1
