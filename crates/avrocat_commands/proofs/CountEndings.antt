-- How the counts of a file end.
use Rattle.std.proofs.Common.{◌≡◌, inl, inr, ℕ, List, Option, Result, Ok, Err, OnOk, IfErr, OnErr, refl, sym, subst}
use Rattle.std.proofs.KnownBytes.{Keeps-refl}
use Rattle.std.specs.Io.KnownBytes.{Appends}
use Rattle.arrow_base.specs.Outside.{AppendsPrefix}
use Rattle.arrow_core.specs.declared.error.Error.{Error}
use Rattle.arrow_core.specs.declared.error.Error.TheVariants.{WriteFault, OutOfMemory}
use Rattle.avro_container.specs.Changes.{Change, Failed, change_of}
use Rattle.avro_file.specs.Metadata.{WriteFails}
use Rattle.avro_inspect.specs.Counts.{CountsFile, CountingFails}
use Rattle.avro_inspect.specs.declared.count.FileCounts.{FileCounts}
use Rattle.avro_inspect.proofs.Complete.{files_are_counted}
use Rattle.avrocat_commands.specs.Count.{counts_text, CountDone, CountFails, CanBeCounted}
use Rattle.avrocat_commands.specs.Input.{byte_limit}

-- ---- the answers

-- nothing is written where the file isn't counted
pub not_counted : (source : Change) (held : Option (List ℕ)) (faults : ℕ) (e : Error) → CountingFails byte_limit source e → CountFails source (change_of held faults held faults) e
not_counted source held faults e fails = inl (Keeps-refl held, fails)

module _ (source : Change) (counts : FileCounts) (counted : CountsFile byte_limit source counts) where
  -- nor where there is no memory for the lines
  pub no_memory_for_lines : (held : Option (List ℕ)) (faults : ℕ) (e : Error) → e ≡ OutOfMemory → CountFails source (change_of held faults held faults) e
  no_memory_for_lines held faults e is = inr (counts, counted, subst (WriteFails held held faults faults (counts_text counts)) (sym is) (Keeps-refl held, refl))

  module _ (sink : Change) (answer : Result Unit Error) (text : List ℕ) (is : text ≡ counts_text counts) where
    pub lines_written : OnOk answer (Appends sink.bytes sink.bytes_after text) → OnOk answer (CountDone source sink)
    lines_written = from answer
      where
        from : (r : Result Unit Error) → OnOk r (Appends sink.bytes sink.bytes_after text) → OnOk r (CountDone source sink)
        from (Ok _) h = (counts, counted, subst (Appends sink.bytes sink.bytes_after) is h)
        from (Err e) h = tt

    pub lines_broken : IfErr answer (λ e. e ≡ WriteFault) → OnErr answer (AppendsPrefix sink.bytes sink.bytes_after text) → OnErr answer (Failed sink) → IfErr answer (CountFails source sink)
    lines_broken = from answer
      where
        from : (r : Result Unit Error) → IfErr r (λ e. e ≡ WriteFault) → OnErr r (AppendsPrefix sink.bytes sink.bytes_after text) → OnErr r (Failed sink) → IfErr r (CountFails source sink)
        from (Ok _) only prefix cause = tt
        from (Err e) only prefix cause =
            inr (counts, counted, subst (WriteFails sink.bytes sink.bytes_after sink.faults sink.faults_after (counts_text counts)) (sym only) (subst (AppendsPrefix sink.bytes sink.bytes_after) is prefix, cause))

-- ---- against what must be answered

write_fails_in_memory : (sink : Change) (text : List ℕ) (e : Error) → (Failed sink → ⊥) → WriteFails sink.bytes sink.bytes_after sink.faults sink.faults_after text e → e ≡ OutOfMemory
write_fails_in_memory sink text WriteFault open_sink h = absurd (open_sink h.1)
write_fails_in_memory sink text OutOfMemory open_sink h = refl
write_fails_in_memory sink text _ open_sink h = absurd h

pub count_fails_in_memory : (source sink : Change) (e : Error) → CanBeCounted source → (Failed sink → ⊥) → CountFails source sink e → e ≡ OutOfMemory
count_fails_in_memory source sink e (bytes, tells, is_file) open_sink (inl (keeps, fails)) = files_are_counted bytes byte_limit source e tells is_file fails
count_fails_in_memory source sink e can open_sink (inr (counts, counted, fails)) = write_fails_in_memory sink (counts_text counts) e open_sink fails
