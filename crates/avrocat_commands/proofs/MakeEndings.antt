-- How `make` ends.
use Rattle.std.proofs.Common.{◌≡◌, ℕ, List, Option, Result, Ok, Err, IfErr, OnOk, OnErr, sym, subst}
use Rattle.std.specs.Io.KnownBytes.{Appends}
use Rattle.arrow_base.specs.Outside.{AppendsPrefix}
use Rattle.arrow_core.specs.declared.error.Error.{Error}
use Rattle.arrow_core.specs.declared.error.Error.TheVariants.{WriteFault, OutOfMemory}
use Rattle.avro_container.specs.Changes.{Change, Failed, change_of}
use Rattle.cli_words.specs.declared.command.MakeWords.{MakeWords}
use Rattle.sample_rows.specs.Made.{made_lines}
use Rattle.avrocat_commands.specs.Make.{MakeDone, MakeFails}
use Rattle.avrocat_commands.proofs.Endings.{keeps_same}

module _ (make : MakeWords) (sink : Change) (answer : Result Unit Error) (text : List ℕ) (is : text ≡ made_lines make.start make.rows) where
  pub make_writes : OnOk answer (Appends sink.bytes sink.bytes_after text) → OnOk answer (MakeDone make sink)
  make_writes h = subst (λ t. OnOk answer (Appends sink.bytes sink.bytes_after t)) is h

  pub make_breaks : IfErr answer (λ e. e ≡ WriteFault) → OnErr answer (AppendsPrefix sink.bytes sink.bytes_after text) → OnErr answer (Failed sink) → IfErr answer (MakeFails make sink)
  make_breaks only prefix cause = from answer only prefix cause
    where
      from : (r : Result Unit Error) → IfErr r (λ e. e ≡ WriteFault) → OnErr r (AppendsPrefix sink.bytes sink.bytes_after text) → OnErr r (Failed sink) → IfErr r (MakeFails make sink)
      from (Ok _) only prefix cause = tt
      from (Err e) only prefix cause = subst (MakeFails make sink) (sym only) (subst (λ t. AppendsPrefix sink.bytes sink.bytes_after t) is prefix, cause)

-- without memory nothing is written
pub make_without_memory : (make : MakeWords) (held : Option (List ℕ)) (faults : ℕ) (e : Error) → e ≡ OutOfMemory → MakeFails make (change_of held faults held faults) e
make_without_memory make held faults e is = subst (MakeFails make (change_of held faults held faults)) (sym is) (keeps_same held)
