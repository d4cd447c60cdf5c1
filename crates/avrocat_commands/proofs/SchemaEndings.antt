-- How the schema of a file ends, and what the program says of itself.
use Rattle.std.proofs.Common.{◌≡◌, ◌≤◌, inl, inr, ℕ, List, ◌++◌, codes, Option, Result, Ok, Err, OnOk, IfErr, OnErr, sym, subst}
use Rattle.std.proofs.KnownBytes.{Keeps-refl}
use Rattle.std.specs.Io.KnownBytes.{Appends}
use Rattle.arrow_base.specs.Outside.{AppendsPrefix, RoseOrFull}
use Rattle.arrow_core.specs.declared.error.Error.{Error}
use Rattle.arrow_core.specs.declared.error.Error.TheVariants.{WriteFault, OutOfMemory}
use Rattle.avro_container.specs.Changes.{Change, Failed, change_of, header_of}
use Rattle.avro_container.proofs.Steps.{rose_from}
use Rattle.avro_file.specs.Metadata.{MetadataFails}
use Rattle.avro_file.proofs.Complete.{metadata_is_read}
use Rattle.avrocat_commands.specs.Help.{BreaksOff}
use Rattle.avrocat_commands.specs.Input.{byte_limit, HasHeader}
use Rattle.avrocat_commands.proofs.Told.{appends_both, prefix_first, prefix_second}
use Rattle.avrocat_commands.specs.Schema.{ReadsSchema, SchemaDone, SchemaFails}

-- ---- a text that is written whole

module _ (text : List ℕ) (sink : Change) where
  pub breaks_off : (answer : Result Unit Error) → IfErr answer (λ e. e ≡ WriteFault) → OnErr answer (AppendsPrefix sink.bytes sink.bytes_after text) → OnErr answer (Failed sink) → IfErr answer (BreaksOff text sink)
  breaks_off (Ok _) only prefix cause = tt
  breaks_off (Err e) only prefix cause = subst (BreaksOff text sink) (sym only) (prefix, cause)

  pub never_breaks_off : (e : Error) → (Failed sink → ⊥) → BreaksOff text sink e → ⊥
  never_breaks_off WriteFault open_sink h = open_sink h.1
  never_breaks_off _ open_sink h = h

-- a text in two parts: the first one breaks off
pub first_breaks_off : (text more whole : List ℕ) (sink : Change) (e : Error) → text ++ more ≡ whole → e ≡ WriteFault → AppendsPrefix sink.bytes sink.bytes_after text → Failed sink → BreaksOff whole sink e
first_breaks_off text more whole sink e is only prefix cause =
    subst (BreaksOff whole sink) (sym only) (subst (AppendsPrefix sink.bytes sink.bytes_after) is (prefix_first sink.bytes sink.bytes_after text more prefix), cause)

module _ (text more whole : List ℕ) (is : text ++ more ≡ whole) (old then new : Option (List ℕ)) (first between last : ℕ) (written : Appends old then text) (never_falls : first ≤ between) where
  -- the second one does
  pub second_breaks_off : (answer : Result Unit Error) → IfErr answer (λ e. e ≡ WriteFault) → OnErr answer (AppendsPrefix then new more) → OnErr answer (RoseOrFull between last) → IfErr answer (BreaksOff whole (change_of old first new last))
  second_breaks_off (Ok _) only prefix cause = tt
  second_breaks_off (Err e) only prefix cause =
      subst (BreaksOff whole (change_of old first new last)) (sym only) (subst (AppendsPrefix old new) is (prefix_second old then new text more written prefix), rose_from first between last never_falls cause)

  -- or both are written
  pub both_written : (answer : Result Unit Error) → OnOk answer (Appends then new more) → OnOk answer (Appends old new whole)
  both_written (Ok _) h = subst (Appends old new) is (appends_both old then new text more written h)
  both_written (Err e) h = tt

-- ---- the answers

-- nothing is written where there is no header
pub not_stated : (source : Change) (held : Option (List ℕ)) (faults : ℕ) (e : Error) → MetadataFails (header_of byte_limit source source.bytes_after source.faults_after) e → SchemaFails source (change_of held faults held faults) e
not_stated source held faults e fails = inl (Keeps-refl held, fails)

module _ (source sink : Change) (text all : List ℕ) (reads : ReadsSchema source text) (is : all ≡ text ++ codes "\n") where
  pub schema_written : (answer : Result Unit Error) → OnOk answer (Appends sink.bytes sink.bytes_after all) → OnOk answer (SchemaDone source sink)
  schema_written (Ok _) h = (text, reads, subst (Appends sink.bytes sink.bytes_after) is h)
  schema_written (Err e) h = tt

  pub schema_broken : (answer : Result Unit Error) → IfErr answer (λ e. e ≡ WriteFault) → OnErr answer (AppendsPrefix sink.bytes sink.bytes_after all) → OnErr answer (Failed sink) → IfErr answer (SchemaFails source sink)
  schema_broken (Ok _) only prefix cause = tt
  schema_broken (Err e) only prefix cause = inr (text, reads, subst (BreaksOff (text ++ codes "\n") sink) (sym only) (subst (AppendsPrefix sink.bytes sink.bytes_after) is prefix, cause))

-- ---- against what must be answered

pub schema_fails_in_memory : (source sink : Change) (e : Error) → HasHeader source → (Failed sink → ⊥) → SchemaFails source sink e → e ≡ OutOfMemory
schema_fails_in_memory source sink e has open_sink (inl (keeps, fails)) =
    metadata_is_read has.header has.rest has.marker has.root (header_of byte_limit source source.bytes_after source.faults_after) has.told has.begins has.within has.steady e fails
schema_fails_in_memory source sink e has open_sink (inr (text, reads, broken)) = absurd (never_breaks_off (text ++ codes "\n") sink e open_sink broken)
