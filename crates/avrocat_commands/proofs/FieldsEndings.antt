-- How the fields of a file end.
use Rattle.std.proofs.Common.{◌≡◌, ◌∙◌, ◌<◌, ◌≤◌, ◌+◌, inl, inr, ℕ, zero, suc, List, [], ◌∷◌, ◌++◌, codes, decimal, drop, length, get_or, Result, Ok, Err, OnOk, OnErr, IfErr, Option, refl, sym, ap, subst, append_assoc, append-nil, add-one, arith}
use Rattle.std.proofs.KnownBytes.{Keeps-refl}
use Rattle.std.proofs.Math.Seq.{drop-cons}
use Rattle.std.specs.Io.KnownBytes.{Appends}
use Rattle.arrow_base.specs.Outside.{AppendsPrefix}
use Rattle.arrow_base.specs.WrittenString.{json_string}
use Rattle.arrow_core.specs.declared.error.Error.{Error}
use Rattle.arrow_core.specs.declared.error.Error.TheVariants.{WriteFault, OutOfMemory}
use Rattle.avro_schema.specs.declared.schema.AvroField.{AvroField}
use Rattle.avro_schema.specs.declared.schema.Record.{Record, out-Record}
use Rattle.avro_container.specs.Changes.{Change, Failed, change_of, header_of}
use Rattle.avro_file.specs.Metadata.{ReadsMetadata, MetadataFails}
use Rattle.avro_file.proofs.Appends.{Adds}
use Rattle.cli_words.specs.Printed.{type_text}
use Rattle.avro_file.proofs.Complete.{metadata_is_read}
use Rattle.avrocat_commands.specs.Fields.{IsVerdict, field_line, IsFieldLine, AppendsLine, AreFieldLines, ListsFields, FieldsDone, FieldsFails}
use Rattle.avrocat_commands.specs.Input.{byte_limit, HasHeader}

-- ---- a line, whose last part is its line feed

pub line_written : (number : ℕ) (field : AvroField) (verdict : List ℕ) → IsVerdict field verdict → {old middle : List ℕ}
    → Adds middle old (decimal number ++ codes "\t" ++ json_string field.name ++ codes "\t" ++ type_text field.schema ++ codes "\t" ++ verdict)
    → (answer : Result Unit Error) (new : List ℕ) → OnOk answer (new ≡ middle ++ codes "\n") → OnOk answer (AppendsLine number field old new)
line_written number field verdict is {old} {middle} adds (Ok _) new h =
    (field_line number field verdict, record { verdict = verdict; is_verdict = is; parts = refl }, h ∙ ap (λ t. t ++ codes "\n") adds.is ∙ append_assoc old _ (codes "\n"))
line_written number field verdict is adds (Err e) new h = tt

-- ---- the lines so far, and those that are left

abbrev pub LinesSoFar : List AvroField → ℕ → List ℕ → Type 0
LinesSoFar fields i text = (rest : List ℕ) → AreFieldLines i (drop i fields) rest → AreFieldLines 0 fields (text ++ rest)

pub one_line_more : (fields : List AvroField) (i : ℕ) (field : AvroField) (text new line : List ℕ) → i < length fields → get_or fields i field ≡ field → IsFieldLine i field line → new ≡ text ++ line → LinesSoFar fields i text → LinesSoFar fields (i + 1) new
one_line_more fields i field text new line lt at is e so rest h =
    subst (λ z. AreFieldLines 0 fields z) (sym (append_assoc text line rest) ∙ ap (λ z. z ++ rest) (sym e))
    (so (line ++ rest) (subst (λ z. AreFieldLines i z (line ++ rest)) (sym here) (line, rest, is, refl, h)))
  where
    here : drop i fields ≡ field ∷ drop (i + 1) fields
    here = drop-cons fields i field lt ∙ ap (λ x. x ∷ drop (suc i) fields) at ∙ ap (λ j. field ∷ drop j fields) (sym (add-one i))

none_left : (fields : List AvroField) (i : ℕ) → length fields ≤ i → drop i fields ≡ []
none_left [] zero h = refl
none_left [] (suc i) h = refl
none_left (field ∷ fields) zero h = absurd (omega (arith, h))
none_left (field ∷ fields) (suc i) h = none_left fields i (omega (arith, h))

pub no_lines_left : (fields : List AvroField) (i : ℕ) (text : List ℕ) → length fields ≤ i → LinesSoFar fields i text → AreFieldLines 0 fields text
no_lines_left fields i text le so =
    subst (λ z. AreFieldLines 0 fields z) (append-nil text) (so [] (subst (λ z. AreFieldLines i z []) (sym (none_left fields i le)) refl))

-- ---- the answers

pub no_header : (source : Change) (held : Option (List ℕ)) (faults : ℕ) (e : Error) → MetadataFails (header_of byte_limit source source.bytes_after source.faults_after) e → FieldsFails source (change_of held faults held faults) e
no_header source held faults e fails = inl (Keeps-refl held, inl fails)

pub no_memory : (source : Change) (held : Option (List ℕ)) (faults : ℕ) (e : Error) → e ≡ OutOfMemory → FieldsFails source (change_of held faults held faults) e
no_memory source held faults e is = inl (Keeps-refl held, inr is)

pub lists_fields : (source : Change) (text : List ℕ) (root : Record) (marker : List ℕ) (count : ℕ) → ReadsMetadata (header_of byte_limit source source.bytes_after source.faults_after) root marker count → AreFieldLines 0 (out-Record root).fields text → ListsFields source text
lists_fields source text root marker count reads lines = record { root = root; marker = marker; count = count; reads = reads; lines = lines }

module _ (source sink : Change) (text all : List ℕ) (lists : ListsFields source text) (is : all ≡ text) where
  pub fields_written : (answer : Result Unit Error) → OnOk answer (Appends sink.bytes sink.bytes_after all) → OnOk answer (FieldsDone source sink)
  fields_written (Ok _) h = (text, lists, subst (Appends sink.bytes sink.bytes_after) is h)
  fields_written (Err e) h = tt

  pub fields_broken : (answer : Result Unit Error) → IfErr answer (λ e. e ≡ WriteFault) → OnErr answer (AppendsPrefix sink.bytes sink.bytes_after all) → OnErr answer (Failed sink) → IfErr answer (FieldsFails source sink)
  fields_broken (Ok _) only prefix cause = tt
  fields_broken (Err e) only prefix cause = inr (text, lists, only, subst (AppendsPrefix sink.bytes sink.bytes_after) is prefix, cause)

-- ---- against what must be answered

pub fields_fails_in_memory : (source sink : Change) (e : Error) → HasHeader source → (Failed sink → ⊥) → FieldsFails source sink e → e ≡ OutOfMemory
fields_fails_in_memory source sink e has open_sink (inl (keeps, inl fails)) =
    metadata_is_read has.header has.rest has.marker has.root (header_of byte_limit source source.bytes_after source.faults_after) has.told has.begins has.within has.steady e fails
fields_fails_in_memory source sink e has open_sink (inl (keeps, inr memory)) = memory
fields_fails_in_memory source sink e has open_sink (inr (text, lists, fault, prefix, failed)) = absurd (open_sink failed)
