-- What `infer` answers, by the type that the lines have and by what was written.
use Rattle.std.proofs.Common.{◌≡◌, ◌⊎◌, inl, inr, ℕ, ◌<◌, ◌≤◌, List, Option, None, Result, Ok, Err, IfErr, OnOk, OnErr, sym, subst, arith}
use Rattle.std.proofs.lemmas.Bool.{cases_lt}
use Rattle.std.specs.Io.KnownBytes.{Appends}
use Rattle.arrow_base.specs.Outside.{AppendsPrefix, last_count}
use Rattle.arrow_core.specs.declared.error.Error.{Error}
use Rattle.arrow_core.specs.declared.error.Error.TheVariants.{WriteFault, OutOfMemory}
use Rattle.arrow_core.specs.declared.types.DataType.{DataType}
use Rattle.ndjson_read.specs.Inference.{IsComplete, NoType}
use Rattle.avro_container.specs.Changes.{Change, Failed, change_of}
use Rattle.avrocat_commands.specs.Infer.{before, after, HasRowsOf, InferDone, InferFails, HasType, type_line}
use Rattle.avrocat_commands.specs.Input.{byte_limit}
use Rattle.avrocat_commands.proofs.Endings.{keeps_same}
use Rattle.avrocat_commands.proofs.InferEndings.{lines_size, same_error}

-- a count that neither rose nor stands at its last value
steady_count : (source : Change) → (Failed source → ⊥) → source.faults ≤ source.faults_after → source.faults_after ≡ source.faults
steady_count source steady rises = from (cases_lt source.faults source.faults_after)
  where
    from : (source.faults < source.faults_after) ⊎ (source.faults_after ≤ source.faults) → source.faults_after ≡ source.faults
    from (inl rose) = absurd (steady (inl rose))
    from (inr same) = omega (arith, same, rises)

below_last : (source : Change) → (Failed source → ⊥) → source.faults_after ≤ last_count → source.faults_after < last_count
below_last source steady bound = from (cases_lt source.faults_after last_count)
  where
    from : (source.faults_after < last_count) ⊎ (last_count ≤ source.faults_after) → source.faults_after < last_count
    from (inl below) = below
    from (inr full) = absurd (steady (inr (omega (arith, full, bound))))

-- where there is a type, it is answered, or there is no memory
pub only_memory : (source : Change) (answer : Result DataType Error) (e : Error) → answer ≡ Err e → IsComplete None byte_limit (before source) (after source) answer
    → source.faults ≤ source.faults_after → source.faults_after ≤ last_count → HasType source → e ≡ OutOfMemory
only_memory source answer e is complete rises bound (bytes, values, tells, some, utf8, rows) =
    same_error answer e _ is (complete bytes values tells.told some (omega arith) (steady_count source tells.steady rises) (below_last source tells.steady bound)
    (omega (arith, tells.within, lines_size bytes)) utf8 rows)

-- whether it is another error than out of memory
abbrev IsOther : Error → Type 0
IsOther OutOfMemory = ⊥
IsOther _ = Unit {0}

no_other : (e : Error) → IsOther e → e ≡ OutOfMemory → ⊥
no_other e other is = subst IsOther is other

-- without a type nothing is written
pub infer_without_type : (source : Change) (held : Option (List ℕ)) (faults : ℕ) (e : Error) → NoType None byte_limit (before source) (after source) e → (HasType source → e ≡ OutOfMemory)
    → InferFails source (change_of held faults held faults) e
infer_without_type source held faults WriteFault why only = absurd why
infer_without_type source held faults OutOfMemory why only = keeps_same held
infer_without_type source held faults e why only = (keeps_same held, why, λ can. no_other e tt (only can))

-- nor without memory for its text
pub infer_without_memory : (source : Change) (held : Option (List ℕ)) (faults : ℕ) (e : Error) → e ≡ OutOfMemory → InferFails source (change_of held faults held faults) e
infer_without_memory source held faults e is = subst (InferFails source (change_of held faults held faults)) (sym is) (keeps_same held)

module _ (source sink : Change) (data_type : DataType) (has : HasRowsOf source data_type) (answer : Result Unit Error) (line : List ℕ) (is : line ≡ type_line data_type) where
  pub infer_writes : OnOk answer (Appends sink.bytes sink.bytes_after line) → OnOk answer (InferDone source sink)
  infer_writes h = from answer h
    where
      from : (r : Result Unit Error) → OnOk r (Appends sink.bytes sink.bytes_after line) → OnOk r (InferDone source sink)
      from (Ok _) h = (data_type, has, subst (Appends sink.bytes sink.bytes_after) is h)
      from (Err e) h = tt

  pub infer_breaks : IfErr answer (λ e. e ≡ WriteFault) → OnErr answer (AppendsPrefix sink.bytes sink.bytes_after line) → OnErr answer (Failed sink) → IfErr answer (InferFails source sink)
  infer_breaks only prefix cause = from answer only prefix cause
    where
      from : (r : Result Unit Error) → IfErr r (λ e. e ≡ WriteFault) → OnErr r (AppendsPrefix sink.bytes sink.bytes_after line) → OnErr r (Failed sink) → IfErr r (InferFails source sink)
      from (Ok _) only prefix cause = tt
      from (Err e) only prefix cause = subst (InferFails source sink) (sym only) (data_type, has, subst (AppendsPrefix sink.bytes sink.bytes_after) is prefix, cause)
