-- What a call changed at a source or a sink.
use Rattle.std.specs.Prelude.{◌≡◌, ◌≤◌, ◌⊎◌, ℕ, List, length, Option, Some}
use Rattle.arrow_base.specs.Outside.{RoseOrFull}
use Rattle.arrow_core.specs.declared.error.Error.{Error}
use Rattle.arrow_core.specs.declared.error.Error.TheVariants.{WriteFault, OutOfMemory}
use Rattle.avro_container.specs.ReadHeader.{Change as SourceChange}

-- its bytes, where it tells them, and how often it had failed, before the call and after it
pub record Change : Type 0 where
  pub bytes : Option (List ℕ)
  pub faults : ℕ
  pub bytes_after : Option (List ℕ)
  pub faults_after : ℕ

abbrev pub change_of : Option (List ℕ) → ℕ → Option (List ℕ) → ℕ → Change
change_of bytes faults bytes_after faults_after = record { bytes = bytes; faults = faults; bytes_after = bytes_after; faults_after = faults_after }

-- it failed in the call, or has failed too often to be counted
abbrev pub Failed : Change → Type 0
Failed change = RoseOrFull change.faults change.faults_after

-- what the source tells before a header is read, and after it, where this is left and it has failed so often
abbrev pub header_of : ℕ → Change → Option (List ℕ) → ℕ → SourceChange
header_of limit source left faults = record { left = source.bytes; faults = source.faults; left_after = left; faults_after = faults; limit = limit }

-- ---- of a source whose bytes the contract knows

-- the source told these bytes, no more than the limit, and didn't fail
pub record IsTold (source : Change) (limit : ℕ) (bytes : List ℕ) : Type 0 where
  pub told : source.bytes ≡ Some bytes
  pub within : length bytes ≤ limit
  pub steady : Failed source → ⊥

-- the bytes have no part in the error: memory ran out, or the sink failed
abbrev pub CameFromOutside : Change → Error → Type 0
CameFromOutside sink e = (e ≡ OutOfMemory) ⊎ ((e ≡ WriteFault) × Failed sink)
