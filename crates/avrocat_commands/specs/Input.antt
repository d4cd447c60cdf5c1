-- What a source gave.
use Rattle.std.specs.Prelude.{◌≡◌, ℕ, ◌+◌, ◌++◌, ◌<◌, ◌≤◌, None, Some, List, length, Option}
use Rattle.std.specs.Io.KnownBytes.{Consumes, IsAtEnd}
use Rattle.arrow_core.specs.declared.error.Error.{Error}
use Rattle.arrow_core.specs.declared.error.Error.TheVariants.{LimitExceeded, ReadFault, OutOfMemory}
use Rattle.avro_schema.specs.declared.schema.Record.{Record}
use Rattle.avro_container.specs.Changes.{Change, Failed, IsTold}
use Rattle.avro_file.specs.Laws.{IsMetadata}

-- the most bytes that the program takes
abbrev pub byte_limit : ℕ
byte_limit = 1073741824

-- All bytes of a source, no more than the limit. Of a source whose bytes the contract knows, these are the bytes.
pub record TakesAll (left left_after : Option (List ℕ)) (bytes : List ℕ) : Type 0 where
  pub taken : Consumes left left_after bytes
  pub whole : IsAtEnd left_after
  pub within : length bytes ≤ byte_limit

-- one byte more than the limit was taken
abbrev pub PassesLimit : Option (List ℕ) → Option (List ℕ) → Type 0
PassesLimit left left_after = (bytes : List ℕ) × (length bytes ≡ byte_limit + 1) × Consumes left left_after bytes

-- some bytes were taken, or none, and no more than one past the limit
abbrev pub TakesSome : Option (List ℕ) → Option (List ℕ) → Type 0
TakesSome left left_after = (bytes : List ℕ) × (length bytes ≤ byte_limit + 1) × Consumes left left_after bytes

-- why a source is not read to its end, by the error that says so
abbrev pub NotRead : Change → Error → Type 0
NotRead source (ReadFault None) = Failed source × TakesSome source.bytes source.bytes_after
NotRead source LimitExceeded = PassesLimit source.bytes source.bytes_after
NotRead source OutOfMemory = TakesSome source.bytes source.bytes_after
NotRead source _ = ⊥

-- the source tells these bytes, no more than the limit, and doesn't fail
abbrev pub Tells : Change → List ℕ → Type 0
Tells source = IsTold source byte_limit

-- the source tells more bytes than the limit, and doesn't fail
pub record TellsTooMany (source : Change) : Type 0 where
  pub bytes : List ℕ
  pub told : source.bytes ≡ Some bytes
  pub beyond : byte_limit < length bytes
  pub steady : Failed source → ⊥

-- the source tells bytes that begin with a file's header within the limit, and doesn't fail
pub record HasHeader (source : Change) : Type 0 where
  pub header : List ℕ
  pub rest : List ℕ
  pub told : source.bytes ≡ Some (header ++ rest)
  pub within : length header ≤ byte_limit
  pub steady : Failed source → ⊥
  pub root : Record
  pub marker : List ℕ
  pub begins : IsMetadata header root marker
