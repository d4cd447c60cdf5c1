-- What a conversion answers where the contract knows the source's bytes.
use Rattle.std.specs.Prelude.{◌≡◌, ◌≢◌, ℕ, List, ◌++◌, Option, Some, ◌⊎◌}
use Rattle.arrow_core.specs.declared.error.Error.{Error}
use Rattle.arrow_core.specs.declared.error.Error.TheVariants.{OutOfMemory}
use Rattle.avro_schema.specs.declared.schema.Record.{Record, out-Record}
use Rattle.avro_container.specs.Changes.{Change, Failed, IsTold, CameFromOutside}
use Rattle.avro_file.specs.Laws.{IsMetadata}
use Rattle.avro_ndjson.specs.Refusals.{CannotBeShown, Converts, ConversionFails}
use Rattle.avro_ndjson.specs.Shown.{ShowsFile}

-- the bytes are a file whose rows have lines
abbrev pub CanBeConverted : Option (List ℕ) → List ℕ → Type 0
CanBeConverted keep bytes = (text : List ℕ) × (count : ℕ) × ShowsFile keep bytes text count

-- the bytes begin with a header, and the error says why the fields of its record can't be shown
pub record IsHeaderDue (keep : Option (List ℕ)) (bytes : List ℕ) (e : Error) : Type 0 where
  pub header : List ℕ
  pub rest : List ℕ
  pub joined : bytes ≡ header ++ rest
  pub root : Record
  pub marker : List ℕ
  pub begins : IsMetadata header root marker
  pub why : CannotBeShown keep (out-Record root).fields e
  pub wrong : e ≢ OutOfMemory

-- of a file that can be converted, no error is answered but out of memory, or a write fault where the sink failed
abbrev pub FilesAreConverted : Type 0
FilesAreConverted = (keep : Option (List ℕ)) (bytes : List ℕ) (limit : ℕ) (source sink : Change) (e : Error) → IsTold source limit bytes → CanBeConverted keep bytes → ConversionFails keep limit source sink e → CameFromOutside sink e

-- where a header is due an error for its fields, that is the answer, or out of memory
abbrev pub FieldsAreRefused : Type 0
FieldsAreRefused = (keep : Option (List ℕ)) (bytes : List ℕ) (limit : ℕ) (source sink : Change) (e d : Error) → IsTold source limit bytes → IsHeaderDue keep bytes e → ConversionFails keep limit source sink d → (d ≡ e) ⊎ (d ≡ OutOfMemory)

-- and the file isn't converted
abbrev pub RefusedIsNotConverted : Type 0
RefusedIsNotConverted = (keep : Option (List ℕ)) (bytes : List ℕ) (limit count : ℕ) (source sink : Change) (e : Error) → IsTold source limit bytes → IsHeaderDue keep bytes e → Converts keep limit source sink count → ⊥

-- ---- of any bytes, which two sources told that didn't fail

-- one error is answered at most, those from outside aside
abbrev pub OneErrorComes : Type 0
OneErrorComes =
    (keep : Option (List ℕ)) (bytes : List ℕ) (limit : ℕ) (source other sink another : Change) (e d : Error)
    → source.bytes ≡ Some bytes → other.bytes ≡ Some bytes → (Failed source → ⊥) → (Failed other → ⊥)
    → ConversionFails keep limit source sink e → ConversionFails keep limit other another d
    → (e ≡ d) ⊎ CameFromOutside sink e ⊎ CameFromOutside another d

-- and where they are converted none, those from outside aside
abbrev pub ConvertedDoesNotFail : Type 0
ConvertedDoesNotFail =
    (keep : Option (List ℕ)) (bytes : List ℕ) (limit count : ℕ) (source other sink another : Change) (e : Error)
    → source.bytes ≡ Some bytes → other.bytes ≡ Some bytes → (Failed other → ⊥)
    → Converts keep limit source sink count → ConversionFails keep limit other another e
    → CameFromOutside another e
