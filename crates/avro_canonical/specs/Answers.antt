-- What a rewriting of a file answers where the contract knows the source's bytes.
use Rattle.std.specs.Prelude.{◌≡◌, ◌≢◌, ℕ, List, ◌++◌, Some, ◌⊎◌}
use Rattle.arrow_core.specs.declared.error.Error.{Error}
use Rattle.arrow_core.specs.declared.error.Error.TheVariants.{OutOfMemory}
use Rattle.avro_schema.specs.declared.schema.Record.{Record, out-Record}
use Rattle.avro_container.specs.Changes.{Change, Failed, IsTold, CameFromOutside}
use Rattle.avro_file.specs.Laws.{IsMetadata}
use Rattle.avro_canonical.specs.Canonical.{CannotBeRewritten}
use Rattle.avro_canonical.specs.Rewritten.{HasCanonicalForm, Rewrites, RewritingFails}

-- the bytes begin with a header, and the error says why the rows of its record can't be rewritten
pub record IsHeaderDue (bytes : List ℕ) (e : Error) : Type 0 where
  pub header : List ℕ
  pub rest : List ℕ
  pub joined : bytes ≡ header ++ rest
  pub root : Record
  pub marker : List ℕ
  pub begins : IsMetadata header root marker
  pub why : CannotBeRewritten (out-Record root).fields e
  pub wrong : e ≢ OutOfMemory

-- of a file that has a canonical form, no error is answered but out of memory, or a write fault where the sink failed
abbrev pub FilesAreRewritten : Type 0
FilesAreRewritten =
    (name marker bytes : List ℕ) (limit : ℕ) (source sink : Change) (e : Error) → IsTold source limit bytes → HasCanonicalForm bytes → RewritingFails name marker limit source sink e → CameFromOutside sink e

-- where a header is due an error for its fields, that is the answer, or out of memory
abbrev pub FieldsAreRefused : Type 0
FieldsAreRefused =
    (name marker bytes : List ℕ) (limit : ℕ) (source sink : Change) (e d : Error) → IsTold source limit bytes → IsHeaderDue bytes e → RewritingFails name marker limit source sink d → (d ≡ e) ⊎ (d ≡ OutOfMemory)

-- and the file isn't rewritten
abbrev pub RefusedIsNotRewritten : Type 0
RefusedIsNotRewritten =
    (name marker bytes : List ℕ) (limit count : ℕ) (source sink : Change) (e : Error) → IsTold source limit bytes → IsHeaderDue bytes e → Rewrites name marker limit source sink count → ⊥

-- where the bytes of one source are rewritten, another one that tells them and doesn't fail is answered no error, those
-- from outside aside
abbrev pub RewrittenDoesNotFail : Type 0
RewrittenDoesNotFail =
    (name marker bytes : List ℕ) (limit count : ℕ) (source other sink another : Change) (e : Error)
    → source.bytes ≡ Some bytes → other.bytes ≡ Some bytes → (Failed other → ⊥)
    → Rewrites name marker limit source sink count → RewritingFails name marker limit other another e
    → CameFromOutside another e
