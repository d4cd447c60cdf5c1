-- Which fields a reader keeps, and why none is made.
use Rattle.std.specs.Prelude.{◌≡◌, ◌≢◌, ℕ, Bool, true, List, replicate, Option, Some, None, ◌⊎◌, Vec}
use Rattle.std.specs.Global.{Global}
use Rattle.arrow_core.specs.declared.error.Error.{Error}
use Rattle.arrow_core.specs.declared.error.Error.TheVariants.{NotYetImplemented, OutOfMemory}
use Rattle.arrow_core.specs.declared.error.Reason.TheVariants.{Codec}
use Rattle.avro_file.specs.declared.metadata.Compression.{Compression}
use Rattle.avro_schema.specs.Projected.{Projected, ProjectionRefused}

-- the projection, or all of n fields where there is none
abbrev pub projection_or_all : Option (Vec Bool Global) → ℕ → List Bool
projection_or_all None n = replicate n true
projection_or_all (Some projection) n = projection.items

-- the blocks are compressed; or the fields are refused as a decoder refuses them; or there is no memory
abbrev pub ReaderRefused : Option Compression → Projected → Error → Type 0
ReaderRefused compression p e =
    ((compression ≢ None) × (e ≡ NotYetImplemented Codec)) ⊎ ((compression ≡ None) × (ProjectionRefused p e ⊎ (e ≡ OutOfMemory)))
