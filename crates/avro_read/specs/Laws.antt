-- What a narrower projection reads of the same bytes. Nobody has to believe these laws: they are proved.
use Rattle.std.specs.Prelude.{◌≡◌, ℕ, List, map, Bool, Option, Some, None, Result, Ok, Err, ◌⊎◌}
use Rattle.arrow_base.specs.Outside.{RoseOrFull}
use Rattle.arrow_core.specs.declared.error.Error.{Error}
use Rattle.arrow_core.specs.declared.error.Error.TheVariants.{OutOfMemory}
use Rattle.arrow_array.specs.declared.array.Array.{Array}
use Rattle.arrow_array.specs.Arrays.{array_type, array_slots}
use Rattle.arrow_core.specs.declared.types.Field.{Field}
use Rattle.avro_schema.specs.declared.schema.AvroField.{AvroField}
use Rattle.avro_schema.specs.Laws.{KeepsNoMore}
use Rattle.avro_schema.specs.ValidBlock.{kept}
use Rattle.avro_container.specs.BlockReader.{AtEnd}
use Rattle.avro_container.specs.Laws.{told}
use Rattle.avro_container.specs.Taking.{State}
use Rattle.avro_file.specs.declared.metadata.Compression.{Compression}
use Rattle.avro_schema.specs.Projected.{projected, CanBeDecoded}
use Rattle.avro_read.specs.Projection.{ReaderRefused}
use Rattle.avro_read.specs.Reader.{ReadsChunk, Next}

-- of the elements that a wide projection keeps, those that a narrow one keeps too
abbrev pub still_kept : {A : Type 0} → List Bool → List Bool → List A → List A
still_kept wide narrow xs = kept xs (kept narrow wide)

-- the wide projection's chunk with just the columns that the narrow one keeps; the source has the same bytes left, and
-- as many of them may still be taken
pub record IsNarrowed (wide narrow : List Bool) (chunk fewer : List Array) (new other : State) : Type 0 where
  pub slots : map array_slots fewer ≡ still_kept wide narrow (map array_slots chunk)
  pub data_types : map array_type fewer ≡ still_kept wide narrow (map array_type chunk)
  pub left : other.left ≡ new.left
  pub limit : other.limit ≡ new.limit

-- where of the same bytes the reader of a wide projection gives a chunk, one of a projection that keeps no more, and
-- whose source doesn't fail, gives that chunk narrowed, or answers out of memory
abbrev pub NarrowerReads : Type 0
NarrowerReads =
    (fields : List Field) (avro_fields : List AvroField) (wide narrow : List Bool) (marker bytes : List ℕ) (wide_faults faults limit : ℕ) (new other : State) (chunk : List Array)
    (answer : Option (Result (List Array) Error))
    → KeepsNoMore wide narrow → ReadsChunk (projected fields avro_fields wide) marker (told bytes wide_faults limit) new chunk
    → Next (projected fields avro_fields narrow) marker (told bytes faults limit) other answer → (RoseOrFull faults other.faults → ⊥)
    → ((fewer : List Array) × (answer ≡ Some (Ok fewer)) × IsNarrowed wide narrow chunk fewer new other) ⊎ (answer ≡ Some (Err OutOfMemory))

-- and where the wide one gives nothing, since there are no more bytes, neither does the narrow one, or it answers out of
-- memory
abbrev pub NarrowerEnds : Type 0
NarrowerEnds =
    (fields : List Field) (avro_fields : List AvroField) (narrow : List Bool) (marker bytes : List ℕ) (wide_faults faults limit : ℕ) (new other : State) (answer : Option (Result (List Array) Error))
    → AtEnd (told bytes wide_faults limit) new
    → Next (projected fields avro_fields narrow) marker (told bytes faults limit) other answer → (RoseOrFull faults other.faults → ⊥)
    → (answer ≡ None) ⊎ (answer ≡ Some (Err OutOfMemory))

-- what can be decoded can be decoded under a projection that keeps no more
abbrev pub NarrowerIsDecoded : Type 0
NarrowerIsDecoded =
    (fields : List Field) (avro_fields : List AvroField) (wide narrow : List Bool) → KeepsNoMore wide narrow → CanBeDecoded (projected fields avro_fields wide) → CanBeDecoded (projected fields avro_fields narrow)

-- so a reader is made for it of a file that isn't compressed, or memory runs out
abbrev pub NarrowerIsMade : Type 0
NarrowerIsMade =
    (compression : Option Compression) (fields : List Field) (avro_fields : List AvroField) (wide narrow : List Bool) (e : Error)
    → compression ≡ None → KeepsNoMore wide narrow → CanBeDecoded (projected fields avro_fields wide)
    → ReaderRefused compression (projected fields avro_fields narrow) e → e ≡ OutOfMemory
