-- The lines of a file, as `ndjson KEEP..` asks for them.
use Rattle.std.specs.Prelude.{ℕ, List, [], ◌∷◌, Option, Some, None}
use Rattle.arrow_core.specs.declared.error.Error.{Error}
use Rattle.avro_ndjson.specs.Laws.{CanBeConverted, IsHeaderDue}
use Rattle.avro_ndjson.specs.Refusals.{Converts, ConversionFails}
use Rattle.avro_container.specs.Changes.{Change}
use Rattle.avrocat_commands.specs.Input.{byte_limit, Tells}

-- the fields to keep: all, where no number is given
abbrev pub keep_of : List ℕ → Option (List ℕ)
keep_of [] = None
keep_of (n ∷ numbers) = Some (n ∷ numbers)

-- the source's whole bytes are a file, and the sink got its lines
abbrev pub NdjsonDone : List ℕ → Change → Change → Type 0
NdjsonDone numbers source sink = (count : ℕ) × Converts (keep_of numbers) byte_limit source sink count

-- why the lines aren't written, or not all of them
abbrev pub NdjsonFails : List ℕ → Change → Change → Error → Type 0
NdjsonFails numbers source sink e = ConversionFails (keep_of numbers) byte_limit source sink e

-- ---- what must be answered of a source whose bytes the contract knows, memory allowing

-- they are a file whose rows can be shown
abbrev pub HasLines : List ℕ → Change → Type 0
HasLines numbers source = (bytes : List ℕ) × Tells source bytes × CanBeConverted (keep_of numbers) bytes

-- they begin with a header, and its record's fields can't be shown
abbrev pub NdjsonDue : List ℕ → Change → Error → Type 0
NdjsonDue numbers source e = (bytes : List ℕ) × Tells source bytes × IsHeaderDue (keep_of numbers) bytes e
