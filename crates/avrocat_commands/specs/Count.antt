-- How many rows and blocks a file has, as `count` asks for it.
use Rattle.std.specs.Prelude.{◌⊎◌, ℕ, List, ◌++◌, codes, decimal}
use Rattle.std.specs.Io.KnownBytes.{Appends, Keeps}
use Rattle.arrow_core.specs.declared.error.Error.{Error}
use Rattle.avro_container.specs.Changes.{Change}
use Rattle.avro_file.specs.Metadata.{WriteFails}
use Rattle.avro_inspect.specs.Counts.{CountsFile, CountingFails}
use Rattle.avro_inspect.specs.Laws.{IsFile}
use Rattle.avro_inspect.specs.declared.count.FileCounts.{FileCounts}
use Rattle.avrocat_commands.specs.Input.{byte_limit, Tells}

-- a name, a number and a line feed
abbrev pub count_line : List ℕ → ℕ → List ℕ
count_line name number = name ++ (decimal number ++ codes "\n")

-- the rows, and the blocks
abbrev pub counts_text : FileCounts → List ℕ
counts_text counts = count_line (codes "rows ") counts.rows ++ count_line (codes "blocks ") counts.blocks

-- the source's whole bytes are a file, and the sink got its counts
abbrev pub CountDone : Change → Change → Type 0
CountDone source sink = (counts : FileCounts) × CountsFile byte_limit source counts × Appends sink.bytes sink.bytes_after (counts_text counts)

-- why it got none, or not all of them
abbrev pub CountFails : Change → Change → Error → Type 0
CountFails source sink e =
    (Keeps sink.bytes sink.bytes_after × CountingFails byte_limit source e)
    ⊎ ((counts : FileCounts) × CountsFile byte_limit source counts × WriteFails sink.bytes sink.bytes_after sink.faults sink.faults_after (counts_text counts) e)

-- ---- what must be answered of a source whose bytes the contract knows, memory allowing

-- they are a file
abbrev pub CanBeCounted : Change → Type 0
CanBeCounted source = (bytes : List ℕ) × Tells source bytes × IsFile bytes
