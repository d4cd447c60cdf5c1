-- What `make START ROWS` tells of the rows that it draws. It reads nothing.
use Rattle.std.specs.Io.KnownBytes.{Appends, Keeps}
use Rattle.arrow_base.specs.Outside.{AppendsPrefix}
use Rattle.arrow_core.specs.declared.error.Error.{Error}
use Rattle.arrow_core.specs.declared.error.Error.TheVariants.{WriteFault, OutOfMemory}
use Rattle.avro_container.specs.Changes.{Change, Failed}
use Rattle.cli_words.specs.declared.command.MakeWords.{MakeWords}
use Rattle.sample_rows.specs.Made.{made_lines}

-- the sink got the lines of the rows
abbrev pub MakeDone : MakeWords → Change → Type 0
MakeDone make sink = Appends sink.bytes sink.bytes_after (made_lines make.start make.rows)

-- why it got none, or not all: there is no memory, or it failed after a prefix of them
abbrev pub MakeFails : MakeWords → Change → Error → Type 0
MakeFails make sink OutOfMemory = Keeps sink.bytes sink.bytes_after
MakeFails make sink WriteFault = AppendsPrefix sink.bytes sink.bytes_after (made_lines make.start make.rows) × Failed sink
MakeFails make sink _ = ⊥
