-- What the program says of itself, as `help` and `version` ask for it. They read nothing.
use Rattle.std.specs.Prelude.{ℕ, List, ◌++◌, codes}
use Rattle.arrow_base.specs.Outside.{AppendsPrefix}
use Rattle.arrow_core.specs.declared.error.Error.{Error}
use Rattle.arrow_core.specs.declared.error.Error.TheVariants.{WriteFault}
use Rattle.avro_container.specs.Changes.{Change, Failed}
use Rattle.avrocat_commands.specs.declared.help.TheConstants.{HELP, VERSION}

-- what each command takes and gives
abbrev pub help_text : List ℕ
help_text = HELP.now

-- the program's name and version, and a line feed
abbrev pub version_text : List ℕ
version_text = (codes "avrocat " ++ VERSION.now) ++ codes "\n"

-- the sink failed after a prefix of the text; there is no other error
abbrev pub BreaksOff : List ℕ → Change → Error → Type 0
BreaksOff text sink WriteFault = AppendsPrefix sink.bytes sink.bytes_after text × Failed sink
BreaksOff text sink _ = ⊥
