-- The commands: what the program's status tells of one.
use Rattle.std.specs.Prelude.{◌≡◌, ◌⊎◌, ⊤, ℕ, List}
use Rattle.std.specs.Io.KnownBytes.{Appends, Keeps}
use Rattle.arrow_core.specs.declared.error.Error.{Error}
use Rattle.arrow_core.specs.declared.error.Error.TheVariants.{OutOfMemory}
use Rattle.arrow_core.specs.Errors.{status_of}
use Rattle.cli_words.specs.declared.command.Command.{Command}
use Rattle.cli_words.specs.declared.command.Command.TheVariants.{Help, Version, Count, Schema, Fields, Block, Ndjson, Make, Infer, Avro, Rewrite}
use Rattle.avrocat_commands.specs.Avro.{AvroDone, AvroFails, HasRows, AvroDue}
use Rattle.avrocat_commands.specs.Blocks.{BlockDone}
use Rattle.avro_container.specs.Changes.{Change}
use Rattle.avrocat_commands.specs.Count.{CountDone, CountFails, CanBeCounted}
use Rattle.avrocat_commands.specs.Fields.{FieldsDone, FieldsFails}
use Rattle.avrocat_commands.specs.Help.{help_text, version_text, BreaksOff}
use Rattle.avrocat_commands.specs.Input.{HasHeader}
use Rattle.avrocat_commands.specs.Infer.{InferDone, InferFails, HasType, InferDue}
use Rattle.avrocat_commands.specs.Make.{MakeDone, MakeFails}
use Rattle.avrocat_commands.specs.Ndjson.{NdjsonDone, NdjsonFails, HasLines, NdjsonDue}
use Rattle.avrocat_commands.specs.Note.{error_note, Notes}
use Rattle.avrocat_commands.specs.Refusals.{BlockCommandFails, BlockCanBeShown, BlockDue}
use Rattle.avrocat_commands.specs.Rewrite.{RewriteDone, RewriteFails, CanBeRewritten, RewriteDue}
use Rattle.avrocat_commands.specs.Schema.{SchemaDone, SchemaFails}
use Rattle.cli_words.specs.Stands.{Stands}

-- what status 0 tells: the command was done, from this source to this sink
abbrev pub Done : Command → Change → Change → Type 0
Done Help source sink = Keeps source.bytes source.bytes_after × Appends sink.bytes sink.bytes_after help_text
Done Version source sink = Keeps source.bytes source.bytes_after × Appends sink.bytes sink.bytes_after version_text
Done Count source sink = CountDone source sink
Done Schema source sink = SchemaDone source sink
Done Fields source sink = FieldsDone source sink
Done (Block block) source sink = BlockDone block source sink
Done (Ndjson numbers) source sink = NdjsonDone numbers source sink
Done (Make make) source sink = Keeps source.bytes source.bytes_after × MakeDone make sink
Done Infer source sink = InferDone source sink
Done (Avro avro) source sink = AvroDone avro source sink
Done (Rewrite rewrite) source sink = RewriteDone rewrite source sink

-- why the command fails by this error
abbrev pub Fails : Command → Change → Change → Error → Type 0
Fails Help source sink e = Keeps source.bytes source.bytes_after × BreaksOff help_text sink e
Fails Version source sink e = Keeps source.bytes source.bytes_after × BreaksOff version_text sink e
Fails Count source sink e = CountFails source sink e
Fails Schema source sink e = SchemaFails source sink e
Fails Fields source sink e = FieldsFails source sink e
Fails (Block block) source sink e = BlockCommandFails block source sink e
Fails (Ndjson numbers) source sink e = NdjsonFails numbers source sink e
Fails (Make make) source sink e = Keeps source.bytes source.bytes_after × MakeFails make sink e
Fails Infer source sink e = InferFails source sink e
Fails (Avro avro) source sink e = AvroFails avro source sink e
Fails (Rewrite rewrite) source sink e = RewriteFails rewrite source sink e

-- The command is done wherever there is memory and the sink doesn't fail: the source doesn't fail, and
-- tells what the command can be done on.
abbrev pub CanBeDone : Command → Change → Type 0
CanBeDone Help source = ⊤
CanBeDone Version source = ⊤
CanBeDone Count source = CanBeCounted source
CanBeDone Schema source = HasHeader source
CanBeDone Fields source = HasHeader source
CanBeDone (Block block) source = BlockCanBeShown block source
CanBeDone (Ndjson numbers) source = HasLines numbers source
CanBeDone (Make make) source = ⊤
CanBeDone Infer source = HasType source
CanBeDone (Avro avro) source = HasRows avro source
CanBeDone (Rewrite rewrite) source = CanBeRewritten source

-- The command fails by this error wherever there is memory: the source doesn't fail, and tells what
-- the error is due to (of `avro` the fields alone tell it).
abbrev pub Due : Command → Change → Error → Type 0
Due Help source e = ⊥
Due Version source e = ⊥
Due Count source e = ⊥
Due Schema source e = ⊥
Due Fields source e = ⊥
Due (Block block) source e = BlockDue block source e
Due (Ndjson numbers) source e = NdjsonDue numbers source e
Due (Make make) source e = ⊥
Due Infer source e = InferDue source e
Due (Avro avro) source e = AvroDue avro e
Due (Rewrite rewrite) source e = RewriteDue source e

-- the words stand for a command that fails by this error, or there is no memory for what they say
abbrev pub IsCause : List (List ℕ) → Change → Change → Error → Type 0
IsCause words source sink e =
    ((e ≡ OutOfMemory) × Keeps source.bytes source.bytes_after × Keeps sink.bytes sink.bytes_after)
    ⊎ ((command : Command) × Stands words command × Fails command source sink e)

-- the status is that of an error that has its cause, and the note names it
pub record Refused (status : ℕ) (words : List (List ℕ)) (source sink note : Change) : Type 0 where
  pub error : Error
  pub is : status ≡ status_of error
  pub cause : IsCause words source sink error
  pub noted : Notes note (error_note error)
