-- Why a block is refused: each error has its one cause, and out of memory may come at any time.
use Rattle.std.specs.Prelude.{◌≡◌, ℕ, ◌<◌, ◌≤◌, None, List, [], length}
use Rattle.std.specs.Io.KnownBytes.{Keeps}
use Rattle.arrow_base.specs.Outside.{AppendsPrefix}
use Rattle.arrow_core.specs.declared.error.Error.{Error}
use Rattle.arrow_core.specs.declared.error.Error.TheVariants.{NotYetImplemented, ExternalFormat, OutOfSpec, Overflow, LimitExceeded, ReadFault, WriteFault, OutOfMemory}
use Rattle.arrow_core.specs.declared.error.Reason.TheVariants.{NoField, NotCarried, Float, Rows, BlockBytes, NegativeSize}
use Rattle.arrow_core.specs.declared.slot.Slot.{Slot}
use Rattle.avro_schema.specs.Carried.{CarriedList}
use Rattle.avro_schema.specs.NegativeSize.{NegativeSize as StatesNegativeSize}
use Rattle.avro_schema.specs.Rows.{Rows as AreRows}
use Rattle.avro_schema.specs.ValidBlock.{KeepNoFloat, KeptEnumsFit}
use Rattle.avro_schema.specs.Refusals.{AreCarried}
use Rattle.cli_words.specs.declared.command.BlockWords.{BlockWords}
use Rattle.avrocat_commands.specs.Blocks.{IsValid, ShowsColumns}
use Rattle.avro_container.specs.Changes.{Change, Failed}
use Rattle.avrocat_commands.specs.Input.{PassesLimit, TakesAll, TakesSome, Tells, TellsTooMany}

-- there is a field, all are carried, the kept ones hold no float, and a dictionary can hold the symbols of each of their
-- enums
abbrev pub CanBeRead : BlockWords → Type 0
CanBeRead block = AreCarried block.avro_fields × KeepNoFloat block.avro_fields block.projection × KeptEnumsFit block.avro_fields block.projection

-- what is wrong with a block of these bytes; where nothing is, they are valid
abbrev pub IsWrong : BlockWords → List ℕ → Error → Type 0
IsWrong block bytes (NotYetImplemented NoField) = block.avro_fields ≡ []
IsWrong block bytes (NotYetImplemented NotCarried) = (0 < length block.avro_fields) × (CarriedList block.avro_fields → ⊥)
IsWrong block bytes (NotYetImplemented Float) = AreCarried block.avro_fields × (KeepNoFloat block.avro_fields block.projection → ⊥)
IsWrong block bytes Overflow = AreCarried block.avro_fields × KeepNoFloat block.avro_fields block.projection × (KeptEnumsFit block.avro_fields block.projection → ⊥)
IsWrong block bytes (ExternalFormat Rows) = CanBeRead block × (length bytes < block.rows)
IsWrong block bytes (ExternalFormat BlockBytes) =
    CanBeRead block × (block.rows ≤ length bytes) × ((table : List (List Slot)) → AreRows block.rows block.avro_fields block.projection bytes table → ⊥) × (StatesNegativeSize block.rows block.avro_fields block.projection bytes → ⊥)
IsWrong block bytes (OutOfSpec NegativeSize) =
    CanBeRead block × (block.rows ≤ length bytes) × StatesNegativeSize block.rows block.avro_fields block.projection bytes
IsWrong block bytes _ = ⊥

-- the source was read whole, and the sink failed after a prefix of what the block shows
pub record BlockCommandBreaksOff (block : BlockWords) (source sink : Change) : Type 0 where
  pub bytes : List ℕ
  pub text : List ℕ
  pub read : TakesAll source.bytes source.bytes_after bytes
  pub shows : ShowsColumns block bytes text
  pub prefix : AppendsPrefix sink.bytes sink.bytes_after text
  pub failed : Failed sink

-- why nothing is written: the source failed or has too many bytes, or what was read is wrong
abbrev pub BlockCannotBeShown : BlockWords → Change → Error → Type 0
BlockCannotBeShown block source (ReadFault None) = Failed source × TakesSome source.bytes source.bytes_after
BlockCannotBeShown block source LimitExceeded = PassesLimit source.bytes source.bytes_after
BlockCannotBeShown block source OutOfMemory = TakesSome source.bytes source.bytes_after
BlockCannotBeShown block source e = (bytes : List ℕ) × TakesAll source.bytes source.bytes_after bytes × IsWrong block bytes e

-- why a block fails; only a failing sink has taken any byte
abbrev pub BlockCommandFails : BlockWords → Change → Change → Error → Type 0
BlockCommandFails block source sink WriteFault = BlockCommandBreaksOff block source sink
BlockCommandFails block source sink e = Keeps sink.bytes sink.bytes_after × BlockCannotBeShown block source e

-- ---- what must be answered of a source whose bytes the contract knows, memory allowing

-- it can be shown
abbrev pub BlockCanBeShown : BlockWords → Change → Type 0
BlockCanBeShown block source = (bytes : List ℕ) × Tells source bytes × IsValid block bytes

-- it has too many bytes, or they are wrong
abbrev pub BlockDue : BlockWords → Change → Error → Type 0
BlockDue block source LimitExceeded = TellsTooMany source
BlockDue block source e = (bytes : List ℕ) × Tells source bytes × IsWrong block bytes e
