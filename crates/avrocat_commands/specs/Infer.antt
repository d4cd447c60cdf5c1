-- What `infer` tells of JSON lines: the type of all of them.
use Rattle.std.specs.Prelude.{◌≡◌, ◌≢◌, ℕ, ◌<◌, List, ◌++◌, length, codes, Some, None, All, IsUtf8}
use Rattle.std.specs.Io.KnownBytes.{Appends, Keeps}
use Rattle.arrow_base.specs.Outside.{AppendsPrefix}
use Rattle.arrow_core.specs.declared.error.Error.{Error}
use Rattle.arrow_core.specs.declared.error.Error.TheVariants.{WriteFault, OutOfMemory}
use Rattle.arrow_core.specs.declared.types.DataType.{DataType}
use Rattle.json_tree.specs.declared.value.Value.{Value}
use Rattle.ndjson_read.specs.Lines.{lines, rows_of}
use Rattle.ndjson_read.specs.Inference.{Told, InfersType, NoType}
use Rattle.ndjson_read.specs.Needed.{StandFor}
use Rattle.json_infer.specs.Texts.{type_text}
use Rattle.avro_container.specs.Changes.{Change, Failed}
use Rattle.avrocat_commands.specs.Input.{byte_limit, Tells}

-- a source before the call, and after it
abbrev pub before : Change → Told
before source = record { left = source.bytes; faults = source.faults }

abbrev pub after : Change → Told
after source = record { left = source.bytes_after; faults = source.faults_after }

-- this is the type of all rows of the source
abbrev pub HasRowsOf : Change → DataType → Type 0
HasRowsOf source data_type = InfersType None byte_limit (before source) (after source) data_type

-- its text, and a line feed
abbrev pub type_line : DataType → List ℕ
type_line data_type = type_text data_type ++ codes "\n"

-- the sink got the type of all rows of the source
abbrev pub InferDone : Change → Change → Type 0
InferDone source sink = (data_type : DataType) × HasRowsOf source data_type × Appends sink.bytes sink.bytes_after (type_line data_type)

-- The source tells bytes, one at least and no more than the limit, and doesn't fail; its lines are UTF-8, and each row is a
-- JSON text in which at most 128 brackets are open at once.
abbrev pub HasType : Change → Type 0
HasType source = (bytes : List ℕ) × (values : List Value) × Tells source bytes × (0 < length bytes) × All IsUtf8 (lines bytes) × StandFor (rows_of bytes) values

-- why the sink got no type, or a prefix alone
abbrev pub InferFails : Change → Change → Error → Type 0
InferFails source sink WriteFault =
    (data_type : DataType) × HasRowsOf source data_type × AppendsPrefix sink.bytes sink.bytes_after (type_line data_type) × Failed sink
InferFails source sink OutOfMemory = Keeps sink.bytes sink.bytes_after
InferFails source sink e = Keeps sink.bytes sink.bytes_after × NoType None byte_limit (before source) (after source) e × (HasType source → ⊥)

-- a source that tells these bytes
abbrev pub telling : List ℕ → Told
telling bytes = record { left = Some bytes; faults = 0 }

-- The contract knows the source's bytes, and doesn't fail. A reading of these bytes, in which no read fails, ends by this error,
-- which isn't out of memory.
pub record InferDue (source : Change) (e : Error) : Type 0 where
  pub bytes : List ℕ
  pub rest : List ℕ
  pub told : source.bytes ≡ Some bytes
  pub steady : Failed source → ⊥
  pub ends : NoType None byte_limit (telling bytes) (telling rest) e
  pub other : e ≢ OutOfMemory
