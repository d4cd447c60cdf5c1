-- What is kept of types of which Null adds nothing. Contracts of private functions, here and in `ndjson_read`, alone cite this
-- file: nobody has to read it to believe a public contract.
use Rattle.std.specs.Prelude.{if◌then◌else◌}
use Rattle.arrow_core.specs.declared.types.DataType.{DataType}
use Rattle.arrow_core.specs.declared.types.DataType as data_type
use Rattle.json_infer.specs.declared.seen.Seen.{Seen}
use Rattle.json_infer.specs.Parts.{same}
use Rattle.json_infer.specs.Seen.{more}

-- after one more type, of which Null adds nothing
abbrev pub more_kept : Seen → DataType → Seen
more_kept s t = if same t data_type.Null then s else more s t
