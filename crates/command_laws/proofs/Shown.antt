-- A file that `avro` wrote is one of lines, as `lines_and_back` of `arrow_convert` has it.
use Rattle.std.proofs.Common.{ℕ, List, refl}
use Rattle.arrow_convert.specs.ReadAgain.{IsFileOfLines}
use Rattle.arrow_convert.proofs.LinesBack.{lines_come_back, lines_do_not_fail}
use Rattle.arrow_convert.proofs.LinesWritable.{shallow_records_are_writable}
use Rattle.cli_words.specs.declared.command.AvroWords.{AvroWords}
use Rattle.avrocat_commands.specs.Input.{byte_limit}
use Rattle.command_laws.specs.Written.{CanBeRead, IsWritten, LinesAreShown, LinesDoNotFail, columns_of, written_rows}

module _ (avro : AvroWords) (bytes : List ℕ) (w : IsWritten avro bytes) (can : CanBeRead w) where
  abbrev of_lines : IsFileOfLines (columns_of w) bytes (written_rows w) w.done.1
  of_lines =
      let converts = w.done.3 in
      record {
        name = avro.name;
        marker = avro.marker;
        rows_per_block = avro.rows_per_block;
        limit = byte_limit;
        source = w.source;
        sink = w.sink;
        converts = converts;
        got = w.got;
        can_be_read = record { writable = shallow_records_are_writable (columns_of w) avro.name converts.target converts.has can.named can.names can.shallow; sixteen = can.sixteen; few = can.few };
        rows_are = refl;
      }

pub lines_are_shown : LinesAreShown
lines_are_shown avro bytes w can source sink told done = (lines_come_back (columns_of w) bytes (written_rows w) w.done.1 done.0 byte_limit source sink (of_lines avro bytes w can) told done.1).1

pub shown_do_not_fail : LinesDoNotFail
shown_do_not_fail avro bytes w can have short source sink e tells fails =
    lines_do_not_fail (columns_of w) bytes (written_rows w) w.done.1 byte_limit source sink e (of_lines avro bytes w can) have short tells fails
