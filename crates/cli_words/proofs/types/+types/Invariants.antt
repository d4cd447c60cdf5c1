-- How deep the types are that may still stand in this one; the fields so far and those of the rest are all of them.
use Rattle.std.proofs.Common.{◌+◌, ◌*◌, List, ◌++◌, length}
use denote.Text.{Utf8}
use denote.Shadow.{shadow}
use Rattle.avro_schema.specs.declared.schema.AvroField.{AvroField}
use Rattle.cli_words.specs.Types.{AreNamed, IsType}
use Rattle.cli_words.proofs.types.+types.Given as goal

abbrev pub decreases-read_type : goal.decreases-read_type
decreases-read_type l = 5 * l.depth

abbrev pub decreases-read_named : goal.decreases-read_named
decreases-read_named l = 5 * l.depth + 1

abbrev pub decreases-read_named_fields : goal.decreases-read_named_fields
decreases-read_named_fields l = 5 * l.depth + 2

abbrev pub decreases-read_fields : goal.decreases-read_fields
decreases-read_fields l = 5 * l.depth + 3

abbrev pub decreases-read_base : goal.decreases-read_base
decreases-read_base l = 5 * l.depth + 4

abbrev pub invariant-read_named_fields-loop-field : goal.invariant-read_named_fields-loop-field
invariant-read_named_fields-loop-field l =
    record {
      utf8 : shadow (Utf8 l.rest);
      sound : (more : List AvroField) → AreNamed (IsType l.depth) l.rest more → AreNamed (IsType l.depth) l.fields (l.read.items ++ more);
      complete : (all : List AvroField) → AreNamed (IsType l.depth) l.fields all → (more : List AvroField) × AreNamed (IsType l.depth) l.rest more;
    }

abbrev pub decreases-read_named_fields-loop-field : goal.decreases-read_named_fields-loop-field
decreases-read_named_fields-loop-field l = length l.rest
