use Rattle.std.proofs.Common.{List}
use Rattle.json_tree.specs.declared.value.Value.{Value}
use Rattle.json_infer.specs.RowsSeen.{StandsFor}
use Rattle.ndjson_read.specs.Needed.{StandFor}
use Rattle.ndjson_read.specs.GivenRows.{texts_of}
use Rattle.ndjson_read.proofs.rows.add_texts.Given as goal

abbrev pub invariant-loop-row : goal.invariant-loop-row
invariant-loop-row g l = (values : List Value) × StandFor (texts_of l.yielded) values × StandsFor l.types values
