-- The first texts have values.
use Rattle.std.proofs.Common.{take}
use Rattle.std.specs.List.{AllZip}
use Rattle.json_tree.specs.Meaning.{IsJson}
use Rattle.ndjson_avro.proofs.rows.parse_rows.Given as goal

abbrev pub invariant-loop-row : goal.invariant-loop-row
invariant-loop-row l = AllZip IsJson l.values.items (take l.row-index l.rows)
