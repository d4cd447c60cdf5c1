use Rattle.ndjson.proofs.ValueLemmas.{lines_column}
use Rattle.ndjson.proofs.columns.read_lines.Goals as goal

pub returns-in-Some : goal.returns-in-Some
returns-in-Some c = record { column = lines_column c.args.rows.now c.args.data_type.now c.read_structs.result c.read_structs.ensures.rows; dictionaries = c.read_structs.ensures.dictionaries }
