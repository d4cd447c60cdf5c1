use Rattle.ndjson.proofs.RowLaw.{rows_are_json, rows_are_shallow}
use Rattle.ndjson.proofs.laws.row_texts.Goals as goal

pub returns : goal.returns
returns c = record { json = rows_are_json; shallow = rows_are_shallow }
