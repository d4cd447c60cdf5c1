use Rattle.ndjson.proofs.RowMeaning.{lines_read_back, row_values_mean_rows}
use Rattle.ndjson.proofs.laws.rows_read_back.Goals as goal

pub returns : goal.returns
returns c = record { values = row_values_mean_rows; lines = lines_read_back }
