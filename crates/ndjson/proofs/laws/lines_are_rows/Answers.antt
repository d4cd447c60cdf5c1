use Rattle.ndjson.proofs.LineLaw.{lines_are_rows, slot_lines_are_rows}
use Rattle.ndjson.proofs.laws.lines_are_rows.Goals as goal

pub returns : goal.returns
returns c = record { rows = lines_are_rows; slots = slot_lines_are_rows }
