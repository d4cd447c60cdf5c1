use Rattle.json_infer.proofs.Rows.{rows_in_any_order}
use Rattle.json_infer.proofs.laws.rows_in_any_order.Goals as goal

pub returns : goal.returns
returns c = rows_in_any_order
