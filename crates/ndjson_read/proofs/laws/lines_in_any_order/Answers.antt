use Rattle.json_infer.proofs.Rows.{rows_in_any_order}
use Rattle.ndjson_read.proofs.Values.{all_stand, same_members}
use Rattle.ndjson_read.proofs.laws.lines_in_any_order.Goals as goal

pub returns-clause-data_type : goal.returns-clause-data_type
returns-clause-data_type c rows others values more p q same = rows_in_any_order values more (same_members rows others values more p q same)

pub returns-clause-values : goal.returns-clause-values
returns-clause-values c rows others values p same = all_stand others rows values p (λ row h. (same row).1 h)
