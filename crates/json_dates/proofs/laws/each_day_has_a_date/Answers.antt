use Rattle.json_dates.proofs.Calendar.{has_date}
use Rattle.json_dates.proofs.laws.each_day_has_a_date.Goals as goal

pub returns : goal.returns
returns c = has_date
