use Rattle.json_dates.proofs.Calendar.{has_day}
use Rattle.json_dates.proofs.laws.each_date_has_a_day.Goals as goal

pub returns : goal.returns
returns c = has_day
