use Rattle.json_dates.proofs.NextDay.{first_day}
use Rattle.json_dates.proofs.laws.day_0_is_the_first_of_1970.Goals as goal

pub returns : goal.returns
returns c = first_day
