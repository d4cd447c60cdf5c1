use Rattle.json_dates.proofs.NextDay.{next_date}
use Rattle.json_dates.proofs.laws.the_next_day_has_the_next_date.Goals as goal

pub returns : goal.returns
returns c = next_date
