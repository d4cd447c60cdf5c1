-- The run of all slots.
use Rattle.std.proofs.Common.{◌∙◌}
use Rattle.arrow_array.specs.Arrays.{array_type, array_slots}
use Rattle.json_text.specs.Refusals.{in_range}
use Rattle.json_text.proofs.Runs.{whole_run}
use Rattle.json_text.proofs.checks.all_in_range.Goals as goal

pub returns : goal.returns
returns c = rw c.len.ensures at c.dates_in_range.ensures ∙ whole_run (in_range (array_type c.args.array.now)) (array_slots c.args.array.now)
