use Rattle.std.proofs.Common.{◌≡◌}
use Rattle.sample_rows.specs.Drawing.{after}
use Rattle.sample_rows.proofs.generator.after.Given as goal

abbrev pub invariant-loop : goal.invariant-loop
invariant-loop l = l.last ≡ after l.counter l.state
