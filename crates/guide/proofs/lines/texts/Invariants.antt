use Rattle.std.proofs.Common.{◌≡◌, vec_len}
use Rattle.guide.proofs.lines.texts.Given as goal

-- one text for each turn
abbrev pub invariant-loop : goal.invariant-loop
invariant-loop l = vec_len l.texts ≡ l.counter
