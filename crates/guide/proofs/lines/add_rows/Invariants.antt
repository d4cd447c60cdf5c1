use Rattle.std.proofs.Common.{◌≡◌, take}
use Rattle.guide.specs.LineSum.{added}
use Rattle.guide.proofs.lines.add_rows.Given as goal

-- the integers of the first i rows are added
abbrev pub invariant-loop-i : goal.invariant-loop-i
invariant-loop-i l = l.sum ≡ added l.place l.fn.sum (take l.i l.rows.slots)
