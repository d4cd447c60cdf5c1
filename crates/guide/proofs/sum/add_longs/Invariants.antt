use Rattle.std.proofs.Common.{◌≡◌, take}
use Rattle.guide.specs.Sum.{added}
use Rattle.guide.proofs.sum.add_longs.Given as goal

-- the longs of the first i slots are added
abbrev pub invariant-loop-i : goal.invariant-loop-i
invariant-loop-i l = l.sum ≡ added l.fn.sum (take l.i l.longs.slots)
