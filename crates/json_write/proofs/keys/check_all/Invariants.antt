-- Each array before this one has a JSON text.
use Rattle.std.proofs.Common.{◌≡◌, take, None}
use Rattle.json_write.specs.Rows.{first_refusal}
use Rattle.json_write.proofs.keys.check_all.Given as goal

abbrev pub invariant-loop-k : goal.invariant-loop-k
invariant-loop-k l = first_refusal (take l.k l.arrays) ≡ None
