-- No point stands among the bytes so far.
use Rattle.std.proofs.Common.{◌≡◌, drop}
use Rattle.json_tree.specs.Tree.{has_point}
use Rattle.ndjson_read.proofs.comparison.has_point.Given as goal

abbrev pub invariant-loop-byte : goal.invariant-loop-byte
invariant-loop-byte l = has_point (drop l.byte-index l.byte-items) ≡ has_point l.mantissa
