-- The top bit is set on each byte so far.
use Rattle.std.proofs.Common.{take}
use Rattle.avro_verbatim.proofs.Numbers.{AreHigh}
use Rattle.avro_verbatim.proofs.parts.skip_groups.Given as goal

abbrev pub invariant-loop-last : goal.invariant-loop-last
invariant-loop-last l = AreHigh (take l.last l.bytes)
