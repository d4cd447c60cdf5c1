use Rattle.std.proofs.Common.{◌≡◌, ◌<◌, ◌-◌, ℕ, List}
use Rattle.avro_container.specs.Taking.{state, Takes}
use Rattle.avro_container.proofs.Numbers.{Underway}
use Rattle.avro_container.proofs.parts.number.Given as goal

abbrev pub invariant-loop-byte : goal.invariant-loop-byte
invariant-loop-byte g l = record {
  taken : List ℕ;
  takes : Takes (state (g.S.Source.left l.fn.source) (g.S.Source.faults l.fn.source) l.fn.allowed.limit l.fn.allowed.size_left) (state (g.S.Source.left l.source) (g.S.Source.faults l.source) l.allowed.limit l.allowed.size_left) taken;
  underway : Underway taken l.unsigned l.index;
  below : l.index < 10;
  same : g.S.Source.identity l.source ≡ g.S.Source.identity l.fn.source;
}

abbrev pub decreases-loop-byte : goal.decreases-loop-byte
decreases-loop-byte g l = 10 - l.index
