use Rattle.std.proofs.Common.{◌≡◌, ◌≤◌, ◌+◌, ◌-◌, max, take, vec_len}
use Rattle.avro_container.specs.Taking.{state, Takes}
use Rattle.avro_container.proofs.parts.fill_buffer.Given as goal

abbrev pub invariant-loop-at : goal.invariant-loop-at
invariant-loop-at g l = record {
  takes : Takes (state (g.S.Source.left l.fn.source) (g.S.Source.faults l.fn.source) l.fn.allowed.limit l.fn.allowed.size_left) (state (g.S.Source.left l.source) (g.S.Source.faults l.source) l.allowed.limit l.allowed.size_left) (take l.at l.bytes.items);
  at : l.at ≤ vec_len l.bytes;
  within : vec_len l.bytes ≤ l.n;
  grown : vec_len l.bytes ≤ max (vec_len l.fn.bytes) (l.fn.allowed.limit - l.allowed.limit + 65536);
  same : g.S.Source.identity l.source ≡ g.S.Source.identity l.fn.source;
}

abbrev pub decreases-loop-at : goal.decreases-loop-at
decreases-loop-at g l = l.n - l.at
