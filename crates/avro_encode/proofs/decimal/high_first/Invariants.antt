use Rattle.std.proofs.Common.{◌≡◌, ◌-◌, ◌++◌, drop, length}
use Rattle.avro_encode.specs.Decimals.{high_first}
use Rattle.avro_encode.proofs.decimal.high_first.Given as goal

abbrev pub invariant-loop-done : goal.invariant-loop-done
invariant-loop-done l = record {
  size : length l.bytes ≡ 16;
  told : high_first (l.size - l.done) l.rest ++ drop (16 - l.done) l.bytes ≡ high_first l.size l.number;
}
