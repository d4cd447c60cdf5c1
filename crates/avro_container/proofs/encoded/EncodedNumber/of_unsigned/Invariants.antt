use Rattle.std.proofs.Common.{◌≡◌, ◌≤◌, ◌-◌, ◌++◌, take, length}
use Rattle.avro_container.specs.Shortest.{groups}
use Rattle.avro_container.proofs.encoded.EncodedNumber.of_unsigned.Given as goal

abbrev pub invariant-loop-rest : goal.invariant-loop-rest
invariant-loop-rest l = record {
  within : l.len ≤ 9;
  size : length l.bytes ≡ 10;
  so_far : take l.len l.bytes ++ groups (9 - l.len) l.rest ≡ groups 9 l.fn.value;
}

abbrev pub decreases-loop-rest : goal.decreases-loop-rest
decreases-loop-rest l = 9 - l.len
