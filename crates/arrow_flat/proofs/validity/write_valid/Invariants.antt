use Rattle.std.proofs.Common.{◌≡◌, ◌+◌, ◌++◌, true, replicate}
use Rattle.arrow_flat.proofs.validity.write_valid.Given as goal

abbrev pub invariant-loop : goal.invariant-loop
invariant-loop l = record {
  items : l.bits.items ≡ l.fn.bits.items ++ replicate l.counter true;
  capacity : l.bits.spare + l.counter ≡ l.fn.bits.spare;
}
