use Rattle.std.proofs.Common.{◌≡◌, ◌+◌, length, take}
use Rattle.std.specs.Prelude.{sum_by}
use Rattle.avro_schema.specs.ValidBlock.{small_limit}
use Rattle.avro_types.proofs.enums.symbols_fit.Given as goal

abbrev pub invariant-loop-i : goal.invariant-loop-i
invariant-loop-i l = record {
  left : sum_by length (take l.i l.symbols) + l.left ≡ small_limit;
}
