use Rattle.std.proofs.Common.{◌≡◌, map, All}
use Rattle.arrow_builders.specs.Nodes.{IsEmpty}
use Rattle.arrow_builders.specs.MutableArrays.{builder_type}
use Rattle.arrow_builders.specs.Shapes.{shape}
use Rattle.arrow_builders.specs.Tight.{IsTight}
use Rattle.avro_decode.specs.Capacity.{AtNodes}
use Rattle.decode_tests.proofs.builders.reserve.Given as goal

abbrev pub invariant-loop-i : goal.invariant-loop-i
invariant-loop-i g l = record {
  data_types : map builder_type l.builders ≡ map builder_type l.fn.builders;
  shapes : map shape l.builders ≡ map shape l.fn.builders;
  tight : All IsTight l.builders;
  empty : AtNodes IsEmpty l.builders;
}
