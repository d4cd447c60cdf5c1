use Rattle.std.proofs.Common.{◌≡◌, map, All}
use Rattle.std.specs.List.{AllWithin}
use Rattle.arrow_builders.specs.Nodes.{IsEmpty, HasSpare}
use Rattle.arrow_builders.specs.MutableArrays.{builder_type, nodes}
use Rattle.arrow_builders.specs.Shapes.{shape}
use Rattle.arrow_builders.specs.Tight.{IsTight}
use Rattle.avro_decode.specs.Capacity.{AtNodes}
use Rattle.guide.proofs.reserved.reserve.Given as goal

abbrev pub invariant-loop-i : goal.invariant-loop-i
invariant-loop-i l = record {
  data_types : map builder_type l.builders ≡ map builder_type l.fn.builders;
  shapes : map shape l.builders ≡ map shape l.fn.builders;
  tight : All IsTight l.builders;
  empty : AtNodes IsEmpty l.builders;
  has_capacity : AllWithin (λ b. All (HasSpare l.bytes) (nodes b)) l.builders 0 l.i;
}
