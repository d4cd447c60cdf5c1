use Rattle.std.proofs.Common.{◌≡◌, map, All}
use Rattle.std.specs.List.{AllZip}
use Rattle.arrow_builders.specs.Nodes.{IsEmpty}
use Rattle.arrow_builders.specs.Shapes.{shape}
use Rattle.arrow_builders.specs.Tight.{IsTight}
use Rattle.avro_decode.specs.Capacity.{AtNodes, IsReserved}
use Rattle.avro_decode.proofs.reserve.reserve_rows.Given as goal

abbrev pub invariant-loop-i : goal.invariant-loop-i
invariant-loop-i l = record {
  shapes : map shape l.builders ≡ map shape l.fn.builders;
  tight : All IsTight l.builders;
  empty : AtNodes IsEmpty l.builders;
  nested : AllZip IsReserved l.fn.builders l.builders;
}
