use Rattle.std.proofs.Common.{◌≡◌, map, All}
use Rattle.std.specs.List.{AllWithin}
use Rattle.arrow_builders.specs.Nodes.{IsEmpty}
use Rattle.arrow_builders.specs.MutableArrays.{builder_type, nodes}
use Rattle.arrow_builders.specs.Shapes.{shape}
use Rattle.arrow_builders.specs.Tight.{IsTight}
use Rattle.decode_tests.proofs.builders.clear.Given as goal

-- the first i builders are tight and empty
abbrev pub invariant-loop-i : goal.invariant-loop-i
invariant-loop-i l = record {
  data_types : map builder_type l.builders ≡ map builder_type l.fn.builders;
  shapes : map shape l.builders ≡ map shape l.fn.builders;
  tight : AllWithin IsTight l.builders 0 l.i;
  empty : AllWithin (λ b. All IsEmpty (nodes b)) l.builders 0 l.i;
}
