use Rattle.std.proofs.Common.{◌≡◌, ℕ, map, take, All}
use Rattle.std.specs.Prelude.{sum_by}
use Rattle.arrow_builders.specs.Nodes.{IsEmpty, HasSpare}
use Rattle.arrow_builders.specs.MutableArrays.{builder_type}
use Rattle.arrow_builders.specs.Shapes.{shape}
use Rattle.arrow_builders.specs.Tight.{IsTight}
use Rattle.avro_decode.specs.Capacity.{AtNodes}
use Rattle.guide.proofs.reserved.count_rows.Given as goal

-- the builders are as they were given, and have no less spare capacity
abbrev pub invariant-loop-i : goal.invariant-loop-i
invariant-loop-i l = record {
  data_types : map builder_type l.builders ≡ map builder_type l.fn.builders;
  shapes : map shape l.builders ≡ map shape l.fn.builders;
  tight : All IsTight l.builders;
  empty : AtNodes IsEmpty l.builders;
  capacity : (n : ℕ) → AtNodes (HasSpare n) l.fn.builders → AtNodes (HasSpare n) l.builders;
  counted : l.rows ≡ sum_by (λ b. b.number_of_rows) (take l.i l.blocks);
}
