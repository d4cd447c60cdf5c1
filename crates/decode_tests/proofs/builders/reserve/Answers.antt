use Rattle.std.proofs.Common.{◌∙◌, ◌<◌, length, All, arith}
use Rattle.std.proofs.Math.Seq.{map-set_same}
use Rattle.arrow_builders.specs.MutableArrays.{builder_type, nodes}
use Rattle.arrow_builders.specs.Nodes.{IsEmpty}
use Rattle.arrow_builders.specs.Shapes.{shape}
use Rattle.arrow_builders.specs.Tight.{IsTight}
use Rattle.avro_decode.proofs.Builders.{all_here, all_set}
use Rattle.avro_decode.proofs.Reserved.{nodes_still_empty}
use Rattle.decode_tests.proofs.builders.reserve.Goals as goal

pub loop-i-preserved : goal.loop-i-preserved
loop-i-preserved g c =
    let inv = c.loop-i.invariant in
    let r = c.reserve_for.ensures in
    let bs = c.loop-i.builders in
    let b = c.index-builders-i.result in
    let lt : c.loop-i.i < length bs = omega (arith, c.loop-i-test.true, c.loop-i.auto.builders) in
    record {
      data_types = map-set_same builder_type _ _ _ b r.data_type ∙ inv.data_types;
      shapes = map-set_same shape _ _ _ b r.shape ∙ inv.shapes;
      tight = all_set IsTight bs c.loop-i.i _ inv.tight (r.tight (all_here IsTight bs c.loop-i.i b lt inv.tight));
      empty = all_set (λ x. All IsEmpty (nodes x)) bs c.loop-i.i _ inv.empty (nodes_still_empty _ _ r.capacity (all_here (λ x. All IsEmpty (nodes x)) bs c.loop-i.i b lt inv.empty));
    }
