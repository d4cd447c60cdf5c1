use Rattle.std.proofs.Common.{◌∙◌, ◌<◌, length, All, refl, arith}
use Rattle.std.proofs.Math.Seq.{map-set_same}
use Rattle.arrow_builders.specs.MutableArrays.{nodes}
use Rattle.arrow_builders.specs.Nodes.{IsEmpty}
use Rattle.arrow_builders.specs.Shapes.{shape}
use Rattle.arrow_builders.specs.Tight.{IsTight}
use Rattle.avro_decode.proofs.Builders.{all_here, all_set}
use Rattle.avro_decode.proofs.Capacity.{types_stay}
use Rattle.avro_decode.proofs.Reserved.{reserved_none, reserved_more}
use Rattle.avro_decode.proofs.reserve.reserve_rows.Goals as goal

pub loop-i-init : goal.loop-i-init
loop-i-init c = record {
  shapes = refl;
  tight = c.requires.tight;
  empty = c.requires.empty;
  nested = reserved_none c.args.builders.now;
}

pub loop-i-preserved : goal.loop-i-preserved
loop-i-preserved c =
    let inv = c.loop-i.invariant in
    let r = c.reserve_column.ensures in
    let bs = c.loop-i.builders in
    let b = c.index-builders-i.result in
    let lt : c.loop-i.i < length bs = omega (arith, c.loop-i-test.true, c.loop-i.auto.builders) in
    record {
      shapes = map-set_same shape _ _ _ b r.shape ∙ inv.shapes;
      tight = all_set IsTight bs c.loop-i.i _ inv.tight (r.tight (all_here IsTight bs c.loop-i.i b lt inv.tight));
      empty = all_set (λ x. All IsEmpty (nodes x)) bs c.loop-i.i _ inv.empty (r.empty (all_here (λ x. All IsEmpty (nodes x)) bs c.loop-i.i b lt inv.empty));
      nested = reserved_more _ bs c.loop-i.i b _ inv.nested r.nested;
    }

pub returns-clause-data_types : goal.returns-clause-data_types
returns-clause-data_types c = types_stay _ _ c.loop-i.invariant.shapes
