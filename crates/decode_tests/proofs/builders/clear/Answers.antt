use Rattle.std.proofs.Common.{◌∙◌, ◌<◌, length, refl, All, arith}
use Rattle.std.proofs.Math.Seq.{map-set_same}
use Rattle.std.proofs.lemmas.List.Elements.{AllWithin-more_set}
use Rattle.arrow_builders.specs.MutableArrays.{builder_type, nodes}
use Rattle.arrow_builders.specs.Nodes.{IsEmpty}
use Rattle.arrow_builders.specs.Shapes.{shape}
use Rattle.arrow_builders.specs.Tight.{IsTight}
use Rattle.arrow_builders.proofs.TightLaws.{emptied}
use Rattle.decode_tests.proofs.builders.clear.Goals as goal

pub loop-i-init : goal.loop-i-init
loop-i-init c = record {
  data_types = refl;
  shapes = refl;
  tight = λ k d lo hi. absurd (omega (arith, lo, hi));
  empty = λ k d lo hi. absurd (omega (arith, lo, hi));
}

pub loop-i-preserved : goal.loop-i-preserved
loop-i-preserved c =
    let inv = c.loop-i.invariant in
    let r = c.clear.ensures in
    let bs = c.loop-i.builders in
    let b = c.index-builders-i.result in
    let lt : c.loop-i.i < length bs = omega (arith, c.loop-i-test.true, c.loop-i.auto.builders) in
    record {
      data_types = map-set_same builder_type _ _ _ b r.data_type ∙ inv.data_types;
      shapes = map-set_same shape _ _ _ b r.shape ∙ inv.shapes;
      tight = AllWithin-more_set bs c.loop-i.i _ lt IsTight inv.tight r.tight;
      empty = AllWithin-more_set bs c.loop-i.i _ lt (λ x. All IsEmpty (nodes x)) inv.empty (emptied _ _ r.capacity);
    }
