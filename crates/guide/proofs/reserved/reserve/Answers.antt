use Rattle.std.proofs.Common.{◌∙◌, suc, ◌<◌, List, [], ◌∷◌, length, All, arith}
use Rattle.std.specs.List.{AllZip}
use Rattle.std.proofs.Math.Seq.{map-set_same}
use Rattle.std.proofs.lemmas.List.Elements.{All-cons, All-set, AllWithin-more_set}
use Rattle.arrow_builders.specs.Nodes.{Node, IsEmpty, NoLessSpare, HasSpare}
use Rattle.arrow_builders.specs.MutableArrays.{builder_type, nodes}
use Rattle.arrow_builders.specs.Shapes.{shape}
use Rattle.arrow_builders.specs.Tight.{IsTight}
use Rattle.guide.proofs.reserved.reserve.Goals as goal

-- capacity alone leaves a node empty
still_empty : (xs ys : List Node) → AllZip NoLessSpare xs ys → All IsEmpty xs → All IsEmpty ys
still_empty [] [] r h = λ k d lt. absurd (omega (arith, lt))
still_empty [] (y ∷ ys) r h = absurd r
still_empty (x ∷ xs) [] r h = absurd r
still_empty (x ∷ xs) (y ∷ ys) r h =
    let e = h 0 x (omega arith) in
    All-cons IsEmpty y ys
    (record { slots = r.0.slots ∙ e.slots; bytes = r.0.bytes ∙ e.bytes })
    (still_empty xs ys r.1 (λ k d lt. h (suc k) d (omega (arith, lt))))

pub returns-in_err-reserve_for-clause-data_types : goal.returns-in_err-reserve_for-clause-data_types
returns-in_err-reserve_for-clause-data_types c =
    map-set_same builder_type _ _ _ c.index-builders-i.result c.reserve_for.ensures.data_type ∙ c.loop-i.invariant.data_types

pub returns-in_err-reserve_for-clause-shapes : goal.returns-in_err-reserve_for-clause-shapes
returns-in_err-reserve_for-clause-shapes c =
    map-set_same shape _ _ _ c.index-builders-i.result c.reserve_for.ensures.shape ∙ c.loop-i.invariant.shapes

pub returns-in_err-reserve_for-clause-tight : goal.returns-in_err-reserve_for-clause-tight
returns-in_err-reserve_for-clause-tight c =
    let tight = c.loop-i.invariant.tight in
    let lt : c.loop-i.i < length c.loop-i.builders = omega (arith, c.loop-i-test.true, c.loop-i.auto.builders) in
    All-set IsTight _ c.loop-i.i _ (c.reserve_for.ensures.tight (tight c.loop-i.i c.index-builders-i.result lt)) tight

pub returns-in_err-reserve_for-clause-empty : goal.returns-in_err-reserve_for-clause-empty
returns-in_err-reserve_for-clause-empty c =
    let empty = c.loop-i.invariant.empty in
    let lt : c.loop-i.i < length c.loop-i.builders = omega (arith, c.loop-i-test.true, c.loop-i.auto.builders) in
    All-set (λ b. All IsEmpty (nodes b)) _ c.loop-i.i _ (still_empty _ _ c.reserve_for.ensures.capacity (empty c.loop-i.i c.index-builders-i.result lt)) empty

pub loop-i-preserved : goal.loop-i-preserved
loop-i-preserved c =
    let inv = c.loop-i.invariant in
    let lt : c.loop-i.i < length c.loop-i.builders = omega (arith, c.loop-i-test.true, c.loop-i.auto.builders) in
    record {
      data_types = map-set_same builder_type _ _ _ c.index-builders-i.result c.reserve_for.ensures.data_type ∙ inv.data_types;
      shapes = map-set_same shape _ _ _ c.index-builders-i.result c.reserve_for.ensures.shape ∙ inv.shapes;
      tight = All-set IsTight _ c.loop-i.i _ (c.reserve_for.ensures.tight (inv.tight c.loop-i.i c.index-builders-i.result lt)) inv.tight;
      empty = All-set (λ b. All IsEmpty (nodes b)) _ c.loop-i.i _ (still_empty _ _ c.reserve_for.ensures.capacity (inv.empty c.loop-i.i c.index-builders-i.result lt)) inv.empty;
      has_capacity = AllWithin-more_set c.loop-i.builders c.loop-i.i _ lt (λ b. All (HasSpare c.args.bytes) (nodes b)) inv.has_capacity c.in_ok-reserve_for.ensures.ok;
    }
