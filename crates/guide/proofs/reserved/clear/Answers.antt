use Rattle.std.proofs.Common.{◌∙◌, ℕ, zero, suc, ◌<◌, ◌≤◌, List, [], ◌∷◌, length, get_or, set, refl, subst, add-one, arith}
use Rattle.std.specs.List.{AllZip}
use Rattle.std.proofs.Math.Seq.{map-set_same}
use Rattle.arrow_builders.specs.declared.array.MutableArray.{MutableArray}
use Rattle.arrow_builders.specs.Nodes.{Emptied}
use Rattle.arrow_builders.specs.Shapes.{shape}
use Rattle.arrow_builders.specs.Tight.{IsTight}
use Rattle.std.proofs.lemmas.List.Elements.{AllWithin-more_set}
use Rattle.arrow_builders.specs.MutableArrays.{builder_type, nodes}
use Rattle.avro_decode.specs.Capacity.{BetweenNodes}
use Rattle.guide.proofs.reserved.clear.Invariants.{EmptiedSoFar}
use Rattle.guide.proofs.reserved.clear.Goals as goal

none_emptied : (bs : List MutableArray) → EmptiedSoFar zero bs bs
none_emptied [] = tt
none_emptied (b ∷ bs) = (refl, none_emptied bs)

one_more : (n : ℕ) (bs cs : List MutableArray) (d x : MutableArray) → n < length cs → AllZip Emptied (nodes (get_or cs n d)) (nodes x) → EmptiedSoFar n bs cs → EmptiedSoFar (suc n) bs (set cs n x)
one_more n bs [] d x lt e h = absurd (omega (arith, lt))
one_more zero [] (c ∷ cs) d x lt e h = absurd h
one_more (suc n) [] (c ∷ cs) d x lt e h = absurd h
one_more zero (b ∷ bs) (c ∷ cs) d x lt e h = (subst (λ (a : MutableArray). AllZip Emptied (nodes a) (nodes x)) h.0 e, h.1)
one_more (suc n) (b ∷ bs) (c ∷ cs) d x lt e h = (h.0, one_more n bs cs d x (omega (arith, lt)) e h.1)

all_emptied : (n : ℕ) (bs cs : List MutableArray) → length cs ≤ n → EmptiedSoFar n bs cs → BetweenNodes Emptied bs cs
all_emptied n [] [] le h = tt
all_emptied zero [] (c ∷ cs) le h = absurd h
all_emptied (suc n) [] (c ∷ cs) le h = absurd h
all_emptied zero (b ∷ bs) [] le h = absurd h
all_emptied (suc n) (b ∷ bs) [] le h = absurd h
all_emptied zero (b ∷ bs) (c ∷ cs) le h = absurd (omega (arith, le))
all_emptied (suc n) (b ∷ bs) (c ∷ cs) le h = (h.0, all_emptied n bs cs (omega (arith, le)) h.1)

pub loop-i-init : goal.loop-i-init
loop-i-init c = record { data_types = refl; shapes = refl; tight = λ k d lo hi. absurd (omega (arith, lo, hi)); capacity = none_emptied _ }

pub loop-i-preserved : goal.loop-i-preserved
loop-i-preserved c =
    let inv = c.loop-i.invariant in
    record {
      data_types = map-set_same builder_type _ _ _ c.index-builders-i.result c.clear.ensures.data_type ∙ inv.data_types;
      shapes = map-set_same shape _ _ _ c.index-builders-i.result c.clear.ensures.shape ∙ inv.shapes;
      tight = AllWithin-more_set c.loop-i.builders c.loop-i.i _ (omega (arith, c.loop-i-test.true, c.loop-i.auto.builders)) IsTight inv.tight c.clear.ensures.tight;
      capacity = rw (add-one c.loop-i.i) (one_more c.loop-i.i _ c.loop-i.builders c.index-builders-i.result _ (omega (arith, c.loop-i-test.true, c.loop-i.auto.builders)) c.clear.ensures.capacity inv.capacity);
    }

pub returns-clause-capacity : goal.returns-clause-capacity
returns-clause-capacity c = all_emptied c.loop-i.i _ c.loop-i.builders (omega (arith, c.loop-i-test.false, c.loop-i.auto.builders)) c.loop-i.invariant.capacity
