use Rattle.std.proofs.Common.{◌∙◌, ◌<◌, [], length, subst, sym, arith}
use Rattle.std.proofs.Math.Seq.{map-set_same}
use Rattle.std.proofs.lemmas.List.Elements.{All-append, All-cons, All-nil}
use Rattle.arrow_array.specs.Arrays.{array_type, array_slots, dictionaries_of}
use Rattle.arrow_builders.specs.Fits.{TypesFit}
use Rattle.arrow_builders.specs.MutableArrays.{builder_type, builder_slots, builder_dictionaries}
use Rattle.arrow_builders.specs.NormalizedArrays.{IsNormalized}
use Rattle.arrow_builders.specs.Shapes.{shape}
use Rattle.arrow_builders.specs.Tight.{IsTight}
use Rattle.avro_decode.proofs.Builders.{all_here, all_set}
use Rattle.avro_decode.proofs.Frozen.{emptied_more, emptied_all}
use Rattle.avro_decode.proofs.Wholes.{done_more}
use Rattle.avro_decode.proofs.blocks.freeze.Goals as goal

pub loop-i-preserved : goal.loop-i-preserved
loop-i-preserved c =
    let inv = c.loop-i.invariant in
    let boxed = c.in_ok-array.ensures in
    let pushed = c.in_ok-push.ensures.items in
    let lt : c.loop-i.i < length c.loop-i.builders = omega (arith, c.loop-i-test.true, c.loop-i.auto.builders) in
    let fits = all_here (λ b. TypesFit (shape b)) c.loop-i.builders c.loop-i.i c.index-builders-i.result lt inv.types_fit in
    let tight = all_here IsTight c.loop-i.builders c.loop-i.i c.index-builders-i.result lt inv.tight in
    record {
      shapes = map-set_same shape _ _ _ c.index-builders-i.result boxed.shape ∙ inv.shapes;
      emptied = emptied_more c.loop-i.builders c.loop-i.i _ inv.emptied boxed.emptied;
      tight = all_set IsTight c.loop-i.builders c.loop-i.i _ inv.tight boxed.tight;
      types_fit = all_set (λ b. TypesFit (shape b)) c.loop-i.builders c.loop-i.i _ inv.types_fit (subst TypesFit (sym boxed.shape) fits);
      data_types = rw pushed (done_more array_type builder_type _ c.loop-i.builders c.loop-i.i _ c.index-builders-i.result _ _ lt inv.data_types boxed.array_type);
      slots = rw pushed (done_more array_slots builder_slots _ c.loop-i.builders c.loop-i.i _ c.index-builders-i.result _ _ lt inv.slots boxed.array_slots);
      dictionaries = rw pushed (done_more dictionaries_of builder_dictionaries _ c.loop-i.builders c.loop-i.i _ c.index-builders-i.result _ _ lt inv.dictionaries boxed.dictionaries);
      normalized = rw pushed (All-append IsNormalized _ _ inv.normalized (All-cons IsNormalized _ [] (boxed.normalized tight) (All-nil IsNormalized)));
    }

pub returns-clause-emptied : goal.returns-clause-emptied
returns-clause-emptied c = emptied_all c.loop-i.builders c.loop-i.i (omega (arith, c.loop-i-test.false, c.loop-i.auto.builders)) c.loop-i.invariant.emptied
