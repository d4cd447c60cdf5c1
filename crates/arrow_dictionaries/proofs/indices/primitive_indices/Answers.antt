use Rattle.std.proofs.Common.{arith}
use Rattle.arrow_dictionaries.proofs.Steps.{begin, more, whole}
use Rattle.arrow_dictionaries.proofs.indices.primitive_indices.Goals as goal

pub loop-i-init : goal.loop-i-init
loop-i-init g c = begin g.T.NativeType.native_slot c.args.array.now.slots _ _ c.in_ok-indices.ensures.items c.requires.empty

pub loop-i-preserved : goal.loop-i-preserved
loop-i-preserved g c =
    more c.args.array.now.slots c.loop-i.i _ _ _ _ _ (omega (arith, c.loop-i-test.true, c.len-len.ensures)) c.in_ok-push.ensures.items c.loop-i.invariant c.in_ok-index.ensures.step

pub returns-clause-indices : goal.returns-clause-indices
returns-clause-indices g c = whole c.args.array.now.slots _ _ c.loop-i.i (omega (arith, c.loop-i-test.false, c.len-len.ensures)) c.loop-i.invariant
