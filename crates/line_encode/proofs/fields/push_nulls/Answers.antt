use Rattle.std.proofs.Common.{arith}
use Rattle.line_encode.proofs.FieldLaws.{fills_end, fills_more, fills_none}
use Rattle.line_encode.proofs.fields.push_nulls.Goals as goal

pub loop-k-init : goal.loop-k-init
loop-k-init c = (c.requires.order, fills_none c.args.plans.now c.args.from c.args.out.now.items)

pub loop-k-preserved : goal.loop-k-preserved
loop-k-preserved c =
    let k = c.loop-k.k in
    let lt = c.loop-k-test.true in (
      omega (arith, lt),
      fills_more c.args.plans.now c.args.from k c.index-plans-k.result c.is_nullable.result c.args.out.now.items c.loop-k.out.items c.push_null.new.out.items (omega (arith, lt, c.requires.within)) c.index-plans-k.is c.is_nullable.ensures c.in_ok-push_null.ensures.nullable c.in_ok-push_null.ensures.ok c.loop-k.invariant.1,
    )

pub returns : goal.returns
returns c = fills_end c.args.plans.now c.args.from c.loop-k.k c.args.to c.args.out.now.items c.loop-k.out.items c.loop-k.invariant.0 c.loop-k-test.false c.loop-k.invariant.1
