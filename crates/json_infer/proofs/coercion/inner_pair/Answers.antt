use Rattle.std.proofs.Common.{sym, arith}
use Rattle.json_infer.proofs.Sizes.{item_size}
use Rattle.json_infer.proofs.coercion.inner_pair.Goals as goal

pub returns-in-Some-item-clause-less : goal.returns-in-Some-item-clause-less
returns-in-Some-item-clause-less c = omega (arith, item_size c.args.one.now c.in-Some.one_item.now (sym c.in-Some.ensures), item_size c.args.other.now c.in-Some-item.other_item.now (sym c.in-Some-item.ensures))

pub returns-in-None-item-clause-less : goal.returns-in-None-item-clause-less
returns-in-None-item-clause-less c = omega (arith, item_size c.args.one.now c.in-Some.one_item.now (sym c.in-Some.ensures))

pub returns-in-Some-item-2-clause-less : goal.returns-in-Some-item-2-clause-less
returns-in-Some-item-2-clause-less c = omega (arith, item_size c.args.other.now c.in-Some-item-2.other_item.now (sym c.in-Some-item-2.ensures))
