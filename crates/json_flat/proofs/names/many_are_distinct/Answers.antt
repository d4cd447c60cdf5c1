use Rattle.std.proofs.Common.{◌∙◌, sym}
use Rattle.json_flat.proofs.DistinctNames.{more, twice}
use Rattle.json_flat.proofs.names.many_are_distinct.Goals as goal

pub returns-then-is_some-clause-ok : goal.returns-then-is_some-clause-ok
returns-then-is_some-clause-ok c =
    twice c.loop-first.seen c.loop-first.rest.now c.in-Some.others.now c.args.fields.now c.in-Some.first.now c.as_str-name.result c.index_of.result c.loop-first.invariant c.in-Some.ensures.cases.0 c.as_str-name.ensures c.index_of.ensures (sym c.is_some.ensures ∙ c.if-is_some.true)

pub loop-first-preserved : goal.loop-first-preserved
loop-first-preserved c =
    more c.loop-first.seen c.loop-first.rest.now c.in-Some.others.now c.args.fields.now c.in-Some.first.now c.as_str-name.result c.index_of.result c.loop-first.invariant c.in-Some.ensures.cases.0 c.as_str-name.ensures c.index_of.ensures c.push.new.self (sym c.is_some.ensures ∙ c.if-is_some.false) c.in_ok-push.ensures.pushed
