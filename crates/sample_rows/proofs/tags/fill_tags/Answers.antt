use Rattle.std.proofs.Common.{◌≡◌, ◌∙◌, arith}
use Rattle.sample_rows.proofs.Growing.{tags_done}
use Rattle.sample_rows.proofs.tags.fill_tags.Goals as goal

pub returns-clause-ok : goal.returns-clause-ok
returns-clause-ok c =
    let whole : c.loop.counter ≡ c.tag_count-end.result = omega (arith, c.loop-test.false, c.loop.auto.counter-end) in
    tags_done c.args.state c.loop.counter c.args.strings.now.slots c.loop.strings.slots (whole ∙ c.tag_count-end.ensures.count) c.loop.invariant.slots
