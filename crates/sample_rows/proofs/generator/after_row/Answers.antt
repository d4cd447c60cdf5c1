use Rattle.std.proofs.Common.{◌+◌, ◌∙◌, ap}
use Rattle.sample_rows.specs.Drawing.{after, after_row}
use Rattle.sample_rows.proofs.generator.after_row.Goals as goal

pub returns : goal.returns
unfolding after_row
returns c = c.after.ensures ∙ ap (λ n. after (n + 3) c.args.state) c.tag_count.ensures.count
