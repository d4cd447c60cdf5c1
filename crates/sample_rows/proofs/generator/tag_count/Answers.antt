use Rattle.std.proofs.Common.{◌%◌, ◌∙◌, ap}
use Rattle.sample_rows.specs.Drawing.{drawn, tag_count}
use Rattle.sample_rows.proofs.generator.tag_count.Goals as goal

pub returns-clause-count : goal.returns-clause-count
unfolding tag_count
returns-clause-count c = ap (λ n. n % 3) (c.drawn.ensures ∙ ap drawn c.after.ensures)
