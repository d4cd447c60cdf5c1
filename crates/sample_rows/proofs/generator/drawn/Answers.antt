use Rattle.std.proofs.Common.{refl}
use Rattle.sample_rows.specs.Drawing.{drawn}
use Rattle.sample_rows.proofs.generator.drawn.Goals as goal

pub returns : goal.returns
unfolding drawn
returns c = refl
