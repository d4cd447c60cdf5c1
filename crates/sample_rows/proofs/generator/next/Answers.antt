use Rattle.std.proofs.Common.{refl}
use Rattle.sample_rows.specs.Drawing.{next}
use Rattle.sample_rows.proofs.generator.next.Goals as goal

pub returns : goal.returns
unfolding next
returns c = refl
