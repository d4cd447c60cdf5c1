use Rattle.std.proofs.Common.{arith}
use Rattle.std.proofs.lemmas.Int.{ints}
use Rattle.sample_rows.proofs.columns.id_of.Goals as goal

pub returns : goal.returns
returns c = omega (arith, ints, c.requires)
