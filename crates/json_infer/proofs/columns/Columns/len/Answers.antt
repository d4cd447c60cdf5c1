use Rattle.std.proofs.Common.{ap, arith, length}
use Rattle.json_infer.proofs.Entries.{length_zip}
use Rattle.json_infer.proofs.columns.Columns.len.Goals as goal

pub returns : goal.returns
returns c = omega (arith, c.len.ensures, c.self.inside.types.ok.0, length_zip c.self.inside.names c.self.inside.types.items c.self.invariant, ap length c.self.view_is)
