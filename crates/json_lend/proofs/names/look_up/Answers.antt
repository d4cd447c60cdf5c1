use Rattle.json_lend.proofs.NameLaws.{looked-up}
use Rattle.json_lend.proofs.names.look_up.Goals as goal

pub returns-in-None : goal.returns-in-None
returns-in-None c = looked-up c.args.names.now c.min-from.result c.args.key.now c.scan-in-None.result c.in-None.ensures c.scan-in-None.ensures
