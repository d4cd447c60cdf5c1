use Rattle.json_line.proofs.Meanings.{bool-boolean, no-boolean}
use Rattle.json_line.proofs.plain.boolean_of.Goals as goal

pub returns-in-Bool : goal.returns-in-Bool
returns-in-Bool c = rw c.in-Bool.is (bool-boolean c.in-Bool.boolean)

pub returns-in_default : goal.returns-in_default
returns-in_default c = no-boolean c.args.lent.now c.in_default.not-Bool
