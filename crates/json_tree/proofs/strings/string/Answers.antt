use Rattle.json_tree.proofs.CharTurns.{plain-gives}
use Rattle.json_tree.proofs.strings.string.Goals as goal

pub returns-in-Some-clause-reads : goal.returns-in-Some-clause-reads
returns-in-Some-clause-reads c = plain-gives c.owned.result c.args.reader.now c.in-Some.run'.now c.plain_string.new.self c.in-Some.ensures.found c.owned.ensures
