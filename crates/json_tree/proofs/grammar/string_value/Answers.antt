use Rattle.json_tree.proofs.CharTurns.{plain-value}
use Rattle.json_tree.proofs.grammar.string_value.Goals as goal

pub returns-in-Some-clause-reads : goal.returns-in-Some-clause-reads
returns-in-Some-clause-reads c = plain-value c.plain_value.result c.plain_value.new.out c.args.reader.now c.in-Some.run'.now c.plain_string.new.self c.in-Some.ensures.found c.plain_value.ensures
