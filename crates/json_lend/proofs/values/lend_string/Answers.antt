use Rattle.std.proofs.Common.{ap}
use Rattle.json_tree.specs.Tree.{string}
use Rattle.json_tree.specs.Reading.{bind, found}
use Rattle.json_tree.proofs.CharTurns.{plain-string}
use Rattle.json_lend.proofs.values.lend_string.Goals as goal

pub returns-in-Some-clause-reads : goal.returns-in-Some-clause-reads
returns-in-Some-clause-reads c =
    let f = c.in-Some.ensures.found in
    ap (λ o. bind o (λ s r. found (string s) r)) (plain-string c.args.reader.now c.in-Some.run'.now c.plain_string.new.self f.0 f.1)
