use Rattle.json_tree.proofs.CharTurns.{plain-string}
use Rattle.json_lend.proofs.names.later_index.Goals as goal

pub returns-in-Some-scan-clause-reads : goal.returns-in-Some-scan-clause-reads
returns-in-Some-scan-clause-reads c =
    let f = c.in-Some.ensures.found in
    (c.in-Some.key.now, plain-string c.args.reader.now c.in-Some.key.now c.plain_string.new.self f.0 f.1, c.in-Some-scan.ensures)
