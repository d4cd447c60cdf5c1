use Rattle.json_tree.proofs.CharTurns.{plain-string}
use Rattle.json_lend.proofs.names.other_index.Goals as goal

pub returns-in-Some-clause-reads : goal.returns-in-Some-clause-reads
returns-in-Some-clause-reads c =
    let f = c.in-Some.ensures.found in
    let read = plain-string c.args.reader.now c.in-Some.key.now c.plain_string.new.self f.0 f.1 in
    (c.in-Some.key.now, read, c.look_up.ensures)
