use Rattle.json_lend.proofs.SkipLaws.{plain-skips}
use Rattle.json_lend.proofs.strings.skip_string.Goals as goal

pub returns-in-Some-clause-reads : goal.returns-in-Some-clause-reads
returns-in-Some-clause-reads c = plain-skips c.args.reader.now c.in-Some._run.now c.plain_string.new.self c.in-Some.ensures.found
