use Rattle.json_line.proofs.Nested.{null_taken}
use Rattle.json_line.proofs.Rows.{fills, stays}
use Rattle.json_line.proofs.fill.fill.Goals as goal

pub returns-then-len-count-clause-ok : goal.returns-then-len-count-clause-ok
returns-then-len-count-clause-ok c = stays c.args.count c.args.builder.now c.len.result c.len.ensures c.if-len-count.true

pub returns-clause-ok : goal.returns-clause-ok
returns-clause-ok c =
    let p = c.push_null in
    let b = c.args.builder.now in
    fills p.result c.args.count b p.new.builder c.len.result c.len.ensures c.if-len-count.false (null_taken p.result b p.new.builder p.ensures.ok) p.ensures.tight
