use Rattle.json_tree.specs.Reading.{value_at}
use Rattle.json_lend.specs.Standing.{lent_value}
use Rattle.json_line.proofs.Nested.{null_for_struct, read_into}
use Rattle.json_line.proofs.single.push_null_struct.Goals as goal

pub returns-in_default-clause-ok : goal.returns-in_default-clause-ok
returns-in_default-clause-ok c =
    let p = c.push_null in
    let l = c.in_ok-lent.lent in
    let s = c.requires.suits in
    read_into p.result (value_at c.args.depth) c.args.reader.now c.lend.new.reader (lent_value l) c.args.builder.now p.new.builder c.in_ok-lent.ensures.reads
    (null_for_struct p.result s.0 s.1 l c.args.builder.now p.new.builder s.2 c.in_default.not-Object p.ensures.ok)
