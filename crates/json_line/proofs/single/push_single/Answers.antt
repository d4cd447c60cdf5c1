use Rattle.json_tree.specs.Reading.{value_at}
use Rattle.json_lend.specs.Standing.{lent_value}
use Rattle.json_line.proofs.Nested.{read_into}
use Rattle.json_line.proofs.single.push_single.Goals as goal

pub returns-clause-ok : goal.returns-clause-ok
returns-clause-ok c =
    read_into c.push_flat.result (value_at c.args.depth) c.args.reader.now c.lend.new.reader (lent_value c.in_ok-lent.lent) c.args.builder.now c.push_flat.new.builder c.in_ok-lent.ensures.reads c.push_flat.ensures.ok
