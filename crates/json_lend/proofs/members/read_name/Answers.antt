use Rattle.std.proofs.Common.{◌∙◌, sym, ap}
use Rattle.json_tree.specs.Reading.{string_at, value_at}
use Rattle.json_tree.proofs.Turns.{member-ok}
use Rattle.json_lend.proofs.members.read_name.Goals as goal

pub returns-clause-reads : goal.returns-clause-reads
returns-clause-reads c =
    let s = c.in_ok-at.ensures.reads in
    let key = ap string_at (sym c.skip_spaces.ensures.skipped) ∙ s.1 in
    (s.0, s.2, λ depth value rest is. member-ok (value_at depth) c.args.reader.now s.0 c.bounded_index.new.reader c.name_separator.new.reader rest value key c.in_ok-name_separator.ensures.found (ap (value_at depth) (sym c.skip_spaces-2.ensures.skipped) ∙ is))
