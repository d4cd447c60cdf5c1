use Rattle.std.proofs.Common.{◌∙◌}
use Rattle.json_line.proofs.Batches.{all-suit, as-many, lines-read, names-distinct}
use Rattle.json_line.proofs.builders.read_all.Goals as goal

pub push_lines-requires-clause-distinct : goal.push_lines-requires-clause-distinct
push_lines-requires-clause-distinct c = names-distinct c.requires.0 c.args.names.now c.args.below.now c.args.builders.now c.clear_all.new.builders c.requires.1 c.clear_all.ensures.shapes

pub push_lines-requires-clause-fits : goal.push_lines-requires-clause-fits
push_lines-requires-clause-fits c = as-many c.requires.0 c.args.names.now c.args.below.now c.args.builders.now c.clear_all.new.builders c.requires.1 c.clear_all.ensures.shapes

pub push_lines-requires-clause-suits : goal.push_lines-requires-clause-suits
push_lines-requires-clause-suits c = all-suit c.requires.0 c.args.names.now c.args.below.now c.args.builders.now c.clear_all.new.builders c.requires.1 c.clear_all.ensures.shapes

pub returns-in_err-push_lines-clause-shapes : goal.returns-in_err-push_lines-clause-shapes
returns-in_err-push_lines-clause-shapes c = c.push_lines.ensures.shapes ∙ c.clear_all.ensures.shapes

pub returns-clause-shapes : goal.returns-clause-shapes
returns-clause-shapes c = c.box_all.ensures.shapes ∙ (c.push_lines.ensures.shapes ∙ c.clear_all.ensures.shapes)

pub returns-clause-ok : goal.returns-clause-ok
returns-clause-ok c = λ fields are.
    lines-read fields c.args.names.now c.args.below.now c.args.builders.now c.clear_all.new.builders are c.clear_all.ensures.shapes
    c.args.lines.now c.push_lines.new.builders c.box_all.result c.clear_all.ensures.slots c.push_lines.ensures.shapes c.in_ok-push_lines.ensures.ok c.box_all.ensures.array_types c.box_all.ensures.array_slots
