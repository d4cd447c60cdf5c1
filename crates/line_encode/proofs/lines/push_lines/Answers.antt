use Rattle.line_encode.proofs.Rows.{all_lines, line_more, no_lines}
use Rattle.line_encode.proofs.lines.push_lines.Goals as goal

pub loop-line-init : goal.loop-line-init
loop-line-init c = no_lines c.args.names.now c.args.plans.now c.args.out.now.items

pub loop-line-preserved : goal.loop-line-preserved
loop-line-preserved c =
    line_more c.loop-line.line-index c.args.lines.now c.args.names.now c.args.plans.now c.line-item.result c.as_str.result.now c.args.out.now.items c.loop-line.out.items c.push_line.new.out.items c.loop-line-test.true c.line-item.is c.as_str.ensures c.loop-line.invariant c.in_ok-push_line.ensures

pub returns : goal.returns
returns c = all_lines c.loop-line.line-index c.args.lines.now c.args.names.now c.args.plans.now c.args.out.now.items c.loop-line.out.items c.loop-line-test.false c.loop-line.invariant
