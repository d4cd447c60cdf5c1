use Rattle.std.proofs.Common.{◌∙◌, [], refl}
use Rattle.json_line.proofs.Batches.{all-rows, line-more, no-rows}
use Rattle.json_line.proofs.Suited.{suits_same}
use Rattle.json_line.proofs.line.push_lines.Goals as goal

pub loop-i-init : goal.loop-i-init
loop-i-init c = record { shapes = refl; tight = c.requires.tight; rows = ([], tt, no-rows c.args.names.now c.args.builders.now) }

pub push_line-requires-clause-suits : goal.push_line-requires-clause-suits
push_line-requires-clause-suits c = suits_same c.args.below.now c.args.builders.now c.loop-i.builders c.loop-i.invariant.shapes c.requires.suits

pub loop-i-preserved : goal.loop-i-preserved
loop-i-preserved c =
    let inv = c.loop-i.invariant in
    record {
      shapes = c.push_line.ensures.shapes ∙ inv.shapes;
      tight = c.in_ok-push_line.ensures.tight;
      rows = line-more c.loop-i.i c.args.lines.now c.args.names.now c.index-lines-i.result c.as_str.result.now c.args.builders.now c.loop-i.builders c.push_line.new.builders c.loop-i-test.true c.index-lines-i.is c.as_str.ensures c.loop-i.auto.builders inv.shapes inv.rows c.in_ok-push_line.ensures.ok;
    }

pub returns-in_err-push_line-clause-shapes : goal.returns-in_err-push_line-clause-shapes
returns-in_err-push_line-clause-shapes c = c.push_line.ensures.shapes ∙ c.loop-i.invariant.shapes

pub returns-clause-ok : goal.returns-clause-ok
returns-clause-ok c = all-rows c.loop-i.i c.args.lines.now c.args.names.now c.args.builders.now c.loop-i.builders c.loop-i-test.false c.loop-i.invariant.rows
