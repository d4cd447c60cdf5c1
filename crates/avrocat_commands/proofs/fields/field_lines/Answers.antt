use Rattle.std.proofs.Common.{sym, arith}
use Rattle.avrocat_commands.proofs.FieldsEndings.{one_line_more, no_lines_left}
use Rattle.avrocat_commands.proofs.fields.field_lines.Goals as goal

pub loop-i-preserved : goal.loop-i-preserved
loop-i-preserved c =
    one_line_more c.args.fields.now c.loop-i.i _ _ _ _ c.loop-i-test.true (sym c.index-fields-i.is) c.in_ok-push_line.ensures.appended.1 c.in_ok-push_line.ensures.appended.2 c.loop-i.invariant

pub returns-clause-lines : goal.returns-clause-lines
returns-clause-lines c = no_lines_left c.args.fields.now c.loop-i.i c.loop-i.text.items (omega (arith, c.loop-i-test.false)) c.loop-i.invariant
