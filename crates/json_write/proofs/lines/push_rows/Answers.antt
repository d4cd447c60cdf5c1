-- Each turn adds a line.
use Rattle.json_text.proofs.Kept.{starts_through}
use Rattle.json_write.proofs.LineLemmas.{line_more}
use Rattle.json_write.proofs.lines.push_rows.Goals as goal

pub loop-i-preserved : goal.loop-i-preserved
loop-i-preserved c = record {
  lines = line_more _ _ c.loop-i.i _ _ _ _ c.loop-i.invariant.lines c.in_ok-push_object.ensures.ok c.in_ok-push.ensures.ok;
  kept = starts_through c.push.new.out.items (starts_through c.push_object.new.out.items c.loop-i.invariant.kept c.in_ok-push_object.ensures.kept) c.in_ok-push.ensures.kept;
}
