use Rattle.std.proofs.Common.{pos, ap, rules}
use Rattle.arrow_core.specs.declared.slot.Slot.TheVariants as slot
use Rattle.sample_rows.proofs.Growing.{given, slot_more}
use Rattle.sample_rows.proofs.columns.push_ids.Goals as goal

pub loop-i-preserved : goal.loop-i-preserved
loop-i-preserved c =
    slot_more (λ i. slot.Integer (pos i)) c.args.column.now.slots c.loop-i.column.slots _ c.loop-i.i _ c.loop-i.invariant c.in_ok-push.ensures.ok (ap slot.Integer (given c.id_of.result c.loop-i.i c.id_of.ensures (search rules)))
