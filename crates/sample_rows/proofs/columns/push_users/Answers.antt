use Rattle.std.proofs.Common.{◌∙◌, sym, ap}
use Rattle.sample_rows.specs.Drawing.{after_row, before_row, user}
use Rattle.sample_rows.proofs.Growing.{row_more, slot_more}
use Rattle.sample_rows.proofs.columns.push_users.Goals as goal

pub loop-preserved : goal.loop-preserved
loop-preserved c = record {
  state = c.after_row-state.ensures ∙ ap after_row c.loop.invariant.state ∙ sym (row_more c.args.start c.loop.counter);
  slots = slot_more (λ i. user (before_row c.args.start i)) c.args.column.now.slots c.loop.column.slots _ c.loop.counter (user c.loop.state) c.loop.invariant.slots c.in_ok-push_user.ensures.ok (ap user c.loop.invariant.state);
}
