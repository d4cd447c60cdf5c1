use Rattle.std.proofs.Common.{ℕ, ◌∙◌, sym, ap}
use Rattle.arrow_core.specs.declared.slot.Slot.TheVariants as slot
use Rattle.sample_rows.specs.Drawing.{after_row, before_row, tags}
use Rattle.sample_rows.proofs.Growing.{row_more, slot_more}
use Rattle.sample_rows.proofs.tags.push_lists.Goals as goal

pub loop-preserved : goal.loop-preserved
loop-preserved c = record {
  state = c.after_row-state.ensures ∙ ap after_row c.loop.invariant.state ∙ sym (row_more c.args.start c.loop.counter);
  kind = c.in_ok-push_list.ensures.kind;
  tight = c.in_ok-push_list.ensures.tight;
  slots = slot_more (λ i. slot.List (tags (before_row c.args.start i))) _ _ _ c.loop.counter (slot.List (tags c.loop.state)) c.loop.invariant.slots c.in_ok-push_list.ensures.ok (ap (λ s. slot.List (tags s)) c.loop.invariant.state);
}
