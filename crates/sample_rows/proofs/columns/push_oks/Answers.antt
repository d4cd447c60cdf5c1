use Rattle.std.proofs.Common.{◌∙◌, sym, ap}
use Rattle.sample_rows.specs.Drawing.{after_row, before_row, is_ok}
use Rattle.sample_rows.proofs.Growing.{ok_is, row_more, slot_more}
use Rattle.sample_rows.proofs.columns.push_oks.Goals as goal

pub loop-preserved : goal.loop-preserved
loop-preserved c =
    let state = c.after_row-state.ensures ∙ ap after_row c.loop.invariant.state in
    record {
      state = state ∙ sym (row_more c.args.start c.loop.counter);
      slots = slot_more (λ i. is_ok (before_row c.args.start i)) c.args.column.now.slots c.loop.column.slots _ c.loop.counter _ c.loop.invariant.slots c.in_ok-push.ensures.ok (ok_is (before_row c.args.start c.loop.counter) c.after_row-state.result c.drawn.result state c.drawn.ensures);
    }
