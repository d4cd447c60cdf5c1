use Rattle.std.proofs.Common.{◌∙◌}
use Rattle.json_columns.proofs.SizedLists.{marks_more, sized_more}
use Rattle.json_columns.proofs.gather.fill_sized.Goals as goal

pub loop-value-preserved : goal.loop-value-preserved
loop-value-preserved c =
    let inv = c.loop-value.invariant in
    let e = c.in_ok-push_sized.ensures in
    record {
      data_type = e.data_type ∙ inv.data_type;
      booleans = marks_more c.args.size c.args.values.now c.loop-value.value-index c.value-item.result _ _ c.loop-value-test.true c.value-item.is inv.booleans e.booleans;
      items = sized_more c.args.size c.args.values.now c.loop-value.value-index c.value-item.result _ _ c.loop-value-test.true c.value-item.is inv.items e.items;
    }
