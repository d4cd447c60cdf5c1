use Rattle.std.proofs.Common.{take, ◌∙◌}
use Rattle.std.proofs.lemmas.Result.{err_from_is_err_and}
use Rattle.arrow_core.specs.Numbers.{greatest_offset}
use Rattle.json_flat.specs.Columns.{lent}
use Rattle.json_columns.proofs.Counting.{all_within}
use Rattle.json_columns.proofs.Gathering.{all_more, counts_fault, items_length, lens_end, lens_more}
use Rattle.json_columns.proofs.gather.fill_lists.Goals as goal

pub push_list-requires : goal.push_list-requires
push_list-requires g c = record { ends = lens_end (lent (take c.loop-value.value-index c.args.values.now)) _ _ c.loop-value.invariant.lens c.loop-value.invariant.items; counted = c.loop-value.invariant.counted }

pub returns-in_err-push_list-clause-err : goal.returns-in_err-push_list-clause-err
returns-in_err-push_list-clause-err g c =
    let p = err_from_is_err_and c.from_residual.result c.from_residual.ensures.1 in
    rw (p.1, p.2) (counts_fault (greatest_offset g.O.Offset.IS_LARGE) c.args.values.now c.loop-value.value-index _ c.value-item.result _ c.loop-value-test.true c.value-item.is
    (items_length (lent (take c.loop-value.value-index c.args.values.now)) _ c.loop-value.invariant.items) c.in_err-push_list.ensures.err)

pub loop-value-preserved : goal.loop-value-preserved
loop-value-preserved g c =
    let inv = c.loop-value.invariant in
    let e = c.in_ok-push_list.ensures in
    record {
      data_type = e.data_type ∙ inv.data_type;
      lens = lens_more c.args.values.now c.loop-value.value-index c.value-item.result _ _ c.loop-value-test.true c.value-item.is inv.lens e.lens;
      items = all_more c.args.values.now c.loop-value.value-index c.value-item.result _ _ c.loop-value-test.true c.value-item.is inv.items e.items;
      counted = e.counted;
    }

pub returns-clause-counted : goal.returns-clause-counted
returns-clause-counted g c = all_within (greatest_offset g.O.Offset.IS_LARGE) c.args.values.now c.loop-value.value-index _ c.loop-value-test.false c.loop-value.invariant.items c.loop-value.invariant.counted
