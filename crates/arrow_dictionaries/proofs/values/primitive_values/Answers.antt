use Rattle.std.proofs.Common.{◌∙◌}
use Rattle.arrow_dictionaries.proofs.ValueSlots.{all_values, boxed, value_more}
use Rattle.arrow_dictionaries.proofs.values.primitive_values.Goals as goal

pub loop-value-preserved : goal.loop-value-preserved
loop-value-preserved g c =
    let inv = c.loop-value.invariant in
    let e = c.in_ok-push.ensures in
    record {
      data_type = e.data_type ∙ inv.data_type;
      slots = value_more g.T.NativeType.native_slot c.args.values.now c.loop-value.value-index c.value-item.result _ _ c.loop-value-test.true c.value-item.is inv.slots e.ok;
    }

pub returns-clause-slots : goal.returns-clause-slots
returns-clause-slots g c =
    boxed c.as_box.result (λ a. a.slots) c.loop-value.builder.slots _ (all_values g.T.NativeType.native_slot c.args.values.now c.loop-value.value-index _ c.loop-value-test.false c.loop-value.invariant.slots) c.as_box.ensures.array_slots
