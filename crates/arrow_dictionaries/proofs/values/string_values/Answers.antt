use Rattle.std.proofs.Common.{◌∙◌}
use Rattle.std.proofs.lemmas.Result.{err_from_is_err_and}
use Rattle.arrow_core.specs.Numbers.{greatest_offset}
use Rattle.arrow_dictionaries.specs.Indices.{string_slot}
use Rattle.arrow_dictionaries.proofs.Faults.{no_memory}
use Rattle.arrow_dictionaries.proofs.ValueSlots.{all_values, boxed, size_more, size_within, string_more, too_long}
use Rattle.arrow_dictionaries.proofs.values.string_values.Goals as goal

pub returns-in_err-push_string-clause-err : goal.returns-in_err-push_string-clause-err
returns-in_err-push_string-clause-err g c =
    let p = err_from_is_err_and c.from_residual-in_err-push_string.result c.from_residual-in_err-push_string.ensures.1 in
    rw (p.1, p.2) (too_long c.args.strings.now c.loop-string.string-index _ c.loop-string-test.true (greatest_offset g.O.Offset.IS_LARGE) _ _ c.loop-string.invariant.bytes c.in_err-push_string.ensures.err)

pub loop-string-preserved : goal.loop-string-preserved
loop-string-preserved g c =
    let inv = c.loop-string.invariant in
    let e = c.in_ok-push_string.ensures in
    record {
      data_type = e.data_type ∙ inv.data_type;
      slots = string_more c.args.strings.now c.loop-string.string-index _ c.loop-string-test.true _ _ inv.slots e.ok;
      bytes = size_more c.args.strings.now c.loop-string.string-index _ c.loop-string-test.true _ _ inv.bytes e.bytes;
      within = e.within;
    }

pub returns-clause-slots : goal.returns-clause-slots
returns-clause-slots g c =
    boxed c.as_box.result (λ a. a.slots) c.loop-string.builder.slots _ (all_values string_slot c.args.strings.now c.loop-string.string-index _ c.loop-string-test.false c.loop-string.invariant.slots) c.as_box.ensures.array_slots

pub returns-clause-counted : goal.returns-clause-counted
returns-clause-counted g c =
    size_within c.as_box.result (greatest_offset g.O.Offset.IS_LARGE) c.loop-string.builder.bytes c.args.strings.now c.loop-string.string-index c.loop-string-test.false c.loop-string.invariant.bytes c.loop-string.invariant.within

pub returns-clause-err : goal.returns-clause-err
returns-clause-err g c = no_memory _ c.as_box.result c.as_box.ensures.memory
