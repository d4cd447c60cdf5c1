use Rattle.std.proofs.lemmas.Result.{err_from_is_err_and}
use Rattle.arrow_array.specs.Parts.{utf8_type}
use Rattle.arrow_core.specs.Numbers.{greatest_offset}
use Rattle.json_flat.specs.Columns.{IsTooLong, lent}
use Rattle.json_flat.specs.Meaning.{text_in}
use Rattle.json_flat.proofs.Counting.{counted}
use Rattle.json_flat.proofs.Growing.{boxed, no-memory, too-long, typed}
use Rattle.json_flat.proofs.content.read_strings.Goals as goal

pub returns-in_err-push_text-clause-err : goal.returns-in_err-push_text-clause-err
returns-in_err-push_text-clause-err g c =
    let p = err_from_is_err_and c.from_residual-in_err-push_text.result c.from_residual-in_err-push_text.ensures.1 in
    rw (p.1, p.2) (too-long (greatest_offset g.O.Offset.IS_LARGE) text_in c.args.values.now c.loop-value.value-index c.value-item.result c.loop-value.builder.bytes _ c.loop-value-test.true c.value-item.is c.loop-value.invariant.bytes c.in_err-push_text.ensures.err)

pub returns-clause-data_type : goal.returns-clause-data_type
returns-clause-data_type g c =
    typed c.as_box.result (λ a. a.data_type) c.loop-value.builder.data_type (utf8_type g.O.Offset.IS_LARGE) c.loop-value.invariant.data_type c.as_box.ensures.array_type

pub returns-clause-slots : goal.returns-clause-slots
returns-clause-slots g c =
    boxed c.as_box.result (λ a. a.slots) text_in c.args.values.now c.loop-value.value-index c.loop-value.builder.slots c.loop-value-test.false c.loop-value.invariant.slots c.as_box.ensures.array_slots

pub returns-clause-err : goal.returns-clause-err
returns-clause-err g c = no-memory c.as_box.result text_in (IsTooLong (greatest_offset g.O.Offset.IS_LARGE) text_in (lent c.args.values.now)) (lent c.args.values.now) c.as_box.ensures.memory

pub returns-clause-counted : goal.returns-clause-counted
returns-clause-counted g c =
    counted c.as_box.result (greatest_offset g.O.Offset.IS_LARGE) text_in c.args.values.now c.loop-value.value-index c.loop-value.builder.bytes c.loop-value-test.false c.loop-value.invariant.bytes c.loop-value.invariant.within
