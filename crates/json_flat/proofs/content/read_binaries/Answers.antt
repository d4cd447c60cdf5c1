use Rattle.std.proofs.lemmas.Result.{err_from_is_err_and}
use Rattle.arrow_core.specs.Numbers.{greatest_offset}
use Rattle.json_flat.specs.Meaning.{bytes_in}
use Rattle.json_flat.proofs.Counting.{counted}
use Rattle.json_flat.proofs.Growing.{boxed, too-long}
use Rattle.json_flat.proofs.content.read_binaries.Goals as goal

pub returns-in_err-push_bytes-clause-err : goal.returns-in_err-push_bytes-clause-err
returns-in_err-push_bytes-clause-err g c =
    let p = err_from_is_err_and c.from_residual-in_err-push_bytes.result c.from_residual-in_err-push_bytes.ensures.1 in
    rw (p.1, p.2) (too-long (greatest_offset g.O.Offset.IS_LARGE) bytes_in c.args.values.now c.loop-value.value-index c.value-item.result c.loop-value.builder.bytes _ c.loop-value-test.true c.value-item.is c.loop-value.invariant.bytes c.in_err-push_bytes.ensures.err)

pub returns-clause-slots : goal.returns-clause-slots
returns-clause-slots g c =
    boxed c.as_box.result (λ a. a.slots) bytes_in c.args.values.now c.loop-value.value-index c.loop-value.builder.slots c.loop-value-test.false c.loop-value.invariant.slots c.as_box.ensures.array_slots

pub returns-clause-counted : goal.returns-clause-counted
returns-clause-counted g c =
    counted c.as_box.result (greatest_offset g.O.Offset.IS_LARGE) bytes_in c.args.values.now c.loop-value.value-index c.loop-value.builder.bytes c.loop-value-test.false c.loop-value.invariant.bytes c.loop-value.invariant.within
