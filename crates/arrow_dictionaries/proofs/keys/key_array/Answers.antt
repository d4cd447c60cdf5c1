use Rattle.std.proofs.lemmas.Result.{err_from_is_err_and}
use Rattle.arrow_dictionaries.specs.Indices.{index_key}
use Rattle.arrow_dictionaries.proofs.Faults.{index_fault}
use Rattle.arrow_dictionaries.proofs.ValueSlots.{all_values, boxed, boxed_keys, key_more, more_keys}
use Rattle.arrow_dictionaries.proofs.keys.key_array.Goals as goal

pub returns-in_err-push_key-clause-err : goal.returns-in_err-push_key-clause-err
returns-in_err-push_key-clause-err g c =
    let p = err_from_is_err_and c.from_residual-in_err-push_key.result c.from_residual-in_err-push_key.ensures.1 in
    rw (p.1, p.2) (index_fault g.K.Key.count c.args.indices.now c.loop-index.index-index _ _ c.loop-index-test.true c.in_err-push_key.ensures.err)

pub loop-index-preserved : goal.loop-index-preserved
loop-index-preserved g c =
    let inv = c.loop-index.invariant in
    let e = c.in_ok-push_key.ensures in
    record {
      slots = key_more c.args.indices.now c.loop-index.index-index _ _ _ c.loop-index-test.true inv.slots e.ok;
      within = more_keys g.K.Key.count _ _ _ inv.within e.within e.ok;
    }

pub returns-clause-slots : goal.returns-clause-slots
returns-clause-slots g c =
    boxed c.as_box.result (λ a. a.slots) c.loop-index.builder.slots _ (all_values index_key c.args.indices.now c.loop-index.index-index _ c.loop-index-test.false c.loop-index.invariant.slots) c.as_box.ensures.array_slots

pub returns-clause-within : goal.returns-clause-within
returns-clause-within g c = boxed_keys g.K.Key.count c.as_box.result (λ a. a.slots) c.loop-index.builder.slots c.loop-index.invariant.within c.as_box.ensures.array_slots
