-- The first bracket, the items, or the last bracket stopped.
use Rattle.json_write.proofs.ArrayLemmas.{stops_first, stops_within, stops_last}
use Rattle.json_write.proofs.joined.write.Goals as goal

pub returns-in-Err-clause-err : goal.returns-in-Err-clause-err
returns-in-Err-clause-err g c =
    let t = g.I.FallibleStreamingIterator in
    stops_first t.step t.shown c.args.blocks _ _ _ _ c.in-Err.error c.in-Err.ensures.only c.in-Err.ensures.cause c.in-Err.ensures.prefix

pub returns-in-Err-write_joined-clause-err : goal.returns-in-Err-write_joined-clause-err
returns-in-Err-write_joined-clause-err g c =
    let t = g.I.FallibleStreamingIterator in
    stops_within t.step t.shown c.args.blocks _ _ _ _ _ _ c.in-Err-write_joined.error c.write_all.ensures.never_falls c.in_default.ensures.ok c.in-Err-write_joined.ensures.err

pub returns-clause-err : goal.returns-clause-err
returns-clause-err g c =
    let t = g.I.FallibleStreamingIterator in
    stops_last t.step t.shown c.write_all-2.result c.args.blocks _ _ _ _ _ _ _ _ c.write_all.ensures.never_falls c.write_joined.ensures.never_falls c.in_default.ensures.ok c.in_default-write_joined.ensures.shown
    c.write_all-2.ensures.only c.write_all-2.ensures.cause c.write_all-2.ensures.prefix
