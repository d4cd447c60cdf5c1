use Rattle.std.proofs.Common.{◌∙◌, ap, arith}
use Rattle.avro_reference.specs.Read.{push_one}
use Rattle.avro_reference.proofs.Counting.{on_ok, drop_moves, take_costs}
use Rattle.avro_flat.proofs.Counted.{value_pushed, less_left}
use Rattle.avro_flat.proofs.Durations.{duration_short, duration_taken, interval_is}
use Rattle.avro_flat.proofs.Pushes.{number_fills}
use Rattle.avro_flat.proofs.Unfolded.{push_none}
use Rattle.avro_flat.proofs.duration.decode_duration.Goals as goal

pub returns-in_default-clause-reads : goal.returns-in_default-clause-reads
returns-in_default-clause-reads g c = ap (push_one _) (duration_short _ c.in_default.ensures.read.0) ∙ push_none _

pub returns-clause-moves : goal.returns-clause-moves
returns-clause-moves g c =
    let t = c.in-Some.ensures in
    drop_moves _ _ _ _ _ t.read.0 t.read.2 t.calls

pub returns-clause-costs : goal.returns-clause-costs
returns-clause-costs g c =
    let t = c.in-Some.ensures in
    on_ok c.pushed.result (take_costs _ _ _ _ _ 12 (omega arith) t.read.0 t.read.2 t.shown t.calls)

pub returns-clause-reads : goal.returns-clause-reads
returns-clause-reads g c =
    let t = c.in-Some.ensures.read in
    let v = c.interval_of.ensures in
    let e = interval_is c.as_slice.result.now _ _ _ v.months v.days v.ns in
    value_pushed c.push.result c.pushed.result _ _ _ _ _ (duration_taken _ c.as_slice.result.now _ _ (t.0, c.as_slice.ensures ∙ t.1, t.2) e) c.push.ensures.ok c.pushed.ensures.ok c.pushed.ensures.err

pub returns-clause-grows : goal.returns-clause-grows
returns-clause-grows g c =
    let t = c.in-Some.ensures.read in
    number_fills _ _ c.push.result _ _ _ (less_left 12 _ _ (omega arith) (t.0, t.2)) c.push.ensures.ok c.push.ensures.err c.push.ensures.capacity
