use Rattle.std.proofs.Common.{◌∙◌, sym, ap, length}
use Rattle.std.proofs.lemmas.List.{length-take-le}
use Rattle.arrow_flat.specs.Builders.{content_node}
use Rattle.avro_reference.proofs.Counting.{on_ok, drop_moves, take_costs}
use Rattle.avro_flat.proofs.Sized.{fixed_short, fixed_given}
use Rattle.avro_flat.proofs.Pushes.{fixed_fills, fixed_has_memory}
use Rattle.avro_flat.proofs.fixed.decode_fixed.Goals as goal

pub push_fixed-requires : goal.push_fixed-requires
push_fixed-requires g c =
    let t = c.in-Some.ensures.read in
    record { width = ap length (c.as_slice.ensures ∙ t.1) ∙ length-take-le _ _ t.0 ∙ sym c.requires.width }

pub returns-in_default-clause-reads : goal.returns-in_default-clause-reads
returns-in_default-clause-reads g c = fixed_short _ _ _ c.in_default.ensures.read.0

pub returns-clause-reads : goal.returns-clause-reads
returns-clause-reads g c =
    let t = c.in-Some.ensures.read in
    fixed_given c.push_fixed.result _ _ _ _ c.as_slice.result.now _ (t.0, c.as_slice.ensures ∙ t.1, t.2) c.push_fixed.ensures.ok c.push_fixed.ensures.err

pub returns-clause-grows : goal.returns-clause-grows
returns-clause-grows g c =
    let t = c.in-Some.ensures.read in
    fixed_fills _ c.as_slice.result.now _ _ c.requires.some (t.0, c.as_slice.ensures ∙ t.1, t.2) _ _ c.push_fixed.ensures.grows

pub returns-clause-has_capacity : goal.returns-clause-has_capacity
returns-clause-has_capacity g c =
    let t = c.in-Some.ensures.read in
    fixed_has_memory _ c.as_slice.result.now _ _ c.requires.some (t.0, c.as_slice.ensures ∙ t.1, t.2) (content_node c.args.values.now) _ c.push_fixed.ensures.has_capacity

pub returns-clause-costs : goal.returns-clause-costs
returns-clause-costs g c =
    let t = c.in-Some.ensures in
    on_ok c.push_fixed.result (take_costs _ _ _ _ _ c.args.size c.requires.some t.read.0 t.read.2 t.shown t.calls)

pub returns-clause-moves : goal.returns-clause-moves
returns-clause-moves g c =
    let t = c.in-Some.ensures in
    drop_moves _ _ _ _ _ t.read.0 t.read.2 t.calls
