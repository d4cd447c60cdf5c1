use Rattle.std.proofs.Common.{◌∙◌}
use Rattle.arrow_flat.specs.Builders.{content_node}
use Rattle.avro_reference.proofs.Counting.{on_ok, number_first, drop_moves, string_costs}
use Rattle.avro_flat.proofs.Counted.{binary_pushed}
use Rattle.avro_flat.proofs.Pushes.{string_fills, string_reach, string_has_memory}
use Rattle.avro_flat.proofs.binary.decode_binary.Goals as goal

pub push_binary-requires : goal.push_binary-requires
push_binary-requires g c =
    let t = c.in-Some-take.ensures.read in
    record { offsets = string_reach _ _ c.as_slice.result.now _ _ c.in-Some.ensures.costs.shorter (t.0, c.as_slice.ensures ∙ t.1, t.2) _ (content_node c.args.values.now) c.requires.offsets }

pub returns-clause-reads : goal.returns-clause-reads
returns-clause-reads g c =
    let t = c.in-Some-take.ensures.read in
    binary_pushed _ _ _ _ c.as_slice.result.now _ _ c.push_binary.result c.in-Some.ensures.reads (t.0, c.as_slice.ensures ∙ t.1, t.2) c.push_binary.ensures.ok c.push_binary.ensures.err

pub returns-clause-grows : goal.returns-clause-grows
returns-clause-grows g c =
    let t = c.in-Some-take.ensures.read in
    string_fills _ _ c.as_slice.result.now _ _ c.in-Some.ensures.costs.shorter (t.0, c.as_slice.ensures ∙ t.1, t.2) _ _ c.push_binary.ensures.grows

pub returns-clause-has_capacity : goal.returns-clause-has_capacity
returns-clause-has_capacity g c =
    let t = c.in-Some-take.ensures.read in
    string_has_memory _ _ c.as_slice.result.now _ _ c.in-Some.ensures.costs.shorter (t.0, c.as_slice.ensures ∙ t.1, t.2) (content_node c.args.values.now) _ c.push_binary.ensures.has_capacity

pub returns-clause-moves : goal.returns-clause-moves
returns-clause-moves g c =
    let n = c.in-Some.ensures in
    let t = c.in-Some-take.ensures in
    number_first _ _ _ _ _ _ n.costs n.moves (drop_moves _ _ _ _ _ t.read.0 t.read.2 t.calls)

pub returns-clause-costs : goal.returns-clause-costs
returns-clause-costs g c =
    let t = c.in-Some-take.ensures in
    on_ok c.push_binary.result (string_costs _ _ _ _ _ _ c.in-Some.length c.in-Some.ensures.costs t.read.0 t.read.2 t.shown t.calls)
