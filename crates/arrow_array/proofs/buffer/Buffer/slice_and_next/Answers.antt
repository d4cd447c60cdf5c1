use Rattle.std.proofs.Common.{arith, ◌+◌}
use Rattle.std.specs.Arc.{arc_slice_items}
use Rattle.arrow_array.proofs.Cuts.{cut_again, most_of_cut}
use Rattle.arrow_array.proofs.buffer.Buffer.slice_and_next.Goals as goal

pub returns-clause-values : goal.returns-clause-values
returns-clause-values g c =
    let n = most_of_cut c.self.inside.count c.self.inside.start (arc_slice_items c.self.inside.values) c.self.view_is in
    rw (c.in_ok-values.ensures.cases, ← c.self.view_is) (cut_again c.self.inside.start c.self.inside.count c.args.offset (c.args.count + 1) (arc_slice_items c.self.inside.values) (omega (arith, n, c.requires)))
