use Rattle.json_line.proofs.Batches.{moved-builders}
use Rattle.json_line.proofs.builders.LineBuilders.read_lines.Goals as goal

pub read_all-requires : goal.read_all-requires
read_all-requires c =
    let b = c.self.inside in
    let same = c.deref_mut.ensures.value in
    (b.fields.items, moved-builders b.fields.items b.names.items c.as_slice-names.result.now b.below.items c.as_slice-below.result.now b.builders.items c.deref_mut.result.now c.self.invariant c.as_slice-names.ensures.value c.as_slice-below.ensures.value same)

pub returns-clause-ok : goal.returns-clause-ok
returns-clause-ok c =
    let b = c.self.inside in
    let same = c.deref_mut.ensures.value in
    rw (← c.self.view_is) (c.read_all.ensures.ok b.fields.items (moved-builders b.fields.items b.names.items c.as_slice-names.result.now b.below.items c.as_slice-below.result.now b.builders.items c.deref_mut.result.now c.self.invariant c.as_slice-names.ensures.value c.as_slice-below.ensures.value same))
