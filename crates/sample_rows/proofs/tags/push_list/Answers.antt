use Rattle.std.proofs.Common.{List, ◌++◌, ap, ◌∙◌}
use Rattle.arrow_core.specs.declared.slot.Slot.{Slot}
use Rattle.arrow_builders.specs.MutableArrays.{builder_slots}
use Rattle.arrow_builders.specs.declared.array.MutableArray.{MutableArray}
use Rattle.sample_rows.specs.Drawing.{tags}
use Rattle.sample_rows.proofs.Growing.{list_more}
use Rattle.sample_rows.proofs.tags.push_list.Goals as goal

pub returns-clause-ok : goal.returns-clause-ok
returns-clause-ok c =
    list_more c.try_push_valid.result c.in_memory.result c.args.lists.now.lists.lens (builder_slots c.args.lists.now.values.value) (tags c.args.state) (builder_slots c.push_tags.new.items) _
    c.in_memory.ensures c.requires.tight.0
    (c.in_ok-push_tags.ensures.ok ∙ ap (λ (b : MutableArray). builder_slots b ++ tags c.args.state) c.mut_values.ensures.value)
    c.try_push_valid.ensures.ok
