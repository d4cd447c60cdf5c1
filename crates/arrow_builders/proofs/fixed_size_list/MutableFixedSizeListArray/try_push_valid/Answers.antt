use Rattle.std.proofs.Common.{ap, true}
use Rattle.arrow_array.specs.FixedLists.{list_size}
use Rattle.arrow_builders.specs.MutableArrays.{builder_slots}
use Rattle.arrow_builders.proofs.NestedSlots.{fixed_more}
use Rattle.arrow_builders.proofs.Takes.{marks_take}
use Rattle.arrow_builders.proofs.fixed_size_list.MutableFixedSizeListArray.try_push_valid.Goals as goal

pub returns-clause-ok : goal.returns-clause-ok
returns-clause-ok c =
    let b = c.args.self.now in
    fixed_more (list_size b.marks.data_type) (list_size c.push.new.self.data_type) (builder_slots b.values.value) b.marks.booleans c.push.new.self.booleans (ap list_size c.push.ensures.data_type) c.requires c.in_ok-push.ensures.ok

pub returns-clause-takes : goal.returns-clause-takes
returns-clause-takes c = marks_take c.args.self.now.marks c.push.new.self true c.in_ok-push.ensures.ok c.push.ensures.capacity
