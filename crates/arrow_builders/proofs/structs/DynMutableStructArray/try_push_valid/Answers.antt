use Rattle.std.proofs.Common.{◌∙◌, ◌++◌, ◌∷◌, [], ap, sym, true, map, length}
use Rattle.arrow_array.specs.Structs.{record_at}
use Rattle.arrow_builders.specs.MutableArrays.{builder_slots}
use Rattle.arrow_builders.proofs.NestedSlots.{record_more}
use Rattle.arrow_builders.proofs.Rows.{slots-record}
use Rattle.arrow_builders.proofs.Takes.{marks_take}
use Rattle.arrow_builders.proofs.structs.DynMutableStructArray.try_push_valid.Goals as goal

pub returns-clause-ok : goal.returns-clause-ok
returns-clause-ok c =
    let b = c.args.self.now in
    let children = map builder_slots b.values.items in
    slots-record (record { marks = c.push.new.self; values = b.values })
    ∙ record_more children b.marks.booleans c.push.new.self.booleans c.in_ok-push.ensures.ok
    ∙ ap (λ xs. xs ++ record_at children (length b.marks.booleans) ∷ []) (sym (slots-record b))

pub returns-clause-takes : goal.returns-clause-takes
returns-clause-takes c = marks_take c.args.self.now.marks c.push.new.self true c.in_ok-push.ensures.ok c.push.ensures.capacity
