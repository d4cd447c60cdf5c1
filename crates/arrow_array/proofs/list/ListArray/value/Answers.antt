use Rattle.std.proofs.Common.{arith, sym, ◌∙◌}
use Rattle.std.proofs.lemmas.List.{map-id}
use Rattle.arrow_array.proofs.ListSlots.{list_slots_are, list_types_are, count_lists, read_list}
use Rattle.arrow_array.proofs.list.ListArray.value.Goals as goal

pub part_of-requires-clause-offsets : goal.part_of-requires-clause-offsets
part_of-requires-clause-offsets c = rw (map-id c.as_slice.result.now, c.as_slice.ensures, c.get.ensures) c.self.invariant.offsets_fit

pub part_of-requires-clause-within : goal.part_of-requires-clause-within
part_of-requires-clause-within c = rw c.as_slice.ensures (omega (arith, c.requires, count_lists c.self.invariant (list_slots_are c.self.view_is)))

pub returns-clause-data_type : goal.returns-clause-data_type
returns-clause-data_type c = rw (c.part_of.ensures.array, c.get.ensures, ← list_types_are c.self.view_is) c.self.invariant.kind

pub returns-clause-slot : goal.returns-clause-slot
returns-clause-slot c = λ h. read_list c.self.invariant (list_slots_are c.self.view_is) c.args.i c.requires h
    ∙ sym (rw (map-id c.as_slice.result.now, c.as_slice.ensures, c.get.ensures) at c.part_of.ensures.slots)
