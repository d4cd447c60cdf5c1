use Rattle.std.proofs.Common.{◌∙◌, sym, length}
use Rattle.arrow_array.specs.FixedLists.{list_size}
use Rattle.arrow_builders.specs.MutableArrays.{builder_slots}
use Rattle.arrow_flat.specs.Nested.{fixed_list_slot}
use Rattle.arrow_flat.proofs.Slots.{length-slots_of}
use Rattle.arrow_builders.proofs.fixed_size_list.MutableFixedSizeListArray.len.Goals as goal

pub returns : goal.returns
returns c =
    let b = c.args.self.now in
    c.len.ensures ∙ sym (length-slots_of (fixed_list_slot (list_size b.marks.data_type) (builder_slots b.values.value)) b.marks.booleans (length b.marks.booleans))
