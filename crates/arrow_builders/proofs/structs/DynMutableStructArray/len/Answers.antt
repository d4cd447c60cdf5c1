use Rattle.std.proofs.Common.{◌∙◌, ap, sym, List, length, map}
use Rattle.arrow_core.specs.declared.slot.Slot.{Slot}
use Rattle.arrow_array.specs.Structs.{record_at}
use Rattle.arrow_builders.specs.MutableArrays.{builder_slots}
use Rattle.arrow_builders.proofs.Rows.{slots-record}
use Rattle.arrow_flat.proofs.Slots.{length-slots_of}
use Rattle.arrow_builders.proofs.structs.DynMutableStructArray.len.Goals as goal

pub returns : goal.returns
returns c =
    let b = c.args.self.now in
    c.len.ensures ∙ sym (ap (λ (xs : List Slot). length xs) (slots-record b) ∙ length-slots_of (record_at (map builder_slots b.values.items)) b.marks.booleans (length b.marks.booleans))
