use Rattle.arrow_array.proofs.Fits.{texts}
use Rattle.arrow_array.proofs.Typed.{countable, strings_typed}
use Rattle.arrow_array.proofs.Windows.{text_slots_are, text_types_are}
use Rattle.arrow_array.proofs.utf8.Utf8Array.slots_are_typed.Goals as goal

pub returns : goal.returns
returns g c =
    let all = rw c.as_slice.ensures at c.tell_offset_ranges.ensures in
    let count = countable g.O.Offset.number g.O.Offset.IS_LARGE c.self.inside.offsets all in
    rw (← text_types_are c.self.view_is) (strings_typed _ _ _ _ count c.self.invariant.kind c.self.invariant.utf8_fit (texts c.self.invariant) (text_slots_are c.self.view_is))
