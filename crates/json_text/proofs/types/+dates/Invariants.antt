-- No field before this one holds dates.
use Rattle.std.proofs.Common.{◌≡◌, List, true, take}
use Rattle.arrow_core.specs.declared.slot.Slot.{Slot}
use Rattle.json_text.specs.Refusals.{all_in_range}
use Rattle.json_text.proofs.types.+dates.Given as goal

abbrev pub invariant-hold_dates-loop-field : goal.invariant-hold_dates-loop-field
invariant-hold_dates-loop-field l = (slots : List Slot) → all_in_range (take l.field-index l.fields) slots ≡ true
