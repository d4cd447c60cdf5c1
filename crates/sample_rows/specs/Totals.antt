-- What a column adds up to.
use Rattle.std.specs.Prelude.{ℕ, pos, Bool, true, if◌then◌else◌, List, length, sum_by}
use Rattle.arrow_core.specs.declared.slot.Slot.{Slot, out-Slot, Integer, Boolean}
use Rattle.arrow_core.specs.declared.slot.Slot.TheOpen as open_slot
use Rattle.arrow_array.specs.Slots.{is_held}
use Rattle.sample_rows.specs.declared.totals.Measure.{Measure}
use Rattle.sample_rows.specs.declared.totals.Measure.TheVariants as measure

-- an integer that isn't negative
abbrev pub number_in : Slot → ℕ
number_in (Integer (pos n)) = n
number_in _ = 0

-- one for a slot that isn't null
abbrev pub held_in : Slot → ℕ
held_in x = if is_held x then 1 else 0

abbrev pub items_in_open : open_slot.Slot-F Slot → ℕ
items_in_open (open_slot.List xs) = length xs
items_in_open _ = 0

-- how many items a list has
abbrev pub items_in : Slot → ℕ
items_in x = items_in_open (out-Slot x)

-- one for true
abbrev pub trues_in : Slot → ℕ
trues_in (Boolean true) = 1
trues_in _ = 0

abbrev pub measured : Measure → Slot → ℕ
measured measure.Number x = number_in x
measured measure.Held x = held_in x
measured measure.Items x = items_in x
measured measure.Trues x = trues_in x

-- the sum over the slots of a column
abbrev pub total : Measure → List Slot → ℕ
total m slots = sum_by (measured m) slots
