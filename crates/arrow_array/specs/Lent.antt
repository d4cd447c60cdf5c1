-- The slots that a part of an array lends.
use Rattle.std.specs.Prelude.{◌≤◌, List, length, pos}
use Rattle.arrow_core.specs.declared.slot.Slot.{Slot}
use Rattle.arrow_array.specs.declared.part.Part.{Part}
use Rattle.arrow_array.specs.Arrays.{array_slots}
use Rattle.arrow_array.specs.Offsets.{between}

-- the slots from the part's start up to, and without, its end
abbrev pub part_slots : Part → List Slot
part_slots part = between (pos part.start) (pos part.end) (array_slots part.array.now)

-- the part lies within its array
pub record IsPart (part : Part) : Type 0 where
  pub order : part.start ≤ part.end
  pub within : part.end ≤ length (array_slots part.array.now)
