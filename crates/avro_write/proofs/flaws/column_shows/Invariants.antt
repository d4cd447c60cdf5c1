-- No slot so far shows the flaw.
use Rattle.std.proofs.Common.{◌≡◌, ℕ, ◌<◌, false}
use Rattle.arrow_array.specs.Arrays.{array_slots}
use Rattle.arrow_array.specs.Slots.{slot_at}
use Rattle.avro_write.specs.Flaws.{shows}
use Rattle.avro_write.proofs.flaws.column_shows.Given as goal

abbrev pub invariant-loop-i : goal.invariant-loop-i
invariant-loop-i l = (j : ℕ) → j < l.i → shows l.flaw l.schema (slot_at (array_slots l.array) j) ≡ false
