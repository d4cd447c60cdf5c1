use Rattle.std.proofs.Common.{ℕ, ◌<◌}
use Rattle.arrow_array.specs.Dictionaries.{IsKeyInto, keys_slots}
use Rattle.arrow_array.specs.Slots.{slot_at}
use Rattle.arrow_array.proofs.dictionary.are_keys_into.Given as goal

abbrev pub invariant-loop-i : goal.invariant-loop-i
invariant-loop-i l = (k : ℕ) → k < l.i → IsKeyInto l.len (slot_at (keys_slots l.keys) k)
