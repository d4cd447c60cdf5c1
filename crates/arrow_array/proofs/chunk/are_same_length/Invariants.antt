use Rattle.std.proofs.Common.{◌≡◌, ℕ, ◌<◌, length, slice_index_or}
use Rattle.arrow_array.specs.declared.array.Array.{Array}
use Rattle.arrow_array.specs.Arrays.{array_slots}
use Rattle.arrow_array.proofs.chunk.are_same_length.Given as goal

abbrev pub invariant-loop-i : goal.invariant-loop-i
invariant-loop-i l = (k : ℕ) (d : Array) → k < l.i → k < length l.arrays → length (array_slots (slice_index_or l.arrays k d)) ≡ length (array_slots (slice_index_or l.arrays 0 d))
