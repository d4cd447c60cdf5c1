-- Which arrays make a chunk.
use Rattle.std.specs.Prelude.{◌≡◌, List, length, AllPairs}
use Rattle.arrow_array.specs.declared.array.Array.{Array}
use Rattle.arrow_array.specs.Arrays.{array_slots}

-- no two lengths differ
abbrev pub AreSameLength : List Array → Type 0
AreSameLength = AllPairs (λ a b. length (array_slots a) ≡ length (array_slots b))
