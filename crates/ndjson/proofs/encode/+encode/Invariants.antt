-- The first columns have the slots of those that were read, and their dictionaries the first values.
use Rattle.std.proofs.Common.{◌≡◌, map, take}
use Rattle.arrow_array.specs.Arrays.{array_slots}
use Rattle.arrow_dictionaries.specs.Encoding.{HaveFirstValues}
use Rattle.ndjson.proofs.encode.+encode.Given as goal

abbrev pub invariant-encoded_all-loop-i : goal.invariant-encoded_all-loop-i
invariant-encoded_all-loop-i l = (map array_slots l.made.items ≡ map array_slots (take l.i l.columns)) × HaveFirstValues l.made.items
