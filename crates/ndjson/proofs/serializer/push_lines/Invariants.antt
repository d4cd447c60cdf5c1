-- The lines of the slots before this one have been added.
use Rattle.std.proofs.Common.{◌≡◌, ◌++◌, codes, flat_map, take}
use Rattle.arrow_array.specs.Arrays.{array_type, array_slots}
use Rattle.json_text.specs.JsonText.{text}
use Rattle.ndjson.proofs.serializer.push_lines.Given as goal

abbrev pub invariant-loop-i : goal.invariant-loop-i
invariant-loop-i l = l.out.items ≡ l.fn.out.items ++ flat_map (λ slot. text (array_type l.array) slot ++ codes "\n") (take l.i (array_slots l.array))
