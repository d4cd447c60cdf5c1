-- What was appended, before what is left, is what the whole gives.
use Rattle.std.proofs.Common.{◌≡◌, ◌++◌, drop, flat_map}
use Rattle.arrow_array.specs.Arrays.{array_slots}
use Rattle.avro_encode.specs.Plain.{plain}
use Rattle.avro_encode.proofs.column.append_items_from.Given as goal

abbrev pub invariant-loop-i : goal.invariant-loop-i
invariant-loop-i l = l.out.items ++ flat_map (plain l.schema) (drop l.i (array_slots l.array)) ≡ l.fn.out.items ++ flat_map (plain l.schema) (drop l.start (array_slots l.array))
