-- No field so far can show the flaw. A list's items and a struct's fields are less deep than it is.
use Rattle.std.proofs.Common.{◌≡◌, ℕ, ◌+◌, ◌*◌, ◌<◌, false, get_or}
use Rattle.arrow_core.specs.declared.types.DataType.{size-DataType}
use Rattle.arrow_array.specs.Arrays.{array_type}
use Rattle.arrow_array.specs.Depths.{children_depth}
use Rattle.arrow_array.specs.Slots.{slot_at}
use Rattle.arrow_array.specs.Structs.{HaveSlots}
use Rattle.avro_schema.specs.declared.schema.AvroField.{AvroField}
use Rattle.avro_encode.specs.Listed.{slots_across}
use Rattle.avro_write.specs.Flaws.{shows}
use Rattle.avro_write.proofs.clean.+clean.Given as goal

abbrev pub decreases-is_clean : goal.decreases-is_clean
decreases-is_clean l = 5 * size-DataType (array_type l.array.now) + 4

abbrev pub decreases-has_clean_members : goal.decreases-has_clean_members
decreases-has_clean_members l = 5 * size-DataType (array_type l.array.now) + 3

abbrev pub decreases-has_clean_slots : goal.decreases-has_clean_slots
decreases-has_clean_slots l = 5 * size-DataType (array_type l.array.now) + 3

abbrev pub decreases-has_clean_values : goal.decreases-has_clean_values
decreases-has_clean_values l = 5 * size-DataType (array_type l.array.now) + 2

abbrev pub decreases-has_clean_lists : goal.decreases-has_clean_lists
decreases-has_clean_lists l = 5 * size-DataType (array_type l.array.now) + 1

abbrev pub decreases-has_clean_structs : goal.decreases-has_clean_structs
decreases-has_clean_structs l = 5 * size-DataType (array_type l.array.now) + 1

abbrev pub decreases-are_clean : goal.decreases-are_clean
decreases-are_clean l = 5 * children_depth l.children.now

abbrev pub invariant-are_clean-loop-k : goal.invariant-are_clean-loop-k
invariant-are_clean-loop-k l = record {
  none : (i : ℕ) → HaveSlots (i + 1) l.children → (j : ℕ) (d : AvroField) → j < l.k → shows l.flaw (get_or l.fields j d).schema (slot_at (slots_across l.children i) j) ≡ false;
}
