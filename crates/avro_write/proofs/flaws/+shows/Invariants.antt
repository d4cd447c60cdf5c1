-- No slot so far shows the flaw. A list's items and a struct's fields are less deep than it is.
use Rattle.std.proofs.Common.{◌≡◌, ℕ, ◌+◌, ◌*◌, ◌<◌, ◌≤◌, false, get_or}
use Rattle.arrow_core.specs.declared.types.DataType.{size-DataType}
use Rattle.arrow_array.specs.Arrays.{array_slots, array_type}
use Rattle.arrow_array.specs.Depths.{children_depth}
use Rattle.arrow_array.specs.Slots.{slot_at}
use Rattle.avro_schema.specs.declared.schema.AvroField.{AvroField}
use Rattle.avro_encode.specs.Listed.{slots_across}
use Rattle.avro_write.specs.Flaws.{shows}
use Rattle.avro_write.proofs.flaws.+shows.Given as goal

abbrev pub decreases-shows : goal.decreases-shows
decreases-shows l = 5 * size-DataType (array_type l.array.now) + 4

abbrev pub decreases-member_shows : goal.decreases-member_shows
decreases-member_shows l = 5 * size-DataType (array_type l.array.now) + 3

abbrev pub decreases-value_shows : goal.decreases-value_shows
decreases-value_shows l = 5 * size-DataType (array_type l.array.now) + 2

abbrev pub decreases-list_shows : goal.decreases-list_shows
decreases-list_shows l = 5 * size-DataType (array_type l.array.now) + 1

abbrev pub decreases-struct_shows : goal.decreases-struct_shows
decreases-struct_shows l = 5 * size-DataType (array_type l.array.now) + 1

abbrev pub decreases-items_show : goal.decreases-items_show
decreases-items_show l = 5 * size-DataType (array_type l.part.now.array.now) + 5

abbrev pub decreases-fields_show : goal.decreases-fields_show
decreases-fields_show l = 5 * children_depth l.children.now

abbrev pub invariant-items_show-loop-k : goal.invariant-items_show-loop-k
invariant-items_show-loop-k l = record {
  none : (j : ℕ) → l.part.start ≤ j → j < l.k → shows l.flaw l.item (slot_at (array_slots l.part.array.now) j) ≡ false;
}

abbrev pub invariant-fields_show-loop-k : goal.invariant-fields_show-loop-k
invariant-fields_show-loop-k l = record {
  none : (j : ℕ) (d : AvroField) → j < l.k → shows l.flaw (get_or l.fields j d).schema (slot_at (slots_across l.children l.i) j) ≡ false;
}
