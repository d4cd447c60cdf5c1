-- How deep schemas may still nest; the items so far and those that are left give all.
use Rattle.std.proofs.Common.{◌≡◌, ◌+◌, ◌*◌, drop, map}
use Rattle.avro_file.specs.Outcome.{each}
use Rattle.avro_file.specs.Reading.{reading, field}
use Rattle.avro_file.proofs.Together.{so_far}
use Rattle.avro_file.proofs.read.+read.Given as goal

abbrev pub decreases-read_value : goal.decreases-read_value
decreases-read_value l = 6 * l.depth

abbrev pub decreases-read_union : goal.decreases-read_union
decreases-read_union l = 6 * l.depth + 1

abbrev pub decreases-read_inner : goal.decreases-read_inner
decreases-read_inner l = 6 * l.depth + 1

abbrev pub decreases-read_field : goal.decreases-read_field
decreases-read_field l = 6 * l.depth + 1

abbrev pub decreases-read_fields : goal.decreases-read_fields
decreases-read_fields l = 6 * l.depth + 2

abbrev pub decreases-read_record : goal.decreases-read_record
decreases-read_record l = 6 * l.depth + 3

abbrev pub decreases-read_typed : goal.decreases-read_typed
decreases-read_typed l = 6 * l.depth + 4

abbrev pub decreases-read_object : goal.decreases-read_object
decreases-read_object l = 6 * l.depth + 5

abbrev pub invariant-read_union-loop-member : goal.invariant-read_union-loop-member
invariant-read_union-loop-member l = so_far l.refers l.schemas.items (each (map (reading l.depth) (drop l.member-index l.members))) ≡ each (map (reading l.depth) l.members)

abbrev pub invariant-read_fields-loop-item : goal.invariant-read_fields-loop-item
invariant-read_fields-loop-item l = so_far l.refers l.fields.items (each (map (field (reading l.depth)) (drop l.item-index l.items))) ≡ each (map (field (reading l.depth)) l.items)
