-- The copies are the members, or the fields, so far.
use Rattle.std.proofs.Common.{◌≡◌, take}
use Rattle.avro_schema.proofs.cloned.+cloned.Given as goal

abbrev pub invariant-clone_members-loop-member : goal.invariant-clone_members-loop-member
invariant-clone_members-loop-member l = (l.copies.items ≡ take l.member-index l.member-items) × (l.member-items ≡ l.members)

abbrev pub invariant-clone_fields-loop-field : goal.invariant-clone_fields-loop-field
invariant-clone_fields-loop-field l = (l.copies.items ≡ take l.field-index l.field-items) × (l.field-items ≡ l.fields)
