-- What was written and what is left to write are the whole.
use Rattle.std.proofs.Common.{◌≡◌, ◌++◌, drop, map}
use Rattle.arrow_base.specs.Joined.{joined}
use Rattle.avro_file.specs.Writing.{schema_text_of, field_text_of}
use Rattle.arrow_base.proofs.Joins.{led}
use Rattle.avro_file.proofs.write.+write.Given as goal

abbrev pub invariant-push_members-loop-member : goal.invariant-push_members-loop-member
invariant-push_members-loop-member l = l.text.items ++ led l.before (map schema_text_of (drop l.member-index l.members)) ≡ l.initial.text.items ++ joined (map schema_text_of l.members)

abbrev pub invariant-push_fields-loop-field : goal.invariant-push_fields-loop-field
invariant-push_fields-loop-field l = l.text.items ++ led l.before (map field_text_of (drop l.field-index l.fields)) ≡ l.initial.text.items ++ joined (map field_text_of l.fields)
