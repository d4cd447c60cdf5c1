-- What is named so far, and then what is left with its names, is all with its names.
use Rattle.std.proofs.Common.{◌≡◌, ◌+◌, ◌++◌, drop}
use Rattle.avro_types.specs.Listed.{named_all, named_members, nameless_in_all, nameless_in_members}
use Rattle.avro_types.proofs.named.+named.Given as goal

abbrev pub invariant-named_fields-loop-field : goal.invariant-named_fields-loop-field
invariant-named_fields-loop-field l = record {
  named : l.named.items ++ named_all l.fixed_types (drop l.field-index l.fields) ≡ named_all l.fn.fixed_types l.fields;
  count : l.fixed_types + nameless_in_all (drop l.field-index l.fields) ≡ l.fn.fixed_types + nameless_in_all l.fields;
}

abbrev pub invariant-named_members-loop-member : goal.invariant-named_members-loop-member
invariant-named_members-loop-member l = record {
  named : l.named.items ++ named_members l.fixed_types (drop l.member-index l.members) ≡ named_members l.fn.fixed_types l.members;
  count : l.fixed_types + nameless_in_members (drop l.member-index l.members) ≡ l.fn.fixed_types + nameless_in_members l.members;
}
