-- What was appended and what is left are the whole, and what stood before stays.
use Rattle.std.proofs.Common.{◌≡◌, ◌++◌, drop, map}
use Rattle.std.specs.Io.{StartsWith}
use Rattle.arrow_base.specs.Joined.{joined}
use Rattle.json_infer.specs.Texts.{member_text, type_text}
use Rattle.arrow_base.proofs.Joins.{led}
use Rattle.json_infer.proofs.text.+texts.Given as goal

abbrev pub invariant-push_members-loop-field : goal.invariant-push_members-loop-field
invariant-push_members-loop-field l = record {
  text : l.out.items ++ led l.before (map (λ f. member_text f.name (type_text f.data_type)) (drop l.field-index l.fields))
      ≡ l.initial.out.items ++ joined (map (λ f. member_text f.name (type_text f.data_type)) l.fields);
  kept : StartsWith l.out.items l.initial.out.items;
}
