use Rattle.std.proofs.Common.{rules}
use Rattle.guide.proofs.Fields.{no_row, null_in_field}
use Rattle.guide.proofs.lines.long_at.Goals.{else-is_valid-via-then-is_valid+else-is_valid-2, else-is_valid-via-else-is_valid}
use Rattle.guide.proofs.lines.long_at.Goals as goal

pub returns-else-is_valid : goal.returns-else-is_valid
returns-else-is_valid c = λ place h. elim c.else-is_valid.branch [
  | else-is_valid-via-then-is_valid+else-is_valid-2 w ↦ null_in_field place c.args.i c.args.rows.now.slots c.args.longs.now.slots h c.requires.row (search rules) (search rules)
  | else-is_valid-via-else-is_valid w ↦ no_row place c.args.i c.args.rows.now.slots c.args.longs.now.slots h (search rules)
]
