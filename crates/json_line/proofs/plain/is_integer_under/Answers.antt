use Rattle.std.proofs.Common.{◌∙◌, sym, ap, cond}
use Rattle.json_flat.specs.Columns.{means}
use Rattle.json_flat.specs.Meaning.{int64_in, moment_in}
use Rattle.json_lend.specs.Standing.{lent_value}
use Rattle.json_line.proofs.Meanings.{under_any, plain_value}
use Rattle.json_line.specs.Builders.{is_timestamp}
use Rattle.json_line.proofs.plain.is_integer_under.Goals as goal

pub returns-in_default : goal.returns-in_default
returns-in_default c is = under_any (is_timestamp c.args.data_type.now) c.args.lent.now (plain_value c.args.lent.now c.in_default.not-Bool c.in_default.not-String c.in_default.not-Escaped)

pub returns-then-not-is_timestamp : goal.returns-then-not-is_timestamp
returns-then-not-is_timestamp c is = ap (λ b. means (cond b moment_in int64_in) (lent_value c.args.lent.now)) (sym c.is_timestamp.ensures ∙ c.if-not-is_timestamp.true)
