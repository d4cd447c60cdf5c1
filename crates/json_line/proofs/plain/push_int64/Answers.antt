use Rattle.std.proofs.Common.{◌∙◌, sym, ap, cond}
use Rattle.json_flat.specs.Columns.{means}
use Rattle.json_flat.specs.Meaning.{int64_in, moment_in}
use Rattle.json_lend.specs.Standing.{lent_value}
use Rattle.json_line.specs.Builders.{is_timestamp}
use Rattle.json_line.proofs.Meanings.{pushed_under}
use Rattle.json_line.proofs.plain.push_int64.Goals as goal

pub returns-clause-ok : goal.returns-clause-ok
returns-clause-ok c =
    let p = c.push_integer in
    let v = lent_value c.args.lent.now in
    let e = ap (λ t. means (cond (is_timestamp t) moment_in int64_in) v) (sym c.data_type.ensures.same) ∙ c.is_integer_under.ensures c.if-not-is_integer_under.false in
    pushed_under p.result int64_in (cond (is_timestamp c.args.builder.now.data_type) moment_in int64_in) v c.args.builder.now.slots p.new.builder.slots e p.ensures.ok
