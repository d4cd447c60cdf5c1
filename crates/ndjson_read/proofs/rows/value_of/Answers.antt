use Rattle.std.proofs.Common.{◌∙◌, ap, Err}
use Rattle.ndjson_read.proofs.Parsing.{no_value}
use Rattle.ndjson_read.proofs.rows.value_of.Goals as goal

pub returns-in-Err-clause-err : goal.returns-in-Err-clause-err
returns-in-Err-clause-err c =
    no_value _ c.in-Err.fault _ c.from.ensures (λ is. c.parse.ensures.depth (c.in-Err.is ∙ ap Err is)) (λ is. c.parse.ensures.not_deep (c.in-Err.is ∙ ap Err is))
    (λ is. c.parse.ensures.text (c.in-Err.is ∙ ap Err is))
