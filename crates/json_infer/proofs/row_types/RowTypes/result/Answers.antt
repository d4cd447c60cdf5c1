use Rattle.std.proofs.lemmas.Result.{IfOk-weaker}
use Rattle.json_infer.proofs.RowLaws.{type_is}
use Rattle.json_infer.proofs.row_types.RowTypes.result.Goals as goal

pub returns-clause-inferred : goal.returns-clause-inferred
returns-clause-inferred c =
    IfOk-weaker c.coerced.result _ _ (λ t h rows k. type_is c.self.inside.seen rows t h (let v = c.self.view_is in cc)) c.coerced.ensures.coerced
