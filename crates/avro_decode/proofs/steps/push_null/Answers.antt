use Rattle.avro_decode.proofs.FieldSteps.{on_pushed}
use Rattle.avro_decode.proofs.steps.push_null.Goals as goal

pub returns-clause-ok : goal.returns-clause-ok
returns-clause-ok c = on_pushed c.pushed.result c.push_null.result _ c.pushed.ensures.ok c.push_null.ensures.ok

pub returns-clause-tight : goal.returns-clause-tight
returns-clause-tight c = on_pushed c.pushed.result c.push_null.result _ c.pushed.ensures.ok c.push_null.ensures.tight

pub returns-clause-has_capacity : goal.returns-clause-has_capacity
returns-clause-has_capacity c = λ h. c.pushed.ensures.answered (c.push_null.ensures.has_capacity h)
