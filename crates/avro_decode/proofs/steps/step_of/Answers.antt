use Rattle.avro_decode.proofs.FieldSteps.{union_step}
use Rattle.avro_decode.proofs.steps.step_of.Goals as goal

pub returns-in-Union : goal.returns-in-Union
returns-in-Union c = union_step c.args.schema.now c.in-Union.members c.as_slice.result.now c.step_of_union.result c.in-Union.is c.as_slice.ensures c.step_of_union.ensures
