use Rattle.line_encode.proofs.Primitives.{primitive_plan}
use Rattle.line_encode.proofs.make.make_primitive.Goals as goal

pub returns : goal.returns
returns c = primitive_plan c.args.nullable c.in_ok-primitive_of.field-0 c.args.data_type.now c.args.schema.now c.in_ok-primitive_of.ensures.readable c.in_ok-primitive_of.ensures.form
