use Rattle.arrow_core.specs.declared.physical.PrimitiveType.TheVariants.{Int32}
use Rattle.json_flat.specs.Columns.{lent}
use Rattle.json_columns.proofs.Counting.{few_plain}
use Rattle.json_columns.proofs.flat.read_int32.Goals as goal

pub returns-clause-counted : goal.returns-clause-counted
returns-clause-counted c = few_plain Int32 c.args.data_type.now (lent c.args.values.now) c.requires.plain.0
