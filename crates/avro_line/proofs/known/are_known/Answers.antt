use Rattle.std.proofs.Common.{arith}
use Rattle.avro_schema.specs.declared.schema.AvroField.{AvroField}
use Rattle.avro_schema.specs.ValidBlock.{EnumsFit}
use Rattle.avro_schema.proofs.KeptLemmas.{kept_by_index}
use Rattle.avro_line.proofs.known.are_known.Goals as goal

pub returns : goal.returns
returns c = λ t. (kept_by_index (λ (a : AvroField). EnumsFit a.schema) c.args.avro_fields.now c.args.projection.now).1 (λ k d lt e. c.loop-i.invariant.fit k d (omega (arith, lt, c.loop-i-test.false)) e)
