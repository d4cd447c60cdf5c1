-- A text has at most 128 brackets open at once.
use Rattle.std.proofs.Common.{arith}
use Rattle.avro_file.proofs.Stable.{stable}
use Rattle.avro_file.proofs.schema_laws.depth_is_enough.Goals as goal

pub returns : goal.returns
returns c bytes value depth j l = stable 128 value (128, omega arith, j.1.2.1, j.1.2.3) depth 129 (omega (arith, l)) (omega arith)
