-- The logical type is looked at by its name.
use Rattle.std.proofs.Common.{refl, codes}
use Rattle.avro_file.specs.Types.{bytes_logical}
use Rattle.avro_file.proofs.Tables.{differs-from}
use Rattle.avro_file.proofs.logical.bytes_logical.Goals as goal

pub returns-in-Some : goal.returns-in-Some
unfolding bytes_logical
returns-in-Some c = rw (← c.logical_name.ensures, c.in-decimal.is, ← c.decimal_of.ensures, c.in-Some.is) refl

pub returns-in-None : goal.returns-in-None
unfolding bytes_logical
returns-in-None c = rw (← c.logical_name.ensures, c.in-decimal.is, ← c.decimal_of.ensures, c.in-None.is) refl

pub returns-in_default : goal.returns-in_default
unfolding bytes_logical
returns-in_default c = rw (← c.logical_name.ensures, differs-from c.logical_name.result.now (codes "decimal") c.in_default.not-decimal) refl
