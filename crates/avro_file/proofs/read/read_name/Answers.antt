-- The name is looked up among the primitive types.
use Rattle.std.proofs.Common.{ap}
use Rattle.json_tree.specs.Keys.{value_of}
use Rattle.avro_file.specs.Types.{primitives}
use Rattle.avro_file.specs.Reading.{named, named_by}
use Rattle.avro_file.proofs.Tables.{none_of}
use Rattle.avro_file.proofs.read.read_name.Goals as goal

pub returns-in-null : goal.returns-in-null
unfolding named
returns-in-null c = ap (λ name. named_by (value_of name primitives)) c.in-null.is

pub returns-in-boolean : goal.returns-in-boolean
unfolding named
returns-in-boolean c = ap (λ name. named_by (value_of name primitives)) c.in-boolean.is

pub returns-in-int : goal.returns-in-int
unfolding named
returns-in-int c = ap (λ name. named_by (value_of name primitives)) c.in-int.is

pub returns-in-long : goal.returns-in-long
unfolding named
returns-in-long c = ap (λ name. named_by (value_of name primitives)) c.in-long.is

pub returns-in-float : goal.returns-in-float
unfolding named
returns-in-float c = ap (λ name. named_by (value_of name primitives)) c.in-float.is

pub returns-in-double : goal.returns-in-double
unfolding named
returns-in-double c = ap (λ name. named_by (value_of name primitives)) c.in-double.is

pub returns-in-bytes : goal.returns-in-bytes
unfolding named
returns-in-bytes c = ap (λ name. named_by (value_of name primitives)) c.in-bytes.is

pub returns-in-string : goal.returns-in-string
unfolding named
returns-in-string c = ap (λ name. named_by (value_of name primitives)) c.in-string.is

pub returns-in_default : goal.returns-in_default
unfolding named
returns-in_default c = ap named_by (none_of c.args.name.now primitives (c.in_default.not-null, (c.in_default.not-boolean, (c.in_default.not-int, (c.in_default.not-long, (c.in_default.not-float, (c.in_default.not-double, (c.in_default.not-bytes, (c.in_default.not-string, tt)))))))))
