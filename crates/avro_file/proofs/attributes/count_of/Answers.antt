-- The value's layer tells what it is.
use Rattle.std.proofs.Common.{sym, ◌∙◌}
use Rattle.avro_file.proofs.Layers.{count_is, count_isnt}
use Rattle.avro_file.proofs.attributes.count_of.Goals as goal

pub returns-in-Number : goal.returns-in-Number
returns-in-Number c = c.number_count.ensures ∙ sym (count_is c.args.value.now _ c.in-Number.is)

pub returns-in_default : goal.returns-in_default
returns-in_default c = sym (count_isnt c.args.value.now c.in_default.not-Number)
