-- The value's layer tells what it is.
use Rattle.std.proofs.Common.{sym, ap, ◌∙◌, Some}
use Rattle.avro_file.proofs.Layers.{string_is, string_isnt}
use Rattle.avro_file.proofs.attributes.string_of.Goals as goal

pub returns-in-String : goal.returns-in-String
returns-in-String c = string_is c.args.value.now _ c.in-String.is ∙ ap (λ t. Some t) (sym c.as_str.ensures)

pub returns-in_default : goal.returns-in_default
returns-in_default c = string_isnt c.args.value.now c.in_default.not-String
