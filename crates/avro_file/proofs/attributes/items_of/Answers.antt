-- The value's layer tells what it is.
use Rattle.std.proofs.Common.{sym, ap, ◌∙◌, Some}
use Rattle.avro_file.proofs.Layers.{items_are, items_arent}
use Rattle.avro_file.proofs.attributes.items_of.Goals as goal

pub returns-in-Array : goal.returns-in-Array
returns-in-Array c = items_are c.args.value.now _ c.in-Array.is ∙ ap (λ t. Some t) (sym c.as_slice.ensures)

pub returns-in_default : goal.returns-in_default
returns-in_default c = items_arent c.args.value.now c.in_default.not-Array
