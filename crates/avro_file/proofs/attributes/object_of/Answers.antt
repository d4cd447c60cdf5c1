-- The value's layer tells what it is.
use Rattle.avro_file.proofs.Layers.{attributes_are, attributes_arent}
use Rattle.avro_file.proofs.attributes.object_of.Goals as goal

pub returns-in-Object : goal.returns-in-Object
returns-in-Object c = attributes_are c.args.value.now _ c.in-Object.is

pub returns-in_default : goal.returns-in_default
returns-in_default c = attributes_arent c.args.value.now c.in_default.not-Object
