-- What a call gave is what a value stands for, unless memory ran out. Contracts of private functions alone cite this file.
use Rattle.std.specs.Prelude.{◌≡◌, Result, Ok, Err}
use Rattle.avro_file.specs.Outcome.{Outcome, wrong, reference, found}
use Rattle.avro_file.specs.declared.fault.SchemaTextFault.{SchemaTextFault}
use Rattle.avro_file.specs.declared.fault.SchemaTextFault.TheVariants.{Form, Reference, Depth, Memory}

abbrev pub Gives : {A : Type 0} → Result A SchemaTextFault → Outcome A → Type 0
Gives (Ok x) outcome = outcome ≡ found x
Gives (Err Form) outcome = outcome ≡ wrong
Gives (Err Reference) outcome = outcome ≡ reference
Gives (Err Depth) outcome = ⊥
Gives (Err Memory) outcome = Unit {0}
