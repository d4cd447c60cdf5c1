use Rattle.arrow_array.proofs.Records.{records_say}
use Rattle.arrow_array.proofs.Windows.{nested_slots_are}
use Rattle.arrow_array.proofs.structs.StructArray.validity.Goals as goal

pub returns : goal.returns
returns c = rw c.as_ref.ensures.value (records_say c.self.invariant (nested_slots_are c.self.view_is))
