use Rattle.arrow_array.proofs.Records.{count_records}
use Rattle.arrow_array.proofs.Windows.{nested_slots_are}
use Rattle.arrow_array.proofs.structs.StructArray.len.Goals as goal

pub returns : goal.returns
returns c = count_records c.self.invariant (nested_slots_are c.self.view_is)
