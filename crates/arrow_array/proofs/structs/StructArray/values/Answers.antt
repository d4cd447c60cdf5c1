use Rattle.std.proofs.Common.{ap}
use Rattle.arrow_array.specs.Columns.{NestedColumn}
use Rattle.arrow_array.proofs.Records.{count_records, read_record}
use Rattle.arrow_array.proofs.Windows.{nested_slots_are}
use Rattle.arrow_array.proofs.structs.StructArray.values.Goals as goal

pub returns-clause-data_type : goal.returns-clause-data_type
returns-clause-data_type c = rw (c.as_slice.ensures.value, ← count_records c.self.invariant (nested_slots_are c.self.view_is), ← ap (λ (a : NestedColumn). a.data_type) c.self.view_is) c.self.invariant.kind

pub returns-clause-slots : goal.returns-clause-slots
returns-clause-slots c = rw c.as_slice.ensures.value (read_record c.self.invariant (nested_slots_are c.self.view_is))
