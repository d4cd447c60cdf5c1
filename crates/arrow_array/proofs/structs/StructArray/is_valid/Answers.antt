use Rattle.std.proofs.Common.{arith, ◌∙◌}
use Rattle.arrow_array.proofs.Records.{count_records, valid_record}
use Rattle.arrow_array.proofs.Windows.{nested_slots_are}
use Rattle.arrow_array.proofs.structs.StructArray.is_valid.Goals as goal

pub is_valid-requires-clause-within : goal.is_valid-requires-clause-within
is_valid-requires-clause-within c = omega (arith, c.requires, count_records c.self.invariant (nested_slots_are c.self.view_is))

pub returns : goal.returns
returns c = c.is_valid.ensures ∙ valid_record c.self.invariant (nested_slots_are c.self.view_is) c.args.i c.requires
