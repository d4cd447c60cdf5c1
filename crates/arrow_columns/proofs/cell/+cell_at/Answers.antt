use Rattle.std.proofs.Common.{arith, sym, ◌∙◌}
use Rattle.arrow_array.specs.Falls.{children_below}
use Rattle.arrow_array.proofs.Records.{capacity}
use Rattle.arrow_columns.proofs.Same.{not_held}
use Rattle.arrow_columns.proofs.cell.+cell_at.Goals as goal

pub returns-in-Struct-clause-fits : goal.returns-in-Struct-clause-fits
returns-in-Struct-clause-fits t c = let l = rw c.in-Struct.is at c.requires in capacity _ _ _ _ c.values.ensures.data_type (omega (arith, l))

pub returns-in-Struct-clause-depth : goal.returns-in-Struct-clause-depth
returns-in-Struct-clause-depth t c = rw c.in-Struct.is (children_below _ _ _ c.values.ensures.data_type)

pub returns-in-Null-clause-slot : goal.returns-in-Null-clause-slot
returns-in-Null-clause-slot t c = rw c.in-Null.is (not_held _ (sym c.is_valid-held.ensures.never ∙ c.is_valid-held.ensures.held))
