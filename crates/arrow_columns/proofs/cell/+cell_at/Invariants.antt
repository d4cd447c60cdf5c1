use Rattle.arrow_core.specs.declared.types.DataType.{size-DataType}
use Rattle.arrow_array.specs.Arrays.{array_type}
use Rattle.arrow_columns.proofs.cell.+cell_at.Given as goal

abbrev pub decreases-cell_at : goal.decreases-cell_at
decreases-cell_at l = size-DataType (array_type l.array.now)
