use Rattle.std.proofs.Common.{◌∙◌}
use Rattle.arrow_array.specs.declared.array.Array.TheVariants as array
use Rattle.ndjson.proofs.RowLaws.{rows_made}
use Rattle.ndjson.proofs.line_columns.LineColumns.read_rows.Goals as goal

pub returns-clause-ok : goal.returns-clause-ok
returns-clause-ok c =
    rows_made c.args.row_type.now c.args.self.now c.args.lines.now c.in_ok-columns.columns.items (array.Struct c.in_ok-array.array) c.requires c.in_ok-columns.ensures.readable
    (c.in_ok-array.ensures.data_type ∙ c.in_ok-data_type.ensures.copy) c.in_ok-columns.ensures.ok c.in_ok-array.ensures.fits.filled c.in_ok-array.ensures.slots
