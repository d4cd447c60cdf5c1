use Rattle.arrow_array.specs.declared.array.Array.TheVariants as array
use Rattle.ndjson_avro.proofs.Straight.{lines_are_read}
use Rattle.ndjson_avro.proofs.rows.read_lines.Goals as goal

pub returns-clause-ok : goal.returns-clause-ok
returns-clause-ok c =
    lines_are_read c.args.row_type.now c.args.lines.now c.args.rows.now c.in_ok-columns.columns.items (array.Struct c.in_ok-array.array) c.requires c.in_ok-columns.ensures.ok c.in_ok-array.ensures.fits.filled c.in_ok-array.ensures.slots
