use Rattle.avro_line.proofs.RowLines.{RowsUnderwayOf}
use Rattle.avro_line.proofs.rows.push_lines.Given as goal

abbrev pub invariant-loop : goal.invariant-loop
invariant-loop g l = RowsUnderwayOf l.avro_fields l.projection l.columns l.number_of_rows l.counter (g.A.ByteReader.rest l.fn.cursor) (g.A.ByteReader.rest l.cursor) l.fn.out.items l.out.items
