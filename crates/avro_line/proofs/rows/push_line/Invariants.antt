use Rattle.avro_line.proofs.RowLines.{RowUnderwayOf}
use Rattle.avro_line.proofs.rows.push_line.Given as goal

abbrev pub invariant-loop-i : goal.invariant-loop-i
invariant-loop-i g l = RowUnderwayOf l.avro_fields l.projection l.columns l.i l.rest (g.A.ByteReader.rest l.fn.cursor) (g.A.ByteReader.rest l.cursor) l.fn.out.items l.out.items
