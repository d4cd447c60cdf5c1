use Rattle.std.proofs.Common.{◌≡◌}
use Rattle.avro_schema.specs.Counts.{risen}
use Rattle.avro_schema.proofs.Groups.{Begun}
use Rattle.avro_schema.proofs.number.next_number.Given as goal

abbrev pub invariant-loop-index : goal.invariant-loop-index
invariant-loop-index g l = record {
  begun : Begun (g.C.Cursor.rest l.fn.cursor) (g.C.Cursor.rest l.cursor) l.unsigned l.index;
  shown : g.C.Cursor.shown l.cursor ≡ risen (g.C.Cursor.shown l.fn.cursor) l.index;
  jumped : g.C.Cursor.jumped l.cursor ≡ g.C.Cursor.jumped l.fn.cursor;
  calls : g.C.Cursor.calls l.cursor ≡ risen (g.C.Cursor.calls l.fn.cursor) l.index;
}
