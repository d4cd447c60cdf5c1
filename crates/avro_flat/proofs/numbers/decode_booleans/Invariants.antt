use Rattle.std.proofs.Common.{◌+◌, ◌≤◌}
use Rattle.arrow_flat.specs.Builders.{plain_node}
use Rattle.avro_reference.specs.Read.{boolean_at}
use Rattle.avro_flat.proofs.Many.{ManySoFar}
use Rattle.avro_flat.proofs.numbers.decode_booleans.Given as goal

abbrev pub invariant-loop : goal.invariant-loop
invariant-loop g l = record {
  many : ManySoFar g.C.ByteReader.rest g.C.ByteReader.shown g.C.ByteReader.calls g.C.ByteReader.identity boolean_at l.count l.counter l.fn.cursor l.cursor l.fn.values.data_type l.values.data_type (plain_node l.fn.values) (plain_node l.values) l.fn.values.slots l.values.slots;
  spare : l.count ≤ l.counter + l.values.spare;
}
