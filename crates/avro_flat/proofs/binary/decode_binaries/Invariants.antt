use Rattle.arrow_flat.specs.Builders.{content_node}
use Rattle.avro_reference.specs.Read.{binary_at}
use Rattle.avro_flat.proofs.Many.{ManySoFar}
use Rattle.avro_flat.proofs.binary.decode_binaries.Given as goal

abbrev pub invariant-loop : goal.invariant-loop
invariant-loop g l =
    ManySoFar g.C.ByteReader.rest g.C.ByteReader.shown g.C.ByteReader.calls g.C.ByteReader.identity binary_at l.count l.counter l.fn.cursor l.cursor l.fn.values.data_type l.values.data_type (content_node l.fn.values) (content_node l.values) l.fn.values.slots l.values.slots
