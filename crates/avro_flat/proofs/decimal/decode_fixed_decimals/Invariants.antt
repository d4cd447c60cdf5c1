use Rattle.arrow_flat.specs.Builders.{plain_node}
use Rattle.avro_reference.specs.Prefix.{bytes_at}
use Rattle.avro_reference.specs.Read.{decimal_at}
use Rattle.avro_flat.proofs.Many.{ManySoFar}
use Rattle.avro_flat.proofs.decimal.decode_fixed_decimals.Given as goal

abbrev pub invariant-loop : goal.invariant-loop
invariant-loop g l =
    ManySoFar g.C.ByteReader.rest g.C.ByteReader.shown g.C.ByteReader.calls g.C.ByteReader.identity (decimal_at (bytes_at l.size)) l.count l.counter l.fn.cursor l.cursor l.fn.values.data_type l.values.data_type (plain_node l.fn.values) (plain_node l.values) l.fn.values.slots l.values.slots
