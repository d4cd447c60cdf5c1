use Rattle.std.proofs.Common.{Some}
use Rattle.avro_schema.specs.declared.schema.FixedLogical.TheVariants as fixed_logical
use Rattle.arrow_flat.specs.Builders.{plain_node}
use Rattle.avro_reference.specs.Read.{fixed_at}
use Rattle.avro_flat.proofs.Many.{ManySoFar}
use Rattle.avro_flat.proofs.duration.decode_durations.Given as goal

abbrev pub invariant-loop : goal.invariant-loop
invariant-loop g l =
    ManySoFar g.C.ByteReader.rest g.C.ByteReader.shown g.C.ByteReader.calls g.C.ByteReader.identity (fixed_at 12 (Some fixed_logical.Duration)) l.count l.counter l.fn.cursor l.cursor l.fn.values.data_type l.values.data_type (plain_node l.fn.values) (plain_node l.values) l.fn.values.slots l.values.slots
