use Rattle.std.proofs.Common.{◌≡◌}
use Rattle.arrow_flat.specs.Dictionaries.{dictionary_node}
use Rattle.avro_reference.specs.Read.{symbol_of}
use Rattle.avro_flat.proofs.Many.{ManySoFar}
use Rattle.avro_flat.proofs.symbol.decode_symbols.Given as goal

abbrev pub invariant-loop : goal.invariant-loop
invariant-loop g l = record {
  items : l.values.items ≡ l.fn.values.items;
  so_far : ManySoFar g.C.ByteReader.rest g.C.ByteReader.shown g.C.ByteReader.calls g.C.ByteReader.identity (symbol_of l.symbols) l.count l.counter l.fn.cursor l.cursor l.fn.values.data_type l.values.data_type (dictionary_node l.fn.values) (dictionary_node l.values) l.fn.values.slots l.values.slots;
}
