use Rattle.avro_reference.proofs.Counting.{byte_moves}
use Rattle.avro_flat.proofs.numbers.next_boolean.Goals as goal

pub returns-then-byte-gt1-clause-moves : goal.returns-then-byte-gt1-clause-moves
returns-then-byte-gt1-clause-moves g c = let e = c.in_ok-byte.ensures in byte_moves _ _ _ _ _ e.read e.calls

pub returns-clause-moves : goal.returns-clause-moves
returns-clause-moves g c = let e = c.in_ok-byte.ensures in byte_moves _ _ _ _ _ e.read e.calls
