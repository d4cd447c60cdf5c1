-- The serializers so far have no item left.
use Rattle.std.proofs.Common.{◌≡◌, ℕ, ◌<◌, [], length, slice_index_or}
use Rattle.avro_write.specs.Serializing.{Serializing}
use Rattle.avro_write.proofs.rows.end_all.Given as goal

abbrev pub invariant-loop-k : goal.invariant-loop-k
invariant-loop-k l = record {
  size : length l.serializers ≡ length l.fn.serializers;
  ended : (j : ℕ) (d : Serializing) → j < l.k → (slice_index_or l.serializers j d).left ≡ [];
}
