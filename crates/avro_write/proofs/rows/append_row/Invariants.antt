-- The items of the serializers so far were appended.
use Rattle.std.proofs.Common.{◌≡◌, ◌++◌, [], take, flat_map, slice_index_or}
use Rattle.avro_write.specs.Serializing.{Serializing}
use Rattle.avro_write.proofs.rows.append_row.Given as goal

abbrev pub invariant-loop-k : goal.invariant-loop-k
invariant-loop-k l = l.out.items ≡ l.fn.out.items ++ flat_map (λ (s : Serializing). slice_index_or s.left l.i []) (take l.k l.serializers)
