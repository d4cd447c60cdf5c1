-- The rows so far were appended.
use Rattle.std.proofs.Common.{◌≡◌, ◌++◌, map}
use Rattle.avro_write.specs.Rows.{rows}
use Rattle.avro_write.specs.Serializing.{Serializing}
use Rattle.avro_write.proofs.rows.append_each_row.Given as goal

abbrev pub invariant-loop-i : goal.invariant-loop-i
invariant-loop-i l = l.out.items ≡ l.fn.out.items ++ rows l.i (map (λ (s : Serializing). s.left) l.serializers)
