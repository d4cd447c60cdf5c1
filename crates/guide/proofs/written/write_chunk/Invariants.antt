use Rattle.std.proofs.Common.{◌≡◌, All, length, map, take}
use Rattle.arrow_array.specs.Arrays.{array_slots}
use Rattle.avro_write.specs.Laws.{ArePaired, plain_columns}
use Rattle.avro_write.specs.Serializing.{Serializing}
use Rattle.guide.proofs.written.write_chunk.Given as goal

-- the serializers so far have the encodings of their columns left, one for each row
abbrev pub invariant-loop-k : goal.invariant-loop-k
invariant-loop-k g l = record {
  left : All (λ (s : Serializing). length s.left ≡ l.rows) l.serializers.items;
  items : map (λ (s : Serializing). s.left) l.serializers.items ≡ plain_columns (take l.k l.fields) (map array_slots (take l.k l.columns));
  paired : ArePaired l.rows (take l.k l.fields) (map array_slots (take l.k l.columns));
}
