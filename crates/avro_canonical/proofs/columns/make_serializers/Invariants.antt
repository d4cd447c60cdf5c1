-- The serializers so far show the encodings of their columns, whose slots have them.
use Rattle.std.proofs.Common.{◌≡◌, ◌++◌, ◌<◌, ℕ, All, get_or, length, map, drop}
use Rattle.arrow_array.specs.declared.array.Array.{Array}
use Rattle.arrow_array.specs.Arrays.{array_slots}
use Rattle.avro_schema.specs.declared.schema.AvroField.{AvroField}
use Rattle.avro_encode.specs.Pairs.{Pairs}
use Rattle.avro_write.specs.Serializing.{Serializing}
use Rattle.avro_canonical.specs.Columns.{encodings}
use Rattle.avro_canonical.proofs.columns.make_serializers.Given as goal

abbrev pub invariant-loop-k : goal.invariant-loop-k
invariant-loop-k l = record {
  left : map (λ (s : Serializing). s.left) l.serializers.items ++ encodings (drop l.k l.fields) (map array_slots (drop l.k l.columns)) ≡ encodings l.fields (map array_slots l.columns);
  encoded : (j : ℕ) (f : AvroField) (a : Array) → j < l.k → j < length l.columns → All (Pairs (get_or l.fields j f).schema) (array_slots (get_or l.columns j a));
}
