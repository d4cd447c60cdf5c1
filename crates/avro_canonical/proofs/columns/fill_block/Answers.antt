use Rattle.std.proofs.Common.{◌≡◌, ◌<◌, ℕ, List, length, slice_index_or, sym, subst}
use Rattle.avro_write.specs.Serializing.{Serializing}
use Rattle.avro_canonical.proofs.Serializers.{accepted_length, as_many_left}
use Rattle.avro_canonical.proofs.columns.fill_block.Goals as goal

pub serialize-requires : goal.serialize-requires
serialize-requires c = record {
  left = subst (λ (made : List Serializing). (k : ℕ) (d : Serializing) → k < length made → length (slice_index_or made k d).left ≡ c.args.block.now.number_of_rows) (sym c.as_mut_slice.ensures.value)
      (as_many_left c.args.block.now.number_of_rows c.args.fields.now c.args.columns.now c.in_ok-serializers.serializers.items (accepted_length c.args.fields.now c.args.columns.now c.requires.accepted) c.requires.lengths c.in_ok-serializers.ensures.items);
}
