use Rattle.std.proofs.Common.{◌≡◌, ◌∙◌, ◌<◌, ◌≤◌, List, All, length, get_or, map, sym, ap, subst, arith}
use Rattle.std.proofs.lemmas.List.Elements.{All-push}
use Rattle.std.specs.Io.KnownBytes.{Appends}
use Rattle.avro_schema.specs.declared.schema.AvroField.{AvroField}
use Rattle.avro_schema.specs.declared.schema.Record.{out-Record}
use Rattle.avro_write.specs.Rows.{rows}
use Rattle.avro_write.specs.Serializing.{Serializing}
use Rattle.guide.proofs.Blocks.{all_items, all_paired, block_written, items_more, left_at, left_of, long_at, paired_more}
use Rattle.guide.proofs.written.write_chunk.Goals as goal

pub loop-k-preserved : goal.loop-k-preserved
loop-k-preserved g c =
    let n = c.len-rows.result in
    let fields = c.as_slice-fields.result.now in
    let columns = c.arrays-columns.result.now in
    let k = c.loop-k.k in
    let field = get_or fields k c.index-fields-k.result in
    let at = ap (λ (f : AvroField). get_or fields k f) c.index-fields-k.is in
    let a = c.index-columns-k.result in
    let s = c.in_ok-new_serializer.field-0 in
    let made = c.loop-k.serializers.items in
    let same : length fields ≡ length columns = omega arith in
    let within : k < length columns = omega (arith, c.loop-k-test.true) in
    let long = long_at n k columns c.args.chunk.now a c.arrays-columns.ensures.arrays c.len-rows.ensures.all within c.index-columns-k.is in
    let left = c.in_ok-new_serializer.ensures.items in
    record {
      left = rw c.in_ok-push.ensures.items (All-push (λ (x : Serializing). length x.left ≡ n) made s c.loop-k.invariant.left (left_at n field a s left long));
      items = rw c.in_ok-push.ensures.items (items_more fields columns k field a same within at c.index-columns-k.is made s left c.loop-k.invariant.items);
      paired = paired_more fields columns k field a same within at c.index-columns-k.is n long c.in_ok-new_serializer.ensures.pairs c.loop-k.invariant.paired;
    }

pub serialize-requires : goal.serialize-requires
serialize-requires g c = record {
  left = subst (λ (made : List Serializing). All (λ (x : Serializing). length x.left ≡ c.len-rows.result) made) (sym c.as_mut_slice.ensures.value) c.loop-k.invariant.left;
}

pub returns : goal.returns
returns g c =
    let n = c.len-rows.result in
    let fields = c.as_slice-fields.result.now in
    let columns = c.arrays-columns.result.now in
    let k = c.loop-k.k in
    let made = c.loop-k.serializers.items in
    let block = c.serialize.new.block in
    let same : length fields ≡ length columns = omega arith in
    let done : length columns ≤ k = omega (arith, c.loop-k-test.false) in
    record {
      written =
          block_written c.write_block.result (λ bytes. Appends (g.K.Sink.held c.args.sink.now) (g.K.Sink.held c.write_block.new.sink) bytes) n block.number_of_rows fields (out-Record c.args.root.now).fields c.args.marker columns c.args.chunk.now (map left_of made) block.bytes
          c.as_slice-fields.ensures c.arrays-columns.ensures.arrays c.in_ok-serialize.ensures.number
          (all_paired n fields columns k same done c.loop-k.invariant.paired) (all_items n fields columns k same done made c.loop-k.invariant.items)
          (c.in_ok-serialize.ensures.ok ∙ ap (λ (xs : List Serializing). rows n (map left_of xs)) c.as_mut_slice.ensures.value)
          c.write_block.ensures.ok;
    }
