use Rattle.std.proofs.Common.{arith, sym, [], slice_index_or, subst, ◌<◌, length}
use Rattle.avro_write.proofs.Items.{row_step, row_whole, left_of}
use Rattle.avro_write.proofs.rows.append_row.Goals as goal

pub append_item-requires : goal.append_item-requires
append_item-requires c = record {
  left = subst (λ s. c.args.i < length (left_of s)) (sym c.index-serializers-k.is) (c.requires.left c.loop-k.k c.index-serializers-k.result c.loop-k-test.true);
}

pub loop-k-preserved : goal.loop-k-preserved
loop-k-preserved c =
    row_step (λ s. slice_index_or (left_of s) c.args.i []) c.args.serializers.now c.loop-k.k c.index-serializers-k.result _ _ _ c.loop-k-test.true c.index-serializers-k.is c.loop-k.invariant c.in_ok-append_item.ensures.ok

pub returns : goal.returns
returns c = record { ok = row_whole left_of c.args.serializers.now c.args.i c.loop-k.k _ _ (omega (arith, c.loop-k-test.false)) c.loop-k.invariant }
