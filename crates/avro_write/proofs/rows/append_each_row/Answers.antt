use Rattle.std.proofs.Common.{map, arith}
use Rattle.avro_write.proofs.Items.{rows_step, left_of}
use Rattle.avro_write.proofs.rows.append_each_row.Goals as goal

pub append_row-requires : goal.append_row-requires
append_row-requires c = record { left = λ k d l. omega (arith, c.requires.left k d l, c.loop-i-test.true) }

pub loop-i-preserved : goal.loop-i-preserved
loop-i-preserved c = rows_step (map left_of c.args.serializers.now) c.loop-i.i _ _ _ c.loop-i.invariant c.in_ok-append_row.ensures.ok
