use Rattle.std.proofs.Common.{arith}
use Rattle.avro_encode.specs.Nullable.{nullable_encoding}
use Rattle.avro_encode.proofs.ColumnItems.{run_end, run_step}
use Rattle.avro_encode.proofs.column.append_run.Goals as goal

pub loop-i-preserved : goal.loop-i-preserved
loop-i-preserved g c =
    run_step (nullable_encoding c.args.nulls g.A.FlatArray.encoding) (g.A.FlatArray.slots c.args.array.now) c.loop-i.i _ _ _ (omega (arith, c.requires.end, c.loop-i-test.true)) c.loop-i.invariant c.in_ok-append_nullable.ensures.ok

pub returns : goal.returns
returns g c = record {
  ok = run_end (nullable_encoding c.args.nulls g.A.FlatArray.encoding) (g.A.FlatArray.slots c.args.array.now) c.loop-i.i _ _ (omega (arith, c.requires.end, c.loop-i-test.false)) c.loop-i.invariant;
}
