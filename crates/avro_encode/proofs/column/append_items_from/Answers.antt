use Rattle.std.proofs.Common.{arith}
use Rattle.arrow_array.specs.Arrays.{array_slots}
use Rattle.avro_encode.specs.Plain.{plain}
use Rattle.avro_encode.proofs.ColumnItems.{run_end, run_step}
use Rattle.avro_encode.proofs.column.append_items_from.Goals as goal

pub append_slot-requires-clause-types : goal.append_slot-requires-clause-types
append_slot-requires-clause-types c = (c.requires.fit c.loop-i.i (omega (arith, c.requires.end, c.loop-i-test.true))).0

pub loop-i-preserved : goal.loop-i-preserved
loop-i-preserved c =
    run_step (plain c.args.schema.now) (array_slots c.args.array.now) c.loop-i.i _ _ _ (omega (arith, c.requires.end, c.loop-i-test.true)) c.loop-i.invariant c.in_ok-append_slot.ensures.ok

pub returns : goal.returns
returns c = record { ok = run_end (plain c.args.schema.now) (array_slots c.args.array.now) c.loop-i.i _ _ (omega (arith, c.requires.end, c.loop-i-test.false)) c.loop-i.invariant }
