-- Each turn adds a comma where one is wanted, and a slot.
use Rattle.std.proofs.Common.{◌<◌, length, arith}
use Rattle.arrow_array.specs.Arrays.{array_slots}
use Rattle.avrocat_commands.proofs.Joined.{joined_more}
use Rattle.avrocat_commands.proofs.lines.Lines.push_slots.Goals as goal

pub loop-i-preserved : goal.loop-i-preserved
loop-i-preserved c =
    let within : c.loop-i.i < length (array_slots c.args.column.now) = omega arith in
    joined_more _ _ _ _ _ c.loop-i.i within c.loop-i.invariant c.in_ok-push_comma.ensures.ok c.in_ok-push_slot.ensures.ok
