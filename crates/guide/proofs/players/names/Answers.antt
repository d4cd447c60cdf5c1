use Rattle.std.proofs.Common.{ap}
use Rattle.arrow_core.specs.declared.slot.Slot.TheVariants as slot
use Rattle.guide.specs.Players.{name_slot}
use Rattle.guide.proofs.Slots.{map_more}
use Rattle.guide.proofs.players.names.Goals as goal

pub loop-player-preserved : goal.loop-player-preserved
loop-player-preserved c =
    map_more name_slot c.args.players.now c.loop-player.player-index c.player-item.result _ _ _ c.loop-player-test.true c.player-item.is c.loop-player.invariant c.in_ok-push.ensures.ok (ap slot.String c.as_str.ensures)
