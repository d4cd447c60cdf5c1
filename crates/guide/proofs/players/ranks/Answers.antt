use Rattle.std.proofs.Common.{refl}
use Rattle.guide.specs.Players.{rank_slot}
use Rattle.guide.proofs.Slots.{map_more}
use Rattle.guide.proofs.players.ranks.Goals as goal

pub loop-player-preserved : goal.loop-player-preserved
loop-player-preserved c =
    map_more rank_slot c.args.players.now c.loop-player.player-index c.player-item.result _ _ _ c.loop-player-test.true c.player-item.is c.loop-player.invariant c.in_ok-push.ensures.ok refl
