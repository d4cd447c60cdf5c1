use Rattle.std.proofs.Common.{◌≡◌, map, take}
use Rattle.guide.specs.Players.{rank_slot}
use Rattle.guide.proofs.players.ranks.Given as goal

-- the ranks of the players so far
abbrev pub invariant-loop-player : goal.invariant-loop-player
invariant-loop-player l = l.ranks.slots ≡ map rank_slot (take l.player-index l.players)
