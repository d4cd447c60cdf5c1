use Rattle.std.proofs.Common.{◌≡◌, map, take}
use Rattle.guide.specs.Players.{name_slot}
use Rattle.guide.proofs.players.names.Given as goal

-- the names of the players so far
abbrev pub invariant-loop-player : goal.invariant-loop-player
invariant-loop-player l = l.names.slots ≡ map name_slot (take l.player-index l.players)
