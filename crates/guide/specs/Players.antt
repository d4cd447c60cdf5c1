-- The columns of players.
use Rattle.std.specs.Prelude.{List, [], ◌∷◌, map}
use Rattle.arrow_core.specs.declared.slot.Slot.{Slot}
use Rattle.arrow_core.specs.declared.slot.Slot.TheVariants as slot
use Rattle.arrow_flat.specs.Builders.{optional_slot}
use Rattle.guide.specs.declared.players.Player.{Player}

abbrev pub name_slot : Player → Slot
name_slot p = slot.String p.name

-- null where there is no rank
abbrev pub rank_slot : Player → Slot
rank_slot p = optional_slot slot.Integer p.rank

-- the slots of the two columns
abbrev pub player_slots : List Player → List (List Slot)
player_slots players = map name_slot players ∷ map rank_slot players ∷ []
