-- What a `RowTypes` keeps of rows that come one at a time. Nobody has to read this to believe the contracts of `RowTypes`: from
-- `new`, through each `add`, to `result` they hand on one fact, whatever it says.
use Rattle.std.specs.Prelude.{◌≡◌, List, map}
use Rattle.json_tree.specs.declared.value.Value.{Value}
use Rattle.json_infer.specs.declared.seen.Seen.{Seen}
use Rattle.json_infer.specs.declared.seen.Seen.TheVariants as seen
use Rattle.json_infer.specs.Inferred.{kept, type_of}
use Rattle.json_infer.specs.Seen.{seen_after}

-- the types of these rows came, and no others
abbrev pub StandsFor : Seen → List Value → Type 0
StandsFor s rows = s ≡ seen_after seen.Nothing (kept (map type_of rows))
