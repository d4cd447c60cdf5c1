-- Each key before this one is the name of a field.
use Rattle.std.proofs.Common.{◌≡◌, List, true, take}
use Rattle.arrow_core.specs.declared.types.Field.{Field}
use Rattle.json_columns.specs.Names.{AreNames}
use Rattle.json_columns.specs.Records.{are_known}
use Rattle.json_columns.proofs.records.has_known_keys.Given as goal

abbrev pub invariant-loop-near : goal.invariant-loop-near
invariant-loop-near l = (fields : List Field) → AreNames fields l.names → are_known fields (take l.near l.member-items) ≡ true
