-- The name of each field before this one is a key.
use Rattle.std.proofs.Common.{◌≡◌, true, take}
use Rattle.json_columns.specs.Records.{are_there}
use Rattle.json_columns.proofs.records.has_all_keys.Given as goal

abbrev pub invariant-loop-near : goal.invariant-loop-near
invariant-loop-near l = are_there (take l.near l.fields) l.object.members ≡ true
