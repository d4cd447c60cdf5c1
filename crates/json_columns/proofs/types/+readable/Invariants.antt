-- Values are read under the type of each field before this one.
use Rattle.std.proofs.Common.{◌≡◌, true, take}
use Rattle.json_columns.specs.Gathered.{all_have_reading}
use Rattle.json_columns.proofs.types.+readable.Given as goal

abbrev pub invariant-all_have_reading-loop-field : goal.invariant-all_have_reading-loop-field
invariant-all_have_reading-loop-field l = all_have_reading (take l.field-index l.fields) ≡ true
