-- The first faulty row is among those that are left.
use Rattle.std.proofs.Common.{◌≡◌, drop}
use Rattle.json_columns.specs.Records.{first_fault}
use Rattle.json_columns.proofs.records.find_fault.Given as goal

abbrev pub invariant-loop-row : goal.invariant-loop-row
invariant-loop-row l = first_fault l.fields (drop l.row-index l.rows) ≡ first_fault l.fields l.rows
