-- The columns so far are those of the fields so far, and nothing in them is more than can be counted; the values of each dictionary in them
-- are the distinct slots but null, in order of first appearance.
use Rattle.std.proofs.Common.{take}
use Rattle.arrow_dictionaries.specs.Encoding.{HaveFirstValues}
use Rattle.json_flat.specs.Columns.{lent}
use Rattle.json_columns.specs.Faults.{AreMemberColumns, TooManyFields}
use Rattle.json_columns.proofs.column.+columns.Given as goal

abbrev pub invariant-read_fields-loop-near : goal.invariant-read_fields-loop-near
invariant-read_fields-loop-near l = record {
  columns : AreMemberColumns (take l.near l.fields) (lent l.values) l.columns.items;
  dictionaries : HaveFirstValues l.columns.items;
  counted : TooManyFields (take l.near l.fields) (lent l.values) → ⊥;
}
