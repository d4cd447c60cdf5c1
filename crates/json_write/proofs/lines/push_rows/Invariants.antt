-- The lines of the rows before row i have been added, and what stood before stays.
use Rattle.std.proofs.Common.{◌≡◌, ◌++◌, codes, flat_map}
use Rattle.std.specs.Io.{StartsWith}
use Rattle.json_write.specs.Serializing.{column_rows}
use Rattle.json_write.proofs.lines.push_rows.Given as goal

abbrev pub invariant-loop-i : goal.invariant-loop-i
invariant-loop-i l = record {
  lines : l.out.items ≡ l.fn.out.items ++ flat_map (λ row. row ++ codes "\n") (column_rows l.arrays l.columns 0 l.i);
  kept : StartsWith l.out.items l.fn.out.items;
}
