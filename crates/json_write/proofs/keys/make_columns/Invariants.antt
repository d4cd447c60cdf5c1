-- The fields before this one have their columns.
use Rattle.std.proofs.Common.{map, take}
use Rattle.arrow_array.specs.Arrays.{array_type}
use Rattle.json_text.specs.Columns.{AreNamed}
use Rattle.json_write.specs.Rows.{names_of}
use Rattle.json_write.proofs.keys.make_columns.Given as goal

abbrev pub invariant-loop-k : goal.invariant-loop-k
invariant-loop-k l = AreNamed (names_of (take l.k l.fields)) (map array_type (take l.k l.arrays)) l.columns.items
