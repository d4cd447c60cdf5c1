-- The items before this one have been added, and what stood before stays.
use Rattle.std.proofs.Common.{◌≡◌, ◌-◌, ◌++◌, map, take, drop}
use Rattle.std.specs.Io.{StartsWith}
use Rattle.json_text.specs.JsonText.{text, joined}
use Rattle.json_text.proofs.items.push_fixed_size_binaries.Given as goal

abbrev pub invariant-loop-k : goal.invariant-loop-k
invariant-loop-k l = record {
  text : l.out.items ≡ l.fn.out.items ++ joined (take l.k (map (text l.array.data_type) (take (l.end - l.start) (drop l.start l.array.slots))));
  kept : StartsWith l.out.items l.fn.out.items;
}
