-- The types so far and those that are left are all.
use Rattle.std.proofs.Common.{◌≡◌, drop}
use Rattle.json_infer.specs.declared.seen.Seen.TheVariants as seen
use Rattle.json_infer.specs.Seen.{seen_after}
use Rattle.json_infer.proofs.seen.Seen.of.Given as goal

abbrev pub invariant-loop-data_type : goal.invariant-loop-data_type
invariant-loop-data_type l = seen_after l.seen (drop l.data_type-index l.types) ≡ seen_after seen.Nothing l.types
