-- The fields that are left decide.
use Rattle.std.proofs.Common.{◌≡◌, length}
use Rattle.json_tree.specs.Layout.{meets}
use Rattle.json_flat.specs.Names.{names_of}
use Rattle.json_flat.proofs.names.has_name.Given as goal

abbrev pub invariant-loop-first : goal.invariant-loop-first
invariant-loop-first l = meets l.name (names_of l.rest) ≡ meets l.name (names_of l.fields)

abbrev pub decreases-loop-first : goal.decreases-loop-first
decreases-loop-first l = length l.rest
