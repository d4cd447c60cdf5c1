-- The fields that are left decide.
use Rattle.std.proofs.Common.{◌≡◌, length}
use Rattle.json_tree.specs.Layout.{distinct}
use Rattle.json_flat.specs.Names.{names_of}
use Rattle.json_flat.proofs.names.few_are_distinct.Given as goal

abbrev pub invariant-loop-first : goal.invariant-loop-first
invariant-loop-first l = distinct (names_of l.rest) ≡ distinct (names_of l.fields)

abbrev pub decreases-loop-first : goal.decreases-loop-first
decreases-loop-first l = length l.rest
