use Rattle.std.proofs.Common.{◌≡◌, drop}
use Rattle.arrow_builders.specs.Children.{all_nodes}
use Rattle.arrow_builders.specs.Found.{found_at}
use Rattle.arrow_builders.proofs.+searches.Given as goal

-- what is left to find beneath the children to come is what was to be found beneath all
abbrev pub invariant-structs::find_below-loop-child : goal.invariant-structs::find_below-loop-child
invariant-structs::find_below-loop-child l = found_at (all_nodes (drop l.child-index l.children)) l.left ≡ found_at (all_nodes l.children) l.node
