use Rattle.std.proofs.Common.{◌∙◌, ◌+◌, ap, sym, drop, List}
use Rattle.arrow_builders.specs.Children.{all_nodes}
use Rattle.arrow_builders.specs.Found.{found_at}
use Rattle.arrow_builders.specs.MutableArrays.{nodes}
use Rattle.arrow_flat.specs.Nested.{marks_node}
use Rattle.arrow_flat.specs.Nodes.{Node}
use Rattle.arrow_builders.specs.declared.array.MutableArray.{MutableArray}
use Rattle.arrow_builders.proofs.Finds.{find-behind, find-step, or_at, one_found}
use Rattle.arrow_builders.proofs.Rows.{nodes-record}
use Rattle.arrow_builders.proofs.Flats.{is_flat}
use Rattle.arrow_builders.proofs.+searches.Goals as goal

pub array::MutableArray::find_node-flat_lengths-requires : goal.array::MutableArray::find_node-flat_lengths-requires
array::MutableArray::find_node-flat_lengths-requires t c = is_flat c.args.self.now c.in_default.not-List c.in_default.not-LargeList c.in_default.not-FixedSizeList c.in_default.not-Struct

pub array::MutableArray::find_node-returns-in_default : goal.array::MutableArray::find_node-returns-in_default
array::MutableArray::find_node-returns-in_default t c = one_found (nodes c.args.self.now) c.flat_lengths.result c.args.node c.here_or.result c.flat_lengths.ensures c.here_or.ensures

pub structs::DynMutableStructArray::find_node-returns-in-Err :
    goal.structs::DynMutableStructArray::find_node-returns-in-Err
structs::DynMutableStructArray::find_node-returns-in-Err t c =
    let b = c.args.self.now in
    let below = c.find_below.ensures ∙ ap (λ (bs : List MutableArray). found_at (all_nodes bs) c.in-Err.left) c.as_slice.ensures.value in
    find-behind (marks_node b.marks) (all_nodes b.values.items) _ c.args.node c.in-Err.left _ (sym c.in-Err.ensures) below
    ∙ sym (ap (λ (xs : List Node). found_at xs c.args.node) (nodes-record b))

pub structs::find_below-returns-in-Ok : goal.structs::find_below-returns-in-Ok
structs::find_below-returns-in-Ok t c =
    let s = find-step c.args.children.now c.child-item.result c.loop-child.child-index c.loop-child.left c.loop-child-test.true c.child-item.is in
    ap (or_at (all_nodes (drop (c.loop-child.child-index + 1) c.args.children.now))) c.in-Ok.ensures ∙ sym s ∙ c.loop-child.invariant

pub structs::find_below-loop-child-preserved : goal.structs::find_below-loop-child-preserved
structs::find_below-loop-child-preserved t c =
    let s = find-step c.args.children.now c.child-item.result c.loop-child.child-index c.loop-child.left c.loop-child-test.true c.child-item.is in
    ap (or_at (all_nodes (drop (c.loop-child.child-index + 1) c.args.children.now))) c.in-Err.ensures ∙ sym s ∙ c.loop-child.invariant
