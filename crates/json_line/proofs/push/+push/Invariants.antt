-- The items, and the members, that were read so far were taken.
use Rattle.std.proofs.Common.{◌≡◌, ◌≤◌, length, map}
use Rattle.arrow_builders.specs.Shapes.{shape}
use Rattle.arrow_builders.specs.Tight.{IsTight}
use Rattle.json_line.proofs.Batches.{ItemsSoFar}
use Rattle.json_line.proofs.Rows.{MembersSoFar}
use Rattle.json_line.proofs.push.+push.Given as goal

abbrev pub invariant-push_items-loop-reader : goal.invariant-push_items-loop-reader
invariant-push_items-loop-reader l = record {
  same_shape : shape l.builder ≡ shape l.fn.builder;
  tight : IsTight l.builder;
  forward : length l.reader ≤ length l.fn.reader;
  reads : ItemsSoFar l.depth l.fn.reader l.reader l.fn.builder l.builder;
}

abbrev pub decreases-push_items-loop-reader : goal.decreases-push_items-loop-reader
decreases-push_items-loop-reader l = length l.reader

abbrev pub invariant-read_fields-loop-at : goal.invariant-read_fields-loop-at
invariant-read_fields-loop-at l = record {
  marks : l.structs.marks ≡ l.fn.structs.marks;
  shapes : map shape l.structs.values.items ≡ map shape l.fn.structs.values.items;
  forward : length l.reader ≤ length l.fn.reader;
  reads : MembersSoFar l.depth l.own l.fn.reader l.reader l.fn.structs.values.items l.structs.values.items;
}

abbrev pub decreases-read_fields-loop-at : goal.decreases-read_fields-loop-at
decreases-read_fields-loop-at l = length l.reader
