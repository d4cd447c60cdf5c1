-- The items, and the members, that were read so far were appended.
use Rattle.std.proofs.Common.{◌≤◌, length}
use Rattle.line_encode.specs.Plans.{Writes}
use Rattle.line_encode.proofs.Items.{ItemsSoFar}
use Rattle.line_encode.proofs.Members.{MembersSoFar}
use Rattle.line_encode.proofs.push.+push.Given as goal

abbrev pub invariant-push_items-loop-alloc : goal.invariant-push_items-loop-alloc
invariant-push_items-loop-alloc l = record {
  forward : length l.reader ≤ length l.fn.reader;
  reads : ItemsSoFar (Writes l.item) l.depth l.count l.fn.reader l.reader l.fn.out.items l.out.items;
}

abbrev pub decreases-push_items-loop-alloc : goal.decreases-push_items-loop-alloc
decreases-push_items-loop-alloc l = length l.reader

abbrev pub invariant-push_record-loop-at : goal.invariant-push_record-loop-at
invariant-push_record-loop-at l = record {
  next : l.next ≤ length l.plans;
  forward : length l.reader ≤ length l.fn.reader;
  reads : MembersSoFar l.depth l.names l.plans l.next l.fn.reader l.reader l.fn.out.items l.out.items;
}

abbrev pub decreases-push_record-loop-at : goal.decreases-push_record-loop-at
decreases-push_record-loop-at l = length l.reader
