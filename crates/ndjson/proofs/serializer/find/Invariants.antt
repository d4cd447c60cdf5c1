-- The iterator may be asked for more and ends; what it gave so far was passed over.
use Rattle.std.proofs.Common.{◌≡◌, ◌≤◌, []}
use Rattle.std.specs.Iterator.{size}
use Rattle.json_write.proofs.PassedLemmas.{Passed}
use Rattle.ndjson.proofs.serializer.find.Given as goal

abbrev pub invariant-loop-given : goal.invariant-loop-given
invariant-loop-given g l = record {
  iterates : (goal.iterator-loop-given g).can_next l.arrays × (goal.iterator-loop-given g).is_finite l.arrays;
  passed : Passed g.I.Iterator.next_gives l.fn.arrays l.arrays;
  below : size (g.I.Iterator.remaining l.arrays) ≤ size (g.I.Iterator.remaining l.fn.arrays);
  empty : l.out.items ≡ [];
}
