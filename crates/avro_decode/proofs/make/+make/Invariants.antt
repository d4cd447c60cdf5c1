use Rattle.avro_decode.proofs.NewBuilders.{ChildrenSoFar}
use Rattle.avro_decode.proofs.make.+make.Given as goal

abbrev pub invariant-make_children-loop-i : goal.invariant-make_children-loop-i
invariant-make_children-loop-i l = record {
  made : ChildrenSoFar l.avro_fields l.fields l.i l.children.items;
}
