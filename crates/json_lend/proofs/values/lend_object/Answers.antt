use Rattle.json_lend.proofs.FoundLaws.{members-found}
use Rattle.json_lend.proofs.values.lend_object.Goals as goal

pub invariant_of-result : goal.invariant_of-result
invariant_of-result c = members-found c.args.depth c.args.reader.now c.again-start.result c.skip_object.new.reader c.again-start.ensures c.in_ok-skip_object.ensures.reads
