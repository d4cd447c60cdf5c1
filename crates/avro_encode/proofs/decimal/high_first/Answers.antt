use Rattle.std.proofs.Common.{arith}
use Rattle.std.proofs.lemmas.List.{length-set}
use Rattle.std.proofs.Common.{◌∙◌}
use Rattle.avro_encode.proofs.TwosComplement.{written_more, written_all}
use Rattle.avro_encode.proofs.decimal.high_first.Goals as goal

pub loop-done-preserved : goal.loop-done-preserved
loop-done-preserved c = record {
  size = length-set c.loop-done.bytes _ _ ∙ c.loop-done.invariant.size;
  told = written_more c.loop-done.bytes _ c.args.size c.loop-done.done c.loop-done.rest c.loop-done.invariant.size c.requires c.loop-done-test.true c.loop-done.invariant.told;
}

pub returns-clause-bytes : goal.returns-clause-bytes
returns-clause-bytes c =
    written_all c.loop-done.bytes _ c.args.size c.loop-done.done c.loop-done.rest (omega (arith, c.loop-done-test.false, c.loop-done.auto.done-end)) c.loop-done.invariant.told
