use Rattle.std.proofs.Common.{◌∙◌, ◌<◌, length, arith}
use Rattle.std.proofs.lemmas.List.{length-set}
use Rattle.avro_write.proofs.Items.{ended_more, left_of}
use Rattle.avro_write.proofs.rows.end_all.Goals as goal

pub loop-k-preserved : goal.loop-k-preserved
loop-k-preserved c =
    let there : c.loop-k.k < length c.loop-k.serializers = omega (arith, c.loop-k-test.true, c.loop-k.invariant.size) in
    record {
      size = length-set c.loop-k.serializers c.loop-k.k _ ∙ c.loop-k.invariant.size;
      ended = λ j d l. ended_more left_of c.loop-k.serializers c.loop-k.k c.end.new.self there c.end.ensures c.loop-k.invariant.ended j d (omega (arith, l));
    }

pub returns : goal.returns
returns c = λ j d l. c.loop-k.invariant.ended j d (omega (arith, l, c.loop-k.invariant.size, c.loop-k-test.false))
