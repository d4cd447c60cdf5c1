use Rattle.std.proofs.Common.{arith, ◌∙◌, inl, inr}
use Rattle.std.proofs.lemmas.List.{length-set}
use Rattle.avro_container.proofs.ShortestLemmas.{encoded_more, encoded_all}
use Rattle.avro_container.proofs.encoded.EncodedNumber.of_unsigned.Goals as goal
use Rattle.avro_container.proofs.encoded.EncodedNumber.of_unsigned.Goals.{then-loop-rest-test+else-len-lt9, else-loop-rest-test}

pub loop-rest-preserved : goal.loop-rest-preserved
loop-rest-preserved c = record {
  within = omega (arith, c.if-len-lt9.true);
  size = length-set c.loop-rest.bytes c.loop-rest.len _ ∙ c.loop-rest.invariant.size;
  so_far = encoded_more c.loop-rest.bytes _ c.loop-rest.len c.loop-rest.rest c.if-len-lt9.true (omega (arith, c.if-len-lt9.true, c.loop-rest.invariant.size)) c.loop-rest-test.true c.loop-rest.invariant.so_far;
}

pub returns : goal.returns
returns c =
    encoded_all c.loop-rest.bytes _ c.loop-rest.len c.loop-rest.rest c.loop-rest.invariant.within (omega (arith, c.loop-rest.invariant.within, c.loop-rest.invariant.size))
    (elim c.loop-rest-test.branch [ then-loop-rest-test+else-len-lt9 w ↦ inr w.if-len-lt9.false | else-loop-rest-test w ↦ inl w.loop-rest-test.false ])
    c.loop-rest.invariant.so_far
