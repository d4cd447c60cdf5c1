use Rattle.std.proofs.Common.{arith, sym, ◌∙◌}
use Rattle.std.proofs.lemmas.Bool.{false≢true}
use Rattle.arrow_array.proofs.Lengths.{as_array}
use Rattle.arrow_array.proofs.chunk.are_same_length.Goals as goal

pub returns-then-len : goal.returns-then-len
returns-then-len c = (
  λ f. absurd (false≢true f),
  λ same.
      absurd (c.if-len.true (c.len.ensures ∙ as_array _ c.loop-i.i _ _ same (omega (arith, c.loop-i.auto.i)) c.loop-i-test.true c.index-arrays-0.is c.index-arrays-i.is ∙ sym c.len-in-loop-i.ensures)),
)
