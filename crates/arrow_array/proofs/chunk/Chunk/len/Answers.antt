use Rattle.arrow_array.proofs.Lengths.{as_first}
use Rattle.arrow_array.proofs.chunk.Chunk.len.Goals as goal

pub returns-in-Some-clause-all : goal.returns-in-Some-clause-all
returns-in-Some-clause-all c = rw (c.len.ensures, ← c.self.view_is) (as_first _ _ c.self.invariant (rw c.deref.ensures.value at c.in-Some.ensures.value))
