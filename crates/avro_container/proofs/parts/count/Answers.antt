use Rattle.std.proofs.Common.{arith, w64}
use Rattle.std.proofs.lemmas.Int.{to_z-of_z}
use Rattle.avro_container.proofs.Filled as filled
use Rattle.avro_container.proofs.parts.count.Goals as goal

pub returns-then-n-lt0-clause-stops : goal.returns-then-n-lt0-clause-stops
returns-then-n-lt0-clause-stops g c = filled.count_fails _ _ _ c.in_ok-n.n (to_z-of_z w64 c.in_ok-n.n (grind (arith, rw c.in_ok-n.was at c.number.type_inv))) c.if-n-lt0.true c.in_ok-n.ensures.ok

pub returns-clause-ok : goal.returns-clause-ok
returns-clause-ok g c = filled.count_passes _ _ _ c.in_ok-n.n (to_z-of_z w64 c.in_ok-n.n (grind (arith, rw c.in_ok-n.was at c.number.type_inv))) c.if-n-lt0.false c.in_ok-n.ensures.ok
