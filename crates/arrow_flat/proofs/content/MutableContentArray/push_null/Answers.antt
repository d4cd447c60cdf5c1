use Rattle.std.proofs.Common.{◌≡◌, ◌⊎◌, inl, inr, ap, arith, Result, Ok, Err, IfErr}
use Rattle.arrow_core.specs.declared.error.Error.{Error}
use Rattle.arrow_core.specs.declared.error.Error.TheVariants.{OutOfMemory, Overflow}
use Rattle.arrow_flat.proofs.content.MutableContentArray.push_null.Goals as goal

out_of_memory : (r : Result (Unit {0}) Error) → IfErr r (λ e. (e ≡ Overflow) ⊎ (e ≡ OutOfMemory)) → (r ≡ Err Overflow → ⊥) → IfErr r (λ e. e ≡ OutOfMemory)
out_of_memory (Ok x) h n = tt
out_of_memory (Err e) h n = elim h [ inl q ↦ absurd (n (ap Err q)) | inr q ↦ q ]

pub returns-clause-memory : goal.returns-clause-memory
returns-clause-memory g c = out_of_memory _ c.push_slot.ensures.errors (λ o. let l = c.push_slot.ensures.overflow.0 o in omega (arith, l, c.push_slot.ensures.limit))

pub returns-clause-has_capacity : goal.returns-clause-has_capacity
returns-clause-has_capacity g c = λ h. c.push_slot.ensures.has_capacity h (omega arith) (omega (arith, c.push_slot.ensures.limit))

pub push_slot-requires : goal.push_slot-requires
push_slot-requires g c = g.met.C.Content.holds_nothing
