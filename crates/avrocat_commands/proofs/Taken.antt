-- What a source gives in pieces.
use Rattle.std.proofs.Common.{ℕ, List, [], ◌++◌, Option, Some, None, refl, sym, ap, ◌∙◌, append_assoc}
use Rattle.std.specs.Io.KnownBytes.{Consumes}

pub taken_none : (left : Option (List ℕ)) → Consumes left left []
taken_none None = tt
taken_none (Some bytes) = refl

pub taken_more : (first then last : Option (List ℕ)) (a b : List ℕ) → Consumes first then a → Consumes then last b → Consumes first last (a ++ b)
taken_more None then last a b p q = tt
taken_more (Some x) None last a b p q = absurd p
taken_more (Some x) (Some y) None a b p q = absurd q
taken_more (Some x) (Some y) (Some z) a b p q = p ∙ ap (λ (w : List ℕ). a ++ w) q ∙ sym (append_assoc a b z)

pub ruleset taken = (taken_none, taken_more)
