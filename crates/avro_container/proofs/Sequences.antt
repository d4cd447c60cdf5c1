-- One more after a sequence.
use Rattle.std.proofs.Common.{ℕ, List, [], ◌∷◌, ◌++◌, sym, subst, append_assoc}
use Rattle.std.proofs.lemmas.List.{append-nil}
use Rattle.avro_schema.specs.Parts.{Grammar}
use Rattle.avro_container.specs.File.{Sequence, none, one}

pub one_more : {A : Type 0} (P : Grammar A) (a b : List ℕ) (xs : List A) (x : A) → Sequence P a xs → P b x → Sequence P (a ++ b) (xs ++ x ∷ [])
one_more P a b xs x none h = subst (λ z. Sequence P z (x ∷ [])) (append-nil b) (one b [] x [] h none)
one_more P a b xs x (one f r y ys p s) h =
    subst (λ z. Sequence P z (y ∷ (ys ++ x ∷ []))) (sym (append_assoc f r b)) (one f (r ++ b) y (ys ++ x ∷ []) p (one_more P r b ys x s h))
