-- Offsets count the bytes of strings and of binary values.
use Rattle.std.proofs.Common.{◌≡◌, ℕ, ◌<◌, ◌≤◌, List, length, take, ap, arith}
use Rattle.std.specs.Borrow.{Bor}
use Rattle.std.specs.Prelude.{Result, Ok, Err, OnOk}
use Rattle.std.proofs.lemmas.List.{take_all}
use Rattle.arrow_core.specs.declared.error.Error.{Error}
use Rattle.json_tree.specs.Tree.{Json}
use Rattle.json_flat.specs.Meaning.{Meaning, Layer}
use Rattle.json_flat.specs.Columns.{IsTooLong, lent, total_size}

pub counted : {A : Type 0} (r : Result A Error) (greatest : ℕ) (f : Layer → Meaning) (vs : List (Bor Json)) (n bytes : ℕ) → length vs ≤ n → bytes ≡ total_size f (lent (take n vs)) → bytes ≤ greatest → OnOk r (IsTooLong greatest f (lent vs) → ⊥)
counted (Ok a) greatest f vs n bytes le b within =
    let all : total_size f (lent (take n vs)) ≡ total_size f (lent vs) = ap (λ (l : List (Bor Json)). total_size f (lent l)) (take_all n vs le) in
    λ over. never over all
  where
    never : greatest < total_size f (lent vs) → total_size f (lent (take n vs)) ≡ total_size f (lent vs) → ⊥
    never over all = absurd (omega (arith, over, all, b, within))
counted (Err e) greatest f vs n bytes le b within = tt
