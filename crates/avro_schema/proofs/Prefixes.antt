-- Lists that begin alike.
use Rattle.std.proofs.Common.{◌≡◌, ℕ, List, [], ◌∷◌, ◌++◌, length, refl, arith}

pub head_is : {A : Type 0} {a b : A} {xs ys : List A} → a ∷ xs ≡ b ∷ ys → a ≡ b
head_is e = cc

pub tail_is : {A : Type 0} {a b : A} {xs ys : List A} → a ∷ xs ≡ b ∷ ys → xs ≡ ys
tail_is e = cc

-- prefixes of the same length are the same
pub same_length : (a b x y : List ℕ) → length a ≡ length b → a ++ x ≡ b ++ y → a ≡ b
same_length [] [] x y l e = refl
same_length [] (c ∷ b) x y l e = absurd (omega (arith, l))
same_length (c ∷ a) [] x y l e = absurd (omega (arith, l))
same_length (c ∷ a) (d ∷ b) x y l e = λ i. head_is e i ∷ same_length a b x y (omega (arith, l)) (tail_is e) i
