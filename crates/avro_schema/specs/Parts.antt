-- How bytes fall into parts. A `Grammar A` says which bytes encode which values of A.
use Rattle.std.specs.Prelude.{◌≡◌, ℕ, zero, suc, ◌^◌, ◌<◌, ℤ, pos, negsuc, List, [], ◌∷◌, ◌++◌, length}
use Rattle.avro_schema.specs.Number.{Number}

abbrev pub Grammar : Type 0 → Type 1
Grammar A = List ℕ → A → Type 0

-- bytes of P, and after them bytes of what Q says of their value
pub record Then {A B : Type 0} (P : Grammar A) (Q : A → Grammar B) (bytes : List ℕ) (y : B) : Type 0 where
  pub prefix : List ℕ
  pub back : List ℕ
  pub joined : bytes ≡ prefix ++ back
  pub value : A
  pub first : P prefix value
  pub second : Q value back y

-- bytes of P whose value meets R, which stand for f of it
pub record Meaning {A B : Type 0} (P : Grammar A) (R : A → Type 0) (f : A → B) (bytes : List ℕ) (y : B) : Type 0 where
  pub value : A
  pub encoded : P bytes value
  pub allowed : R value
  pub means : y ≡ f value

-- bytes of P, with how many they are
abbrev pub Measured : {A : Type 0} → Grammar A → Grammar (A × ℕ)
Measured P bytes m = P bytes m.0 × (m.1 ≡ length bytes)

-- any n bytes, which stand for themselves
abbrev pub Raw : ℕ → Grammar (List ℕ)
Raw n bytes x = (length bytes ≡ n) × (x ≡ bytes)

-- a number n of 0 or more, then n bytes (Avro 1.11, "Primitive Types": bytes and string)
abbrev pub Sized : Grammar (List ℕ)
Sized = Then Number (λ n back y. (n ≡ pos (length back)) × (y ≡ back))

-- n encodings of P, one after another
abbrev pub Many : {A : Type 0} → Grammar A → ℕ → Grammar (List A)
Many P zero bytes xs = (bytes ≡ []) × (xs ≡ [])
Many {A} P (suc n) bytes xs = Then P (λ x back ys. (more : List A) × (ys ≡ x ∷ more) × Many P n back more) bytes xs

-- the items of an array's block, after its count c: c items where c is above 0; where it is below,
-- -c items after their length in bytes (Avro 1.11, "Arrays"), which has to be exact: the standard leaves open
-- what a false one means. No block has the count -2 ^ 63.
abbrev pub BlockOf : {A : Type 0} → Grammar A → ℤ → Grammar (List A)
BlockOf P (pos zero) bytes xs = ⊥
BlockOf P (pos (suc n)) bytes xs = (suc n < 2 ^ 63) × Many P (suc n) bytes xs
BlockOf P (negsuc n) bytes xs =
    (suc n < 2 ^ 63) × Then Number (λ size items ys. (size ≡ pos (length items)) × Many P (suc n) items ys) bytes xs

-- an array: blocks, and then the number 0
pub data Blocks {A : Type 0} (P : List ℕ → A → Type 0) : List ℕ → List A → Type 0 where
  last : {bytes : List ℕ} → Number bytes (pos 0) → Blocks P bytes []
  block : (prefix items rest : List ℕ) (count : ℤ) (xs ys : List A) → Number prefix count → BlockOf P count items xs → Blocks P rest ys → Blocks P (prefix ++ (items ++ rest)) (xs ++ ys)
