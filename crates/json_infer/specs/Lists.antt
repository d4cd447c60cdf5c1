-- Lists in which each item stands once.
use Rattle.std.specs.Prelude.{◌≡◌, ℕ, ◌+◌, List, [], ◌∷◌, ◌++◌, Bool, if◌then◌else◌, ◌⊎◌, ◌↔◌}
use Rattle.std.specs.List.{list_any}

-- the list with x behind it, where no item of the list is the same as x
abbrev pub with_one : {A : Type 0} → (A → A → Bool) → List A → A → List A
with_one same ys x = if list_any (same x) ys then ys else ys ++ x ∷ []

-- the list with one item after another
abbrev pub with_all : {A : Type 0} → (A → A → Bool) → List A → List A → List A
with_all same ys [] = ys
with_all same ys (x ∷ xs) = with_all same (with_one same ys x) xs

-- the items, each once, in order of first appearance
abbrev pub distinct : {A : Type 0} → (A → A → Bool) → List A → List A
distinct same xs = with_all same [] xs

-- x stands in the list
abbrev pub Among : {A : Type 0} → A → List A → Type 0
Among x [] = ⊥
Among x (y ∷ ys) = (y ≡ x) ⊎ Among x ys

-- no item stands twice
abbrev pub EachOnce : {A : Type 0} → List A → Type 0
EachOnce [] = Unit {0}
EachOnce (x ∷ xs) = (Among x xs → ⊥) × EachOnce xs

-- what stands in one list stands in the other
abbrev pub SameMembers : {A : Type 0} → List A → List A → Type 0
SameMembers {A} xs ys = (x : A) → Among x xs ↔ Among x ys

-- the weights of the items, added up
abbrev pub total : {A : Type 0} → (A → ℕ) → List A → ℕ
total weight [] = 0
total weight (x ∷ xs) = weight x + total weight xs
