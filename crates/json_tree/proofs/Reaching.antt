-- What leads to a bracket that is open with n more around it, and ends with it.
use Rattle.std.specs.Prelude.{◌≡◌, ◌⊎◌, ℕ, zero, suc, List, [], ◌∷◌, ◌++◌}
use Rattle.std.specs.Str.{IsUtf8}
use Rattle.json_tree.specs.Tree.{Json}
use Rattle.json_tree.specs.Grammar.{Spaces, AfterSpaces, Quoted, Member, Encodes}

-- entries, each with a comma after it
abbrev pub Before : {A : Type 0} → (A → List ℕ → Type 0) → List A → List ℕ → Type 0
Before P [] b = b ≡ []
Before P (x ∷ xs) b = (a : List ℕ) × (w : List ℕ) × (c : List ℕ) × P x a × Spaces w × Before P xs c × (b ≡ a ++ (w ++ 44 ∷ c))

-- the entries before it have at most n open brackets
abbrev pub Reaches : ℕ → List ℕ → Type 0
Reaches zero b = (b ≡ 91 ∷ []) ⊎ (b ≡ 123 ∷ [])
Reaches (suc n) b =
    ((xs : List Json) × (c : List ℕ) × (d : List ℕ) × Before (λ y. AfterSpaces (Encodes n y)) xs c × AfterSpaces (Reaches n) d × (b ≡ 91 ∷ (c ++ d)))
    ⊎ ((ms : List (List ℕ × Json)) × (c : List ℕ) × (s : List ℕ) × (k : List ℕ) × (w : List ℕ) × (d : List ℕ) × Before (Member (Encodes n)) ms c × AfterSpaces (Quoted s) k × Spaces w × AfterSpaces (Reaches n) d × (b ≡ 123 ∷ (c ++ (k ++ (w ++ 58 ∷ d)))))

-- a prefix of the bytes ends with the first bracket that is open with 128 around it
abbrev pub IsDeep : List ℕ → Type 0
IsDeep b = (p : List ℕ) × (r : List ℕ) × IsUtf8 p × AfterSpaces (Reaches 128) p × (b ≡ p ++ r)
