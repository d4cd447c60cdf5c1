-- The members of an object by their keys (RFC 8259, section 4).
use Rattle.std.specs.Prelude.{◌≡◌, ℕ, List, [], ◌∷◌, reverse, filter, not, Option, Some, None, cond}
use Rattle.std.specs.Str.{bytes_eq}

abbrev pub keys_of : {V : Type 0} → List (List ℕ × V) → List (List ℕ)
keys_of [] = []
keys_of (m ∷ ms) = m.0 ∷ keys_of ms

-- each key once, in the order in which the keys first stand
abbrev pub first_keys : List (List ℕ) → List (List ℕ)
first_keys [] = []
first_keys (k ∷ ks) = k ∷ filter (λ other. not (bytes_eq k other)) (first_keys ks)

-- the value of the first member with the key
abbrev pub value_of : {V : Type 0} → List ℕ → List (List ℕ × V) → Option V
value_of key [] = None
value_of key (m ∷ ms) = cond (bytes_eq m.0 key) (Some m.1) (value_of key ms)

-- Section 4 asks for distinct names, and leaves open what a name stands for that is there twice: here the object has each name
-- of the text once, in the order in which the names first stand, with the value of the last member of this name.
pub record Gathers {V : Type 0} (members object : List (List ℕ × V)) : Type 0 where
  pub keys : keys_of object ≡ first_keys (keys_of members)
  pub values : (key : List ℕ) → value_of key object ≡ value_of key (reverse members)
