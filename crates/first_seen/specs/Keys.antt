-- Keys in the order in which they first came, each once.
use Rattle.std.specs.Prelude.{◌≡◌, ℕ, Bool, List, [], ◌∷◌, ◌++◌, Option, Some, if◌then◌else◌, take}
use Rattle.std.specs.declared.cmp.Ordering.{Ordering}
use Rattle.std.specs.BTreeMap.{BTreeMap, get}
use Rattle.std.specs.List.{list_any, position_from, slice_get}
use Rattle.std.specs.Option.{option_or}

-- how many keys a hash finds
abbrev pub hashed_keys : ℕ
hashed_keys = 1024

module _ {K : Type 0} (same : K → K → Bool) where
  -- the keys, and k behind them where none of them is the same
  abbrev pub with_key : List K → K → List K
  with_key keys k = if list_any (same k) keys then keys else keys ++ k ∷ []

  -- the index of the key that is the same as k
  abbrev pub index_of : List K → K → Option ℕ
  index_of keys k = position_from (same k) 0 keys

  -- the set has the first keys, and the tree the index of each other: together they give each key
  -- its index and nothing else, and each key is found where it stands
  abbrev pub Indexed : (K → K → Ordering) → List K → BTreeMap K ℕ → List K → Type 0
  Indexed compare hashed indices keys =
      (hashed ≡ take hashed_keys keys)
      × ((k : K) → option_or (index_of hashed k) (get compare indices k) ≡ index_of keys k)
      × ((i : ℕ) (k : K) → slice_get keys i ≡ Some k → index_of keys k ≡ Some i)
