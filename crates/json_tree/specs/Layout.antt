-- How an object's members are put into memory, each by its key (RFC 8259, section 4), and which keys are distinct. `parse` is
-- told without it; what compares names and reads an object's members without a tree is told by it.
use Rattle.std.specs.Prelude.{◌≡◌, ℕ, suc, List, [], ◌∷◌, Bool, true, false, not, ◌||◌, ◌&&◌, Option, Some, None, cond}
use Rattle.std.specs.Str.{bytes_eq}
use Rattle.std.specs.BTreeMap.{BTreeMap, get_by_text}
use Rattle.std.specs.declared.string.String.{String}
use Rattle.std.specs.declared.alloc.Global.{Global}

-- one more member: a key that is there stays where it stands and takes the new value
unfoldable pub put : {V : Type 0} → List (List ℕ × V) → List ℕ × V → List (List ℕ × V)
put [] new = new ∷ []
put (m ∷ ms) new = cond (bytes_eq m.0 new.0) ((m.0, new.1) ∷ ms) (m ∷ put ms new)

-- the key is one of these
abbrev pub meets : List ℕ → List (List ℕ) → Bool
meets key [] = false
meets key (k ∷ ks) = bytes_eq key k || meets key ks

-- no key stands twice
abbrev pub distinct : List (List ℕ) → Bool
distinct [] = true
distinct (k ∷ ks) = not (meets k ks) && distinct ks

-- the index of a key, or the length
abbrev pub key_index : List ℕ → List (List ℕ) → ℕ
key_index key [] = 0
key_index key (k ∷ ks) = cond (bytes_eq k key) 0 (suc (key_index key ks))

-- the index of a key, counted from n
abbrev pub key_index_from : ℕ → List ℕ → List (List ℕ) → Option ℕ
key_index_from n key [] = None
key_index_from n key (k ∷ ks) = cond (bytes_eq k key) (Some n) (key_index_from (suc n) key ks)

-- the map gives each of the keys its index, where 16 others stand before them, and nothing else
abbrev pub Indexed : BTreeMap (String Global) ℕ → List (List ℕ) → Type 0
Indexed indices keys = (key : List ℕ) → get_by_text indices key ≡ key_index_from 16 key keys
