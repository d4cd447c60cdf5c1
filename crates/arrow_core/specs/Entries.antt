-- The entries of a map from texts to texts: pairs of bytes, in the order of the keys.
use Rattle.std.specs.Prelude.{◌≡◌, ℕ, List, Option, string_bytes}
use Rattle.std.specs.declared.alloc.Global.{Global}
use Rattle.std.specs.declared.cmp.Ordering.{Ordering}
use Rattle.std.specs.declared.string.String.{String}
use Rattle.std.specs.BTreeMap.{is_at, insert_entry}
use Rattle.std.specs.Cmp.Lexicographic.{slice_cmp}
use Rattle.std.specs.List.Sorted.{IsStrictlySortedBy}
use Rattle.std.specs.Map.{lookup, keys_of}
use Rattle.std.specs.Ordering.{nat_cmp}

-- a key and its value
abbrev pub Entry : Type 0
Entry = List ℕ × List ℕ

-- an entry of the map that holds the texts
abbrev pub entry_bytes : String Global × String Global → Entry
entry_bytes e = (string_bytes e.0, string_bytes e.1)

-- texts are ordered by their bytes
abbrev pub bytes_cmp : List ℕ → List ℕ → Ordering
bytes_cmp = slice_cmp nat_cmp

-- each key is there once, and they ascend
abbrev pub IsAscending : List Entry → Type 0
IsAscending entries = IsStrictlySortedBy bytes_cmp (keys_of entries)

-- the value of a key
abbrev pub value_at : List Entry → List ℕ → Option (List ℕ)
value_at entries key = lookup (is_at (bytes_cmp key)) entries

-- the entries in which the key has the value, and each other key what it had
abbrev pub with_value : List Entry → List ℕ → List ℕ → List Entry
with_value entries key value = insert_entry bytes_cmp entries key value

-- each key but this one has what it had
abbrev pub AllOthersKept : List Entry → List Entry → List ℕ → Type 0
AllOthersKept old new key = (other : List ℕ) → ¬ (other ≡ key) → value_at new other ≡ value_at old other
