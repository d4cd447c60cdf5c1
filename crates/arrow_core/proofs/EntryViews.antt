-- A map of strings, seen as the entries of their bytes.
use Rattle.std.proofs.Common.{◌≡◌, List, [], ◌∷◌, map, refl, string_bytes, String, Global, ℕ, Bool, true, false, cond, Option, Some, ap}
use Rattle.std.specs.declared.cmp.Ordering.{Ordering}
use Rattle.std.specs.declared.cmp.Ordering.TheVariants.{Less, Equal, Greater}
use Rattle.std.specs.BTreeMap.{insert_entry}
use Rattle.std.specs.List.{AllZip, AllByRecursion}
use Rattle.std.specs.List.Sorted.{IsStrictlySortedBy}
use Rattle.std.specs.Map.{lookup, keys_of}
use Rattle.std.specs.Option.{option_map}
use Rattle.std.specs.Ordering.{is_eq, match_ordering}
use Rattle.arrow_core.specs.Entries.{Entry, entry_bytes, bytes_cmp, value_at, with_value, IsAscending}

-- an entry as the map holds it
abbrev Held : Type 0
Held = String Global × String Global

abbrev by_bytes : String Global → String Global → Ordering
by_bytes a b = bytes_cmp (string_bytes a) (string_bytes b)

-- copies of strings have their bytes
pub copied_entries : (from to : List Held) → AllZip (λ a b. (string_bytes b.0 ≡ string_bytes a.0) × (string_bytes b.1 ≡ string_bytes a.1)) from to
    → map entry_bytes to ≡ map entry_bytes from
copied_entries [] [] same = refl
copied_entries [] (b ∷ to) same = absurd same
copied_entries (a ∷ from) [] same = absurd same
copied_entries (a ∷ from) (b ∷ to) same = λ i. (same.0.0 i, same.0.1 i) ∷ copied_entries from to same.1 i

looked_up : (here : Bool) (e : Held) (rest : Option (String Global)) (seen : Option (List ℕ)) → option_map string_bytes rest ≡ seen
    → option_map string_bytes (cond here (Some e.1) rest) ≡ cond here (Some (string_bytes e.1)) seen
looked_up true e rest seen same = refl
looked_up false e rest seen same = same

-- what a look-up of a key's bytes finds
pub value_seen : (held : List Held) (key : List ℕ)
    → option_map string_bytes (lookup (λ k. is_eq (bytes_cmp key (string_bytes k))) held) ≡ value_at (map entry_bytes held) key
value_seen [] key = refl
value_seen (e ∷ held) key = looked_up (is_eq (bytes_cmp key (string_bytes e.0))) e _ _ (value_seen held key)

placed : (order : Ordering) (key value : String Global) (e : Held) (held more : List Held) (seen : List Entry) → map entry_bytes more ≡ seen
    → map entry_bytes (match_ordering order ((key, value) ∷ e ∷ held) ((e.0, value) ∷ held) (e ∷ more))
    ≡ match_ordering order (entry_bytes (key, value) ∷ entry_bytes e ∷ map entry_bytes held) (entry_bytes (e.0, value) ∷ map entry_bytes held) (entry_bytes e ∷ seen)
placed Less key value e held more seen same = refl
placed Equal key value e held more seen same = refl
placed Greater key value e held more seen same = ap (λ es. entry_bytes e ∷ es) same

-- what an insertion leaves
pub insertion_seen : (held : List Held) (key value : String Global)
    → map entry_bytes (insert_entry by_bytes held key value) ≡ with_value (map entry_bytes held) (string_bytes key) (string_bytes value)
insertion_seen [] key value = refl
insertion_seen (e ∷ held) key value = placed (by_bytes key e.0) key value e held _ _ (insertion_seen held key value)

all_above : (key : String Global) (held : List Held) → AllByRecursion (λ k. by_bytes key k ≡ Less) (keys_of held)
    → AllByRecursion (λ k. bytes_cmp (string_bytes key) k ≡ Less) (keys_of (map entry_bytes held))
all_above key [] above = tt
all_above key (e ∷ held) above = (above.0, all_above key held above.1)

-- keys that ascend do so by their bytes
pub ascending_seen : (held : List Held) → IsStrictlySortedBy by_bytes (keys_of held) → IsAscending (map entry_bytes held)
unfolding IsStrictlySortedBy
ascending_seen [] sorted = tt
ascending_seen (e ∷ held) sorted = (all_above e.0 held sorted.0, ascending_seen held sorted.1)
