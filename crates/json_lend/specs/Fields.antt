-- The values of an object's members, name by name (RFC 8259, section 4).
use Rattle.std.specs.Prelude.{◌≡◌, ℕ, List, map, Option, length, ◌≤◌, ◌<◌, MatchOption, Result, Ok, Err, false, get_or}
use Rattle.std.specs.Str.{bytes_eq}
use Rattle.json_tree.specs.Tree.{Json, object, or_null}
use Rattle.json_tree.specs.Keys.{value_of}
use Rattle.json_tree.specs.Layout.{key_index}
use Rattle.json_tree.specs.Reading.{Outcome, found, member_at, value_at}
use Rattle.json_tree.specs.Gives.{Fails}
use Rattle.json_tree.specs.declared.value.JsonFault.{JsonFault}

-- the value of the member with the name, and null where no member has it
abbrev pub value_named : List (List ℕ × Json) → List ℕ → Json
value_named members name = or_null (value_of name members)

-- each name's value
abbrev pub values_of : List (List ℕ × Json) → List (List ℕ) → List Json
values_of members names = map (value_named members) names

-- the value is an object
abbrev pub IsObject : Json → Type 0
IsObject value = (members : List (List ℕ × Json)) × (value ≡ object members)

-- The definitions below are for private functions alone, and for `read_name` over a reader.

-- the index of the key among the names, where it is one of them
abbrev pub IsIndex : List (List ℕ) → List ℕ → Option ℕ → Type 0
IsIndex names key at = MatchOption at (length names ≤ key_index key names) (λ i. (i ≡ key_index key names) × (i < length names))

-- no name from the one index to before the other is the key
abbrev pub AreOthers : List (List ℕ) → ℕ → ℕ → List ℕ → Type 0
AreOthers names from to key = (i : ℕ) (name : List ℕ) → from ≤ i → i < to → bytes_eq (get_or names i name) key ≡ false

-- a key was read, and its index among the names is told
abbrev pub ReadsIndex : List (List ℕ) → Result (Option ℕ) JsonFault → List ℕ → Outcome (List ℕ) → Type 0
ReadsIndex names (Ok at) rest outcome = (key : List ℕ) × (outcome ≡ found key rest) × IsIndex names key at
ReadsIndex names (Err fault) rest outcome = Fails fault outcome

-- what stands before a member's value was passed, and the index of its key among the names, where it is one of them
abbrev pub BeginsMember : List (List ℕ) → Option ℕ → List ℕ → List ℕ → Type 0
BeginsMember names at before after =
    (key : List ℕ) × IsIndex names key at × ((depth : ℕ) (value : Json) (rest : List ℕ) → value_at depth after ≡ found value rest → member_at (value_at depth) before ≡ found (key, value) rest)
