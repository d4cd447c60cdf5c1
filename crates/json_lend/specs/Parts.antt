-- What is found at the bytes of a string, of an array's items and of an object's members (RFC 8259, sections 4, 5 and 7), by the
-- reading of `json_tree`. Only the models of `EscapedString`, `LentArray` and `LentObject` cite this file.
use Rattle.std.specs.Prelude.{◌≡◌, ℕ, List}
use Rattle.json_tree.specs.Tree.{Json}
use Rattle.json_tree.specs.Reading.{Outcome, found, wrong, deep, bind, led, listed_at, member_at, value_at, put_together}

-- what was found, or the other where nothing was
abbrev pub found_or : {A : Type 0} → A → Outcome A → A
found_or other (found value rest) = value
found_or other wrong = other
found_or other deep = other

-- something was found
abbrev pub IsFound : {A : Type 0} → Outcome A → Type 0
IsFound {A} outcome = (value : A) × (rest : List ℕ) × (outcome ≡ found value rest)

-- the items that follow, up to the closing bracket of their array, in each of which at most so many brackets are open at once
abbrev pub items_at : ℕ → List ℕ → Outcome (List Json)
items_at depth bytes = listed_at (led (value_at depth)) 0x5d bytes

-- the members that follow, up to the closing bracket of their object, each key once
abbrev pub members_at : ℕ → List ℕ → Outcome (List (List ℕ × Json))
members_at depth bytes = bind (listed_at (member_at (value_at depth)) 0x7d bytes) (λ members rest. found (put_together members) rest)
