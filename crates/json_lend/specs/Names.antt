-- How a name stands in a text as a key (RFC 8259, sections 4 and 7). Only the model of `Name` and private contracts cite this file.
use Rattle.std.specs.Prelude.{◌≡◌, ◌<◌, ℕ, List, [], ◌∷◌, ◌++◌, length}
use Rattle.arrow_base.specs.JsonString.{is_unescaped}
use Rattle.json_tree.specs.Grammar.{Each}

-- the name between quotation marks
abbrev pub quoted : List ℕ → List ℕ
quoted name = 0x22 ∷ (name ++ 0x22 ∷ [])

-- the key of a name, each byte of which stands for itself in a string; or nothing
abbrev pub IsKeyOf : List ℕ → List ℕ → Type 0
IsKeyOf name key = 0 < length key → Each is_unescaped name × (key ≡ quoted name)
