-- Which bytes are a JSON text, what it stands for, and when a reader may refuse it (RFC 8259, sections 2, 8.1 and 9).
use Rattle.std.specs.Prelude.{◌≡◌, ℕ, List, ◌++◌}
use Rattle.std.specs.Str.{IsUtf8}
use Rattle.arrow_core.specs.declared.error.Error.{Error}
use Rattle.arrow_core.specs.declared.error.Error.TheVariants.{ExternalFormat, LimitExceeded, OutOfMemory}
use Rattle.arrow_core.specs.declared.error.Reason.TheVariants.{Json as JsonReason}
use Rattle.json_tree.specs.declared.value.JsonFault.{JsonFault}
use Rattle.json_tree.specs.declared.value.JsonFault.TheVariants.{Text, Depth, Memory}
use Rattle.json_tree.specs.Tree.{Json}
use Rattle.json_tree.specs.Grammar.{IsText}

-- the bytes are a JSON text (sections 2 and 8.1) that stands for the value
abbrev pub IsJsonText : Json → List ℕ → Type 0
IsJsonText value bytes = IsUtf8 bytes × ((depth : ℕ) × IsText depth value bytes)

-- the same, where at most 128 brackets are open at once (section 9 lets a reader set such a limit)
abbrev pub IsJson : Json → List ℕ → Type 0
IsJson value bytes = IsUtf8 bytes × IsText 128 value bytes

-- some prefix of the bytes is a prefix of a JSON text, but of none in which at most 128 brackets are open at once
abbrev pub HoldsTooMany : List ℕ → Type 0
HoldsTooMany bytes =
    (prefix : List ℕ) × (rest : List ℕ) × (bytes ≡ prefix ++ rest) × ((more : List ℕ) × (value : Json) × IsJsonText value (prefix ++ more))
    × ((more : List ℕ) (value : Json) → IsJson value (prefix ++ more) → ⊥)

-- the error that a fault becomes
abbrev pub IsErrorOf : JsonFault → Error → Type 0
IsErrorOf Text e = e ≡ ExternalFormat JsonReason
IsErrorOf Depth e = e ≡ LimitExceeded
IsErrorOf Memory e = e ≡ OutOfMemory
