-- Which words stand for a command.
use Rattle.std.specs.Prelude.{◌≡◌, ℕ, List, ◌∷◌}
use Rattle.cli_words.specs.declared.command.Command.{Command}
use Rattle.cli_words.specs.Words.{IsCommandWord, AreRest}

-- the words stand for the command: its first word, and those after it
abbrev pub Stands : List (List ℕ) → Command → Type 0
Stands words command = (word : List ℕ) × (rest : List (List ℕ)) × (words ≡ word ∷ rest) × IsCommandWord word command × AreRest rest command

-- the words stand for none
abbrev pub IsUsage : List (List ℕ) → Type 0
IsUsage words = (command : Command) → Stands words command → ⊥
