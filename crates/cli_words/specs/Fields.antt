-- The words that name fields.
use Rattle.std.specs.Prelude.{◌≡◌, ℕ, Bool, List, [], ◌++◌, codes, if◌then◌else◌}
use Rattle.avro_schema.specs.declared.schema.AvroField.{AvroField}
use Rattle.cli_words.specs.Types.{IsType, IsNamed}

-- `NAME=TYPE`, with '~' before it where the field is skipped; types nest at most 64 deep
abbrev pub IsField : List ℕ → Bool → AvroField → Type 0
IsField word is_kept field = (rest : List ℕ) × IsNamed (IsType 64) rest field × (word ≡ (if is_kept then [] else codes "~") ++ rest)
