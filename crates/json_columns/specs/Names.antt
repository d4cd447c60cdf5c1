-- Fields that name a field twice, by the fields that code sees.
use Rattle.std.specs.Prelude.{◌≡◌, ℕ, Bool, ◌||◌, List}
use Rattle.std.specs.List.{list_any}
use Rattle.std.specs.Option.{is_some}
use Rattle.std.specs.Str.{bytes_eq}
use Rattle.arrow_core.specs.declared.types.Field.{Field}
use Rattle.first_seen.specs.Keys.{index_of}
use Rattle.json_flat.specs.Names.{names_of, names_twice, repeat}

-- one of the fields has this name
abbrev pub is_named : List ℕ → List Field → Bool
is_named name = list_any (λ (f : Field). bytes_eq f.name name)

-- the type of one of the fields names a field twice
abbrev pub any_names_twice : List Field → Bool
any_names_twice = list_any (λ (f : Field). names_twice f.data_type)

-- the fields, or the type of one of them, do
abbrev pub struct_names_twice : List Field → Bool
struct_names_twice fields = repeat (names_of fields) || any_names_twice fields

-- ---- Contracts of private functions alone cite what follows.

-- names among which each name of a field is found, and no other
abbrev pub AreNames : List Field → List (List ℕ) → Type 0
AreNames fields names = (key : List ℕ) → is_some (index_of bytes_eq names key) ≡ is_named key fields
