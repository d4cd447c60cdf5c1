-- Cited by private contracts alone: entries were taken, and what is kept of them.
use Rattle.std.specs.Prelude.{◌≡◌, ℕ, List, [], ◌∷◌, Option, Some, codes, cond}
use Rattle.std.specs.Str.{bytes_eq}
use Rattle.avro_container.specs.File.{Entry, HeaderParts, header_parts, schema_entry, codec_entry}
use Rattle.avro_container.specs.FileForms.{entry}
use Rattle.avro_container.specs.Forms.{Form}
use Rattle.avro_container.specs.Taking.{State, Passed}

-- what is known of a key's value, `old` before an entry
abbrev pub later : List ℕ → Option (List ℕ) → Entry → Option (List ℕ)
later key old e = cond (bytes_eq e.key key) (Some e.value) old

-- the last value of a key, where `old` came before these entries
abbrev pub last_of : List ℕ → Option (List ℕ) → List Entry → Option (List ℕ)
last_of key old [] = old
last_of key old (e ∷ es) = last_of key (later key old e) es

pub record TakesEntries (F : Form (List Entry)) (a b : State) (schema schema_after codec codec_after : Option (List ℕ)) : Type 0 where
  pub entries : List Entry
  pub passed : Passed F a b entries
  pub schema_is : schema_after ≡ last_of (codes "avro.schema") schema entries
  pub codec_is : codec_after ≡ last_of (codes "avro.codec") codec entries

pub record TakesEntry (a b : State) (schema schema_after codec codec_after : Option (List ℕ)) : Type 0 where
  pub entry_taken : Entry
  pub passed : Passed entry a b entry_taken
  pub schema_is : schema_after ≡ later (codes "avro.schema") schema entry_taken
  pub codec_is : codec_after ≡ later (codes "avro.codec") codec entry_taken

-- a header was taken
pub record TakesHeader (F : Form HeaderParts) (a b : State) (schema codec : Option (List ℕ)) (marker : List ℕ) : Type 0 where
  pub entries : List Entry
  pub passed : Passed F a b (header_parts entries marker)
  pub schema_is : schema ≡ schema_entry entries
  pub codec_is : codec ≡ codec_entry entries
