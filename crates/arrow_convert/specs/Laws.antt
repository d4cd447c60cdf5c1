-- What two rewritings tell of each other.
use Rattle.std.specs.Prelude.{◌≡◌, ◌⊎◌, ℕ, ◌^◌, ◌<◌, List, [], ◌∷◌, length, Some}
use Rattle.arrow_core.specs.declared.error.Error.{Error}
use Rattle.arrow_core.specs.declared.slot.Slot.{Slot}
use Rattle.avro_schema.specs.declared.schema.Schema as schema
use Rattle.avro_schema.specs.declared.schema.Record.{Record, out-Record}
use Rattle.avro_container.specs.Changes.{CameFromOutside, Change, Failed}
use Rattle.avro_container.specs.Laws.{AllSmall}
use Rattle.avro_file.specs.Writing.{schema_text_of}
use Rattle.avro_canonical.specs.Rewritten.{RewritesFile, RewritingFails, table_blocks}

-- a file has one canonical form under a name and a marker, and one number of rows
abbrev pub OneCanonicalForm : Type 0
OneCanonicalForm =
    (name marker bytes text other : List ℕ) (count also : ℕ) → RewritesFile name marker bytes text count → RewritesFile name marker bytes other also → (text ≡ other) × (count ≡ also)

-- the tables that have a row
abbrev pub with_rows : List (List (List Slot)) → List (List (List Slot))
with_rows [] = []
with_rows ([] ∷ tables) = with_rows tables
with_rows ((row ∷ table) ∷ tables) = (row ∷ table) ∷ with_rows tables

-- the numbers of the canonical file can be stated: the length of the record's text, and of each block its count of rows
-- and its length
abbrev pub CanBeStated : Record → List (List (List Slot)) → Type 0
CanBeStated target tables = (length (schema_text_of (schema.Record target)) < 2 ^ 63) × AllSmall (table_blocks (out-Record target).fields tables)

-- Two files were rewritten under one record and one marker of sixteen bytes. Where their rows are equal, block by
-- block, so are the canonical files; and where these are equal, so are the rows.
abbrev pub FilesTellRows : Type 0
FilesTellRows =
    (name also marker bytes others text other : List ℕ) (count many : ℕ) (h : RewritesFile name marker bytes text count) (k : RewritesFile also marker others other many)
    → h.target ≡ k.target → length marker ≡ 16
    → (with_rows h.form.tables ≡ with_rows k.form.tables → text ≡ other)
    × (CanBeStated h.target h.form.tables → CanBeStated k.target k.form.tables → text ≡ other → with_rows h.form.tables ≡ with_rows k.form.tables)

-- Of bytes that two sources told which didn't fail, one error is answered at most under one name, marker and limit,
-- those from outside aside.
abbrev pub OneErrorComes : Type 0
OneErrorComes =
    (name marker bytes : List ℕ) (limit : ℕ) (source other sink another : Change) (e d : Error)
    → source.bytes ≡ Some bytes → other.bytes ≡ Some bytes → (Failed source → ⊥) → (Failed other → ⊥)
    → RewritingFails name marker limit source sink e → RewritingFails name marker limit other another d
    → (e ≡ d) ⊎ CameFromOutside sink e ⊎ CameFromOutside another d
