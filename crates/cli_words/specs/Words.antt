-- The words that ask for a block, `block ROWS FIELD..` and `block-large ROWS FIELD..`, for the lines of a file,
-- `ndjson KEEP..`, for rows that are drawn, `make START ROWS`, for the type of JSON lines, `infer`, for a file made of JSON
-- lines, `avro NAME PER_BLOCK MARKER FIELD..`, for the canonical form of a file, `rewrite NAME MARKER`, for how many rows and
-- blocks a file has, `count`, for its schema, `schema`, for its fields, `fields`, and for what the program says of itself, `help`
-- and `version`.
use Rattle.std.specs.Prelude.{◌≡◌, ◌<◌, ◌≤◌, ◌⊎◌, ℕ, Bool, false, true, List, [], ◌∷◌, codes, decimal, length, ⊤}
use Rattle.std.specs.Int.{w128, to_be_bytes}
use Rattle.std.specs.List.{AllZip}
use Rattle.std.specs.Str.Parse.{IsNumeral, digits_value}
use Rattle.avro_schema.specs.declared.schema.AvroField.{AvroField}
use Rattle.cli_words.specs.Fields.{IsField}
use Rattle.cli_words.specs.Names.{IsName, IsRows}
use Rattle.cli_words.specs.declared.command.AvroWords.{AvroWords}
use Rattle.cli_words.specs.declared.command.BlockWords.{BlockWords}
use Rattle.cli_words.specs.declared.command.Command.{Command}
use Rattle.cli_words.specs.declared.command.Command.TheVariants.{Help, Version, Count, Schema, Fields, Block, Ndjson, Make, Infer, Avro, Rewrite}
use Rattle.cli_words.specs.declared.command.MakeWords.{MakeWords}
use Rattle.cli_words.specs.declared.command.RewriteWords.{RewriteWords}

-- each word is a field, kept or not
abbrev pub AreFields : List (List ℕ) → List Bool → List AvroField → Type 0
AreFields [] [] [] = ⊤
AreFields (word ∷ words) (is_kept ∷ projection) (field ∷ fields) = IsField word is_kept field × AreFields words projection fields
AreFields _ _ _ = ⊥

-- the words after the first: a block's rows, and a word for each field
abbrev pub IsRest : List (List ℕ) → BlockWords → Type 0
IsRest words block = (rows_word : List ℕ) × (field_words : List (List ℕ)) × (words ≡ rows_word ∷ field_words)
    × IsRows rows_word block.rows × AreFields field_words block.projection block.avro_fields

-- the first word, by whether the columns have large forms
abbrev pub block_word : Bool → List ℕ
block_word false = codes "block"
block_word true = codes "block-large"

-- each word is the number of a field
abbrev pub AreKeepWords : List (List ℕ) → List ℕ → Type 0
AreKeepWords = AllZip IsRows

-- the state before the first draw, and how many rows there are, each in decimal with no zero before it
pub record AreMakeWords (words : List (List ℕ)) (make : MakeWords) : Type 0 where
  pub are : words ≡ decimal make.start ∷ decimal make.rows ∷ []
  pub start : make.start ≤ 2147483647
  pub rows : make.rows ≤ 1000000

-- 16 bytes as 32 hexadecimal digits in either case, the first byte first
pub record IsMarker (digits marker : List ℕ) : Type 0 where
  pub numeral : IsNumeral 16 digits
  pub many : length digits ≡ 32
  pub bytes : marker ≡ to_be_bytes w128 (digits_value 16 digits)

-- each word is a field that is kept
abbrev pub AreKeptFields : List (List ℕ) → List AvroField → Type 0
AreKeptFields = AllZip (λ word field. IsField word true field)

-- the name of a record, how many rows a block has, a sync marker, and the fields
pub record AreAvroWords (words : List (List ℕ)) (avro : AvroWords) : Type 0 where
  pub rows_word : List ℕ
  pub digits : List ℕ
  pub field_words : List (List ℕ)
  pub are : words ≡ avro.name ∷ rows_word ∷ digits ∷ field_words
  pub name : IsName avro.name
  pub rows : IsRows rows_word avro.rows_per_block
  pub some : 0 < avro.rows_per_block
  pub marker : IsMarker digits avro.marker
  pub fields : AreKeptFields field_words avro.avro_fields

-- the name of a record, and a sync marker
pub record AreRewriteWords (words : List (List ℕ)) (rewrite : RewriteWords) : Type 0 where
  pub digits : List ℕ
  pub are : words ≡ rewrite.name ∷ digits ∷ []
  pub name : IsName rewrite.name
  pub marker : IsMarker digits rewrite.marker

-- ---- of every command

-- the first word, in any of its spellings
abbrev pub IsCommandWord : List ℕ → Command → Type 0
IsCommandWord word Help = (word ≡ codes "help") ⊎ (word ≡ codes "--help") ⊎ (word ≡ codes "-h")
IsCommandWord word Version = (word ≡ codes "version") ⊎ (word ≡ codes "--version")
IsCommandWord word Count = word ≡ codes "count"
IsCommandWord word Schema = word ≡ codes "schema"
IsCommandWord word Fields = word ≡ codes "fields"
IsCommandWord word (Block block) = word ≡ block_word block.large
IsCommandWord word (Ndjson numbers) = word ≡ codes "ndjson"
IsCommandWord word (Make make) = word ≡ codes "make"
IsCommandWord word Infer = word ≡ codes "infer"
IsCommandWord word (Avro avro) = word ≡ codes "avro"
IsCommandWord word (Rewrite rewrite) = word ≡ codes "rewrite"

-- those after it
abbrev pub AreRest : List (List ℕ) → Command → Type 0
AreRest rest Help = rest ≡ []
AreRest rest Version = rest ≡ []
AreRest rest Count = rest ≡ []
AreRest rest Schema = rest ≡ []
AreRest rest Fields = rest ≡ []
AreRest rest (Block block) = IsRest rest block
AreRest rest (Ndjson numbers) = AreKeepWords rest numbers
AreRest rest (Make make) = AreMakeWords rest make
AreRest rest Infer = rest ≡ []
AreRest rest (Avro avro) = AreAvroWords rest avro
AreRest rest (Rewrite rewrite) = AreRewriteWords rest rewrite
