-- Avro object container files (Avro 1.11, "Object Container Files").
use Rattle.std.specs.Prelude.{◌≡◌, ℕ, ℤ, pos, negsuc, List, [], ◌∷◌, ◌++◌, Option, Some, None, codes, cond}
use Rattle.std.specs.Option.{option_or}
use Rattle.std.specs.Str.{IsUtf8, bytes_eq}
use Rattle.avro_schema.specs.Number.{Number}
use Rattle.avro_schema.specs.Parts.{Grammar, Then, Meaning, Raw, Blocks}
use Rattle.avro_schema.specs.Encodes.{Any}

-- a number of 0 or more
abbrev pub IsCount : ℤ → Type 0
IsCount (pos n) = Unit {0}
IsCount (negsuc n) = ⊥

abbrev pub count_of : ℤ → ℕ
count_of (pos n) = n
count_of (negsuc n) = 0

abbrev pub Count : Grammar ℕ
Count = Meaning Number IsCount count_of

-- A number n of 0 or more, then n bytes (Avro 1.11, "Primitive Types": bytes and string): the encodings of avro_schema's `Sized`,
-- in the two parts in which they are read, since each fault is answered by the part that shows it.
abbrev pub CountedBytes : Grammar (List ℕ)
CountedBytes = Then Count Raw

-- an entry of the metadata
pub record Entry : Type 0 where
  pub key : List ℕ
  pub value : List ℕ

abbrev pub the_entry : List ℕ → List ℕ → Entry
the_entry k v = record { key = k; value = v }

-- its key is a string, its value is bytes
abbrev pub EncodesEntry : Grammar Entry
EncodesEntry = Then (Meaning CountedBytes IsUtf8 (λ k. k)) (λ k. Meaning CountedBytes Any (the_entry k))

-- `Obj`, and the byte 1
abbrev pub magic : List ℕ
magic = 79 ∷ 98 ∷ 106 ∷ 1 ∷ []

-- what a header says: its entries, in order, and the sync marker
pub record HeaderParts : Type 0 where
  pub entries : List Entry
  pub marker : List ℕ

abbrev pub header_parts : List Entry → List ℕ → HeaderParts
header_parts es m = record { entries = es; marker = m }

-- the magic, a map of metadata (blocks of entries, as an array's), and a sync marker of 16 bytes
abbrev pub Header : Grammar HeaderParts
Header = Then (Meaning (Raw 4) (λ b. b ≡ magic) (λ b. b)) (λ _. Then (Blocks EncodesEntry) (λ es. Meaning (Raw 16) Any (header_parts es)))

-- a block's count of rows, and the rows' bytes
pub record FileBlock : Type 0 where
  pub rows : ℕ
  pub bytes : List ℕ

abbrev pub the_block : ℕ → List ℕ → FileBlock
the_block n b = record { rows = n; bytes = b }

-- a count of rows, a size, as many bytes, and sixteen bytes
abbrev pub MarkedBlock : Grammar (FileBlock × List ℕ)
MarkedBlock = Then Count (λ n. Then Count (λ s. Then (Raw s) (λ b. Meaning (Raw 16) Any (λ m. (the_block n b, m)))))

-- the sixteen bytes are the header's marker
abbrev pub IsFileBlock : List ℕ → Grammar FileBlock
IsFileBlock marker bytes x = MarkedBlock bytes (x, marker)

-- any number of P, one after another
pub data Sequence {A : Type 0} (P : List ℕ → A → Type 0) : List ℕ → List A → Type 0 where
  none : Sequence P [] []
  one : (prefix rest : List ℕ) (x : A) (xs : List A) → P prefix x → Sequence P rest xs → Sequence P (prefix ++ rest) (x ∷ xs)

-- the value of an entry, where it has this key
abbrev pub value_for : List ℕ → Entry → Option (List ℕ)
value_for key e = cond (bytes_eq e.key key) (Some e.value) None

-- the last value of a key: that among the later entries, where one of them has the key, and else this entry's
abbrev pub last_value : List ℕ → List Entry → Option (List ℕ)
last_value key [] = None
last_value key (e ∷ es) = option_or (last_value key es) (value_for key e)

-- the text of the schema, where the entries have one
abbrev pub schema_entry : List Entry → Option (List ℕ)
schema_entry = last_value (codes "avro.schema")

-- the codec, where the entries name one
abbrev pub codec_entry : List Entry → Option (List ℕ)
codec_entry = last_value (codes "avro.codec")

-- blocks aren't compressed: the codec is missing, or `null`
abbrev pub IsPlain : Option (List ℕ) → Type 0
IsPlain None = Unit {0}
IsPlain (Some name) = name ≡ codes "null"

-- A file: a header that names a schema and no codec but `null`, and then blocks of its marker up to the end.
-- `stands` says which schema text stands for which root. A block's count isn't compared with its bytes.
pub record FileOf {R : Type 0} (stands : List ℕ → R → Type 0) (bytes : List ℕ) (root : R) (marker : List ℕ) (all : List FileBlock) : Type 0 where
  pub prefix : List ℕ
  pub back : List ℕ
  pub joined : bytes ≡ prefix ++ back
  pub entries : List Entry
  pub head : Header prefix (header_parts entries marker)
  pub text : List ℕ
  pub schema : schema_entry entries ≡ Some text
  pub means : stands text root
  pub codec : IsPlain (codec_entry entries)
  pub blocks : Sequence (IsFileBlock marker) back all
