-- Which bytes are skipped under a schema: values whose contents nobody reads (Avro 1.11,
-- "Binary Encoding"). Only what tells their lengths has to be looked at, and the byte of a boolean, whichever it is.
use Rattle.std.specs.Prelude.{◌≡◌, ℕ, zero, suc, ◌+◌, ◌^◌, ◌<◌, ℤ, pos, negsuc, List, [], ◌++◌, length, Option, Some, ◌⊎◌}
use Rattle.avro_schema.specs.declared.schema.Schema.{Schema, Null, Boolean, Int, Long, Float, Double, Bytes, String, Record, Enum, Array', Map', Union', Fixed, Row_of-Schema, end_of-Schema, more_of-Schema}
use Rattle.avro_schema.specs.declared.schema.Record.{Record as TheRecord, Record', Row_of-AvroField, end_of-AvroField, more_of-AvroField}
use Rattle.avro_schema.specs.declared.schema.FixedLogical.{FixedLogical}
use Rattle.avro_schema.specs.declared.schema.FixedLogical.TheVariants as fixed_logical
use Rattle.avro_schema.specs.Number.{Number}
use Rattle.avro_schema.specs.Parts.{Grammar, Then, Measured}
use Rattle.avro_schema.specs.Encodes.{IsNull}

-- how many bytes must be looked at, and how many are of items in array blocks that state their size
pub record Passed : Type 0 where
  pub seen : ℕ
  pub hidden : ℕ

-- no bytes
abbrev pub nothing : Passed
nothing = record { seen = 0; hidden = 0 }

abbrev pub seen_only : ℕ → Passed
seen_only n = record { seen = n; hidden = 0 }

abbrev pub both : Passed → Passed → Passed
both p q = record { seen = p.seen + q.seen; hidden = p.hidden + q.hidden }

-- a number, which is looked at
abbrev pub SkipsNumber : Grammar Passed
SkipsNumber bytes y = (v : ℤ) × Number bytes v × (y ≡ seen_only (length bytes))

-- any n bytes, of which so many are looked at
abbrev pub SkipsRaw : ℕ → ℕ → Grammar Passed
SkipsRaw n seen bytes y = (length bytes ≡ n) × (y ≡ seen_only seen)

-- a number n of 0 or more, then any n bytes, unseen
abbrev pub SkipsSized : Grammar Passed
SkipsSized = Then (Measured Number) (λ n back y. (n.0 ≡ pos (length back)) × (y ≡ seen_only n.1))

-- n values, one after another
abbrev pub SkipsMany : Grammar Passed → ℕ → Grammar Passed
SkipsMany P zero bytes y = (bytes ≡ []) × (y ≡ nothing)
SkipsMany P (suc n) bytes y = Then P (λ p back z. (more : Passed) × (z ≡ both p more) × SkipsMany P n back more) bytes y

-- what follows the count of an array's block: that many values where it is above 0; where it is below, a
-- size of 0 or more and as many bytes, unseen
abbrev pub SkipsBlockOf : Grammar Passed → ℤ → Grammar Passed
SkipsBlockOf P (pos zero) bytes y = ⊥
SkipsBlockOf P (pos (suc n)) bytes y = (suc n < 2 ^ 63) × SkipsMany P (suc n) bytes y
SkipsBlockOf P (negsuc n) bytes y =
    (suc n < 2 ^ 63) × Then (Measured Number) (λ size back z. (size.0 ≡ pos (length back)) × (z ≡ record { seen = size.1; hidden = length back })) bytes y

-- an array: blocks, and then the number 0
pub data SkipsBlocks (P : List ℕ → Passed → Type 0) : List ℕ → Passed → Type 0 where
  last : {bytes : List ℕ} → Number bytes (pos 0) → SkipsBlocks P bytes (seen_only (length bytes))
  block : (prefix items rest : List ℕ) (count : ℤ) (p q : Passed) → Number prefix count → SkipsBlockOf P count items p → SkipsBlocks P rest q → SkipsBlocks P (prefix ++ (items ++ rest)) (both (seen_only (length prefix)) (both p q))

-- a duration has 12 bytes
abbrev pub fixed_size : ℕ → Option FixedLogical → ℕ
fixed_size size (Some fixed_logical.Duration) = 12
fixed_size size _ = size

abbrev mutual
  pub Skips : Schema → List ℕ → Passed → Type 0
  Skips Null bytes y = ⊥
  Skips Boolean bytes y = SkipsRaw 1 1 bytes y
  Skips (Int logical) bytes y = SkipsNumber bytes y
  Skips (Long logical) bytes y = SkipsNumber bytes y
  Skips Float bytes y = SkipsRaw 4 0 bytes y
  Skips Double bytes y = SkipsRaw 8 0 bytes y
  Skips (Bytes logical) bytes y = SkipsSized bytes y
  Skips (String logical) bytes y = SkipsSized bytes y
  Skips (Record r) bytes y = SkipsRecord r bytes y
  Skips (Enum e) bytes y = SkipsNumber bytes y
  Skips (Array' shape item) bytes y = SkipsBlocks (SkipsItem item) bytes y
  Skips (Map' shape value) bytes y = ⊥
  Skips (Union' shape members) bytes y = Then (Measured Number) (λ v back z. (k : ℕ) × (v.0 ≡ pos k) × (k < 2) × (p : Passed) × (z ≡ both (seen_only v.1) p) × SkipsMember members k back p) bytes y
  Skips (Fixed f) bytes y = SkipsRaw (fixed_size f.size f.logical) 0 bytes y

  pub SkipsRecord : TheRecord → List ℕ → Passed → Type 0
  SkipsRecord (Record' name namespace doc shape fields) bytes y = SkipsFields fields bytes y

  pub SkipsItem : {m : _} → Row_of-Schema m → List ℕ → Passed → Type 0
  SkipsItem end_of-Schema bytes y = ⊥
  SkipsItem (more_of-Schema s rest) bytes y = Skips s bytes y

  pub SkipsMember : {m : _} → Row_of-Schema m → ℕ → List ℕ → Passed → Type 0
  SkipsMember end_of-Schema k bytes y = ⊥
  SkipsMember (more_of-Schema s rest) zero bytes y = Skips s bytes y ⊎ (IsNull s × (bytes ≡ []) × (y ≡ nothing))
  SkipsMember (more_of-Schema s rest) (suc k) bytes y = SkipsMember rest k bytes y

  pub SkipsFields : {m : _} → Row_of-AvroField m → List ℕ → Passed → Type 0
  SkipsFields end_of-AvroField bytes y = (bytes ≡ []) × (y ≡ nothing)
  SkipsFields (more_of-AvroField name doc s rest) bytes y = Then (Skips s) (λ p back z. (more : Passed) × (z ≡ both p more) × SkipsFields rest back more) bytes y
