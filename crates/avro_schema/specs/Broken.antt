-- Bytes that break off at an array block that states a size below 0 (Avro 1.11, "Arrays"), where a value
-- is skipped.
use Rattle.std.specs.Prelude.{◌≡◌, ℕ, zero, suc, ◌^◌, ◌<◌, ℤ, pos, negsuc, List, ◌++◌, ◌⊎◌}
use Rattle.avro_schema.specs.declared.schema.Schema.{Schema, Record, Array', Union', Row_of-Schema, end_of-Schema, more_of-Schema}
use Rattle.avro_schema.specs.declared.schema.Record.{Record as TheRecord, Record', Row_of-AvroField, end_of-AvroField, more_of-AvroField}
use Rattle.avro_schema.specs.Number.{Number}
use Rattle.avro_schema.specs.Skips.{Passed, SkipsMany, SkipsBlockOf, Skips, SkipsItem}

-- whole blocks, and then a block that is broken
pub data BrokenBlocks (P : List ℕ → Passed → Type 0) (B : List ℕ → Type 0) : List ℕ → Type 0 where
  -- a count below 0, and a size below 0
  false_size : (prefix more any : List ℕ) (n s : ℕ) → Number prefix (negsuc n) → suc n < 2 ^ 63 → Number more (negsuc s) → BrokenBlocks P B (prefix ++ (more ++ any))
  -- a count of 1 or more, fewer items, and a broken one
  broken_item : (prefix items rest : List ℕ) (n m : ℕ) (p : Passed) → Number prefix (pos (suc n)) → m < suc n → SkipsMany P m items p → B rest → BrokenBlocks P B (prefix ++ (items ++ rest))
  -- a whole block
  whole_block : (prefix items rest : List ℕ) (count : ℤ) (p : Passed) → Number prefix count → SkipsBlockOf P count items p → BrokenBlocks P B rest → BrokenBlocks P B (prefix ++ (items ++ rest))

abbrev mutual
  pub Broken : Schema → List ℕ → Type 0
  Broken (Record r) bytes = BrokenRecord r bytes
  Broken (Array' shape item) bytes = BrokenBlocks (SkipsItem item) (BrokenItem item) bytes
  Broken (Union' shape members) bytes = (prefix back : List ℕ) × (bytes ≡ prefix ++ back) × (k : ℕ) × (k < 2) × Number prefix (pos k) × BrokenMember members k back
  Broken _ bytes = ⊥

  pub BrokenRecord : TheRecord → List ℕ → Type 0
  BrokenRecord (Record' name namespace doc shape fields) bytes = BrokenFields fields bytes

  pub BrokenItem : {m : _} → Row_of-Schema m → List ℕ → Type 0
  BrokenItem end_of-Schema bytes = ⊥
  BrokenItem (more_of-Schema s rest) bytes = Broken s bytes

  pub BrokenMember : {m : _} → Row_of-Schema m → ℕ → List ℕ → Type 0
  BrokenMember end_of-Schema k bytes = ⊥
  BrokenMember (more_of-Schema s rest) zero bytes = Broken s bytes
  BrokenMember (more_of-Schema s rest) (suc k) bytes = BrokenMember rest k bytes

  -- some whole fields, and a broken one
  pub BrokenFields : {m : _} → Row_of-AvroField m → List ℕ → Type 0
  BrokenFields end_of-AvroField bytes = ⊥
  BrokenFields (more_of-AvroField name doc s rest) bytes = Broken s bytes ⊎ ((prefix back : List ℕ) × (bytes ≡ prefix ++ back) × (p : Passed) × Skips s prefix p × BrokenFields rest back)
