-- What bytes begin with, in its canonical encoding, and what follows it. Private contracts alone cite these.
use Rattle.std.specs.Prelude.{◌≡◌, ℕ, zero, suc, ◌*◌, ◌^◌, ◌<◌, ◌≤◌, ℤ, pos, List, ◌++◌, length, drop, flat_map}
use Rattle.std.specs.List.{AllByRecursion}
use Rattle.avro_schema.specs.declared.schema.AvroField.{AvroField}
use Rattle.avro_schema.specs.declared.schema.Schema.{Schema}
use Rattle.avro_container.specs.Canonical.{counted_bytes}
use Rattle.avro_container.specs.Laws.{Has64Bits}
use Rattle.avro_container.specs.Shortest.{groups, shortest}
use Rattle.avro_encode.specs.Listed.{PairsFieldsOf, plain_fields_of}
use Rattle.avro_encode.specs.Pairs.{Pairs}
use Rattle.avro_encode.specs.Plain.{plain}

-- a number of 64 bits
pub record BeginsWithNumber (bytes : List ℕ) (v : ℤ) (rest : List ℕ) : Type 0 where
  pub fits : Has64Bits v
  pub joined : bytes ≡ shortest v ++ rest

-- limit by 128, so many times: what groups of seven bits are below, of which the last is below the limit
abbrev pub groups_limit : ℕ → ℕ → ℕ
groups_limit zero limit = limit
groups_limit (suc most) limit = 128 * groups_limit most limit

-- the groups of an unsigned number: at most so many, and a last one, which is below the limit where there are as many
pub record BeginsWithGroups (most limit : ℕ) (bytes rest : List ℕ) : Type 0 where
  pub number : ℕ
  pub small : number < groups_limit most limit
  pub joined : bytes ≡ groups 9 number ++ rest

-- a number of 0 or more
abbrev pub BeginsWithLength : List ℕ → ℕ → List ℕ → Type 0
BeginsWithLength bytes n = BeginsWithNumber bytes (pos n)

-- bytes after their length
pub record BeginsWithCounted (bytes part rest : List ℕ) : Type 0 where
  pub counted : length part < 2 ^ 63
  pub joined : bytes ≡ counted_bytes part ++ rest

-- a value of P
pub record BeginsWith {A : Type 0} (P : A → Type 0) (encode : A → List ℕ) (bytes rest : List ℕ) : Type 0 where
  pub value : A
  pub holds : P value
  pub joined : bytes ≡ encode value ++ rest

abbrev pub HoldsMany : {A : Type 0} → (A → Type 0) → ℕ → List A → Type 0
HoldsMany P n xs = (length xs ≡ n) × AllByRecursion P xs

-- n values of P, one after another
abbrev pub BeginsWithMany : {A : Type 0} → (A → Type 0) → (A → List ℕ) → ℕ → List ℕ → List ℕ → Type 0
BeginsWithMany P encode n = BeginsWith (HoldsMany P n) (flat_map encode)

-- a slot of the schema
abbrev pub BeginsWithSlot : Schema → List ℕ → List ℕ → Type 0
BeginsWithSlot s = BeginsWith (Pairs s) (plain s)

-- a slot of each field, in order
abbrev pub BeginsWithFields : List AvroField → List ℕ → List ℕ → Type 0
BeginsWithFields fields = BeginsWith (PairsFieldsOf fields) (plain_fields_of fields)

abbrev pub BeginsWithItems : Schema → ℕ → List ℕ → List ℕ → Type 0
BeginsWithItems item = BeginsWithMany (Pairs item) (plain item)

abbrev pub BeginsWithRows : List AvroField → ℕ → List ℕ → List ℕ → Type 0
BeginsWithRows fields = BeginsWithMany (PairsFieldsOf fields) (plain_fields_of fields)

-- the first n bytes are a slot of the schema
abbrev pub TakesSlot : Schema → ℕ → List ℕ → Type 0
TakesSlot s n bytes = (n ≤ length bytes) × BeginsWithSlot s bytes (drop n bytes)

abbrev pub TakesRows : List AvroField → ℕ → ℕ → List ℕ → Type 0
TakesRows fields n len bytes = (len ≤ length bytes) × BeginsWithRows fields n bytes (drop len bytes)
