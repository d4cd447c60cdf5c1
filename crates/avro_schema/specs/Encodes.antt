-- Which bytes encode which slot under a schema (Avro 1.11, "Binary Encoding"). Of what the standard encodes this
-- leaves out floats, doubles, maps, a null by itself, and the third member of a union and later ones: no bytes
-- encode them here.
use Rattle.std.specs.Prelude.{◌≡◌, ℕ, zero, suc, ◌+◌, ◌*◌, ◌^◌, ◌<◌, ◌≤◌, nat_lt, ℤ, pos, negsuc, ◌≤ℤ◌, ◌*ℤ◌, ◌-ℤ◌, Bool, true, false, cond, List, [], ◌∷◌, length, take, drop, slice_index_or, Option, Some, None, ◌⊎◌}
use Rattle.std.specs.Str.{IsUtf8}
use Rattle.arrow_core.specs.declared.slot.Slot.{Slot}
use Rattle.arrow_core.specs.declared.slot.Slot.TheVariants as slot
use Rattle.avro_schema.specs.declared.schema.Schema.{Schema, Null, Boolean, Int, Long, Float, Double, Bytes, String, Record, Enum, Array', Map', Union', Fixed, Row_of-Schema, end_of-Schema, more_of-Schema}
use Rattle.avro_schema.specs.declared.schema.Record.{Record as TheRecord, Record', Row_of-AvroField, end_of-AvroField, more_of-AvroField}
use Rattle.avro_schema.specs.declared.schema.BytesLogical.{BytesLogical}
use Rattle.avro_schema.specs.declared.schema.BytesLogical.TheVariants as bytes_logical
use Rattle.avro_schema.specs.declared.schema.FixedLogical.{FixedLogical}
use Rattle.avro_schema.specs.declared.schema.FixedLogical.TheVariants as fixed_logical
use Rattle.avro_schema.specs.Number.{Number}
use Rattle.avro_schema.specs.Parts.{Grammar, Then, Meaning, Raw, Sized, Blocks}

-- no condition
abbrev pub Any : {A : Type 0} → A → Type 0
Any x = Unit {0}

-- one byte, 0 or 1
abbrev pub IsBooleanByte : Grammar Bool
IsBooleanByte bytes b = bytes ≡ cond b 1 0 ∷ []

-- a number of type int has 32 bits (Avro 1.11, "Primitive Types")
abbrev pub IsInt : ℤ → Type 0
IsInt v = (negsuc 2147483647 ≤ℤ v) × (v ≤ℤ pos 2147483647)

-- the high byte first
abbrev pub big_endian : List ℕ → ℕ
big_endian [] = 0
big_endian (b ∷ bs) = b * 256 ^ length bs + big_endian bs

-- big-endian two's complement, as decimals are encoded (Avro 1.11, "Decimal")
abbrev pub twos_complement : List ℕ → ℤ
twos_complement bytes =
    cond (nat_lt (2 * big_endian bytes) (256 ^ length bytes)) (pos (big_endian bytes)) (pos (big_endian bytes) -ℤ pos (256 ^ length bytes))

-- the low byte first
abbrev pub little_endian : List ℕ → ℕ
little_endian [] = 0
little_endian (b ∷ bs) = b + 256 * little_endian bs

-- 32 bits in two's complement, the low byte first
abbrev pub signed_32 : List ℕ → ℤ
signed_32 bytes =
    cond (nat_lt (little_endian bytes) (2 ^ 31)) (pos (little_endian bytes)) (pos (little_endian bytes) -ℤ pos (2 ^ 32))

-- three numbers of four bytes, the low byte first: months, days, and milliseconds, which are kept in
-- nanoseconds (Avro 1.11, "Duration"). The standard has them unsigned; here each is read with a sign, as the
-- columns' intervals have one.
abbrev pub duration : List ℕ → Slot
duration bytes =
    slot.Struct
    (slot.Integer (signed_32 (take 4 bytes)) ∷ slot.Integer (signed_32 (take 4 (drop 4 bytes))) ∷ slot.Integer (signed_32 (take 4 (drop 8 bytes)) *ℤ pos 1000000) ∷ [])

-- a decimal has at most 128 bits: a limit of these columns, which the standard does not set
abbrev pub IsShort : List ℕ → Type 0
IsShort bytes = length bytes ≤ 16

-- a binary value, or a decimal
abbrev pub EncodesBytes : Option BytesLogical → Grammar Slot
EncodesBytes None = Meaning Sized Any slot.Binary
EncodesBytes (Some (bytes_logical.Decimal precision scale)) = Meaning Sized IsShort (λ y. slot.Integer (twos_complement y))

-- bytes of the declared size; a decimal or a duration
abbrev pub EncodesFixed : ℕ → Option FixedLogical → Grammar Slot
EncodesFixed size None = Meaning (Raw size) Any slot.Binary
EncodesFixed size (Some (fixed_logical.Decimal precision scale)) = Meaning (Raw size) IsShort (λ y. slot.Integer (twos_complement y))
EncodesFixed size (Some fixed_logical.Duration) = Meaning (Raw 12) Any duration

-- an enum's number is an index of its symbols, from 0
abbrev pub IsIndex : {A : Type 0} → List A → ℤ → Type 0
IsIndex xs (pos k) = k < length xs
IsIndex xs (negsuc k) = ⊥

abbrev pub symbol_at : List (List ℕ) → ℤ → List ℕ
symbol_at symbols (pos k) = slice_index_or symbols k []
symbol_at symbols (negsuc k) = []

abbrev pub IsNull : Schema → Type 0
IsNull Null = Unit {0}
IsNull _ = ⊥

-- the same as a test
abbrev pub is_null : Schema → Bool
is_null Null = true
is_null _ = false

abbrev mutual
  pub Encodes : Schema → List ℕ → Slot → Type 0
  Encodes Null bytes x = ⊥
  Encodes Boolean bytes x = Meaning IsBooleanByte Any slot.Boolean bytes x
  Encodes (Int logical) bytes x = Meaning Number IsInt slot.Integer bytes x
  Encodes (Long logical) bytes x = Meaning Number Any slot.Integer bytes x
  Encodes Float bytes x = ⊥
  Encodes Double bytes x = ⊥
  Encodes (Bytes logical) bytes x = EncodesBytes logical bytes x
  Encodes (String logical) bytes x = Meaning Sized IsUtf8 slot.String bytes x
  Encodes (Record r) bytes x = Meaning (EncodesRecord r) Any slot.Struct bytes x
  Encodes (Enum e) bytes x = Meaning Number (IsIndex e.symbols) (λ v. slot.String (symbol_at e.symbols v)) bytes x
  Encodes (Array' shape item) bytes x = Meaning (Blocks (EncodesItem item)) Any slot.List bytes x
  Encodes (Map' shape value) bytes x = ⊥
  Encodes (Union' shape members) bytes x = Then Number (λ v back y. (k : ℕ) × (v ≡ pos k) × (k < 2) × EncodesMember members k back y) bytes x
  Encodes (Fixed f) bytes x = EncodesFixed f.size f.logical bytes x

  pub EncodesRecord : TheRecord → List ℕ → List Slot → Type 0
  EncodesRecord (Record' name namespace doc shape fields) bytes xs = EncodesFields fields bytes xs

  -- the items of an array: its row of schemas has one
  pub EncodesItem : {m : _} → Row_of-Schema m → List ℕ → Slot → Type 0
  EncodesItem end_of-Schema bytes x = ⊥
  EncodesItem (more_of-Schema s rest) bytes x = Encodes s bytes x

  -- the member at index k, where null has no bytes
  pub EncodesMember : {m : _} → Row_of-Schema m → ℕ → List ℕ → Slot → Type 0
  EncodesMember end_of-Schema k bytes x = ⊥
  EncodesMember (more_of-Schema s rest) zero bytes x = Encodes s bytes x ⊎ (IsNull s × (bytes ≡ []) × (x ≡ slot.Null))
  EncodesMember (more_of-Schema s rest) (suc k) bytes x = EncodesMember rest k bytes x

  pub EncodesFields : {m : _} → Row_of-AvroField m → List ℕ → List Slot → Type 0
  EncodesFields end_of-AvroField bytes xs = (bytes ≡ []) × (xs ≡ [])
  EncodesFields (more_of-AvroField name doc s rest) bytes xs = Then (Encodes s) (λ x back ys. (more : List Slot) × (ys ≡ x ∷ more) × EncodesFields rest back more) bytes xs
