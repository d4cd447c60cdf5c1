-- Which slots have a canonical encoding under a schema: of the kinds that `PairTypes.antt` pairs, the slots that the
-- schema encodes, with lists, strings and binary values no longer than a number counts. Of an empty list and of a null
-- the schema beneath is not looked at.
use Rattle.std.specs.Prelude.{◌≡◌, ℕ, ◌^◌, ◌<◌, ℤ, pos, negsuc, ◌≤ℤ◌, ◌*ℤ◌, Bool, List, [], ◌∷◌, length, Option, Some, None, ◌⊎◌}
use Rattle.std.specs.List.{AllByRecursion}
use Rattle.std.specs.Str.{IsUtf8}
use Rattle.arrow_core.specs.declared.slot.Slot.{Slot}
use Rattle.arrow_core.specs.declared.slot.Slot.TheVariants as slot
use Rattle.avro_schema.specs.declared.schema.Schema.{Schema, Null, Boolean, Int, Long, Float, Double, Bytes, String, Record, Enum, Array', Map', Union', Fixed, Row_of-Schema, end_of-Schema, more_of-Schema}
use Rattle.avro_schema.specs.declared.schema.Record.{Record as TheRecord, Record', Row_of-AvroField, end_of-AvroField, more_of-AvroField}
use Rattle.avro_schema.specs.declared.schema.BytesLogical.{BytesLogical}
use Rattle.avro_schema.specs.declared.schema.BytesLogical.TheVariants as bytes_logical
use Rattle.avro_schema.specs.declared.schema.FixedLogical.{FixedLogical}
use Rattle.avro_schema.specs.declared.schema.FixedLogical.TheVariants as fixed_logical
use Rattle.avro_schema.specs.Encodes.{IsInt, IsNull}
use Rattle.avro_schema.specs.Carried.{IsNoUnion}

-- an integer of 64 bits, and of 128 bits
abbrev pub IsLong : ℤ → Type 0
IsLong v = (negsuc 9223372036854775807 ≤ℤ v) × (v ≤ℤ pos 9223372036854775807)

abbrev pub IsDecimal : ℤ → Type 0
IsDecimal v = (negsuc 170141183460469231731687303715884105727 ≤ℤ v) × (v ≤ℤ pos 170141183460469231731687303715884105727)

-- so few that a number counts them
abbrev pub IsCounted : {A : Type 0} → List A → Type 0
IsCounted xs = length xs < 2 ^ 63

abbrev pub PairsBytes : Option BytesLogical → Slot → Type 0
PairsBytes None x = (bytes : List ℕ) × (x ≡ slot.Binary bytes) × IsCounted bytes
PairsBytes (Some (bytes_logical.Decimal precision scale)) x = (v : ℤ) × (x ≡ slot.Integer v) × IsDecimal v

-- an interval of months, days and whole milliseconds, each in 32 bits
abbrev pub PairsDuration : Slot → Type 0
PairsDuration x = (months : ℤ) × (days : ℤ) × (ms : ℤ)
    × (x ≡ slot.Struct (slot.Integer months ∷ slot.Integer days ∷ slot.Integer (ms *ℤ pos 1000000) ∷ []))
    × IsInt months × IsInt days × IsInt ms

abbrev pub PairsFixed : ℕ → Option FixedLogical → Slot → Type 0
PairsFixed size None x = (bytes : List ℕ) × (x ≡ slot.Binary bytes) × (length bytes ≡ size)
PairsFixed size (Some fixed_logical.Duration) x = PairsDuration x
PairsFixed size (Some (fixed_logical.Decimal precision scale)) x = ⊥

abbrev mutual
  pub Pairs : Schema → Slot → Type 0
  Pairs Boolean x = (b : Bool) × (x ≡ slot.Boolean b)
  Pairs (Int logical) x = (v : ℤ) × (x ≡ slot.Integer v) × IsInt v
  Pairs (Long logical) x = (v : ℤ) × (x ≡ slot.Integer v) × IsLong v
  Pairs (Bytes logical) x = PairsBytes logical x
  Pairs (String logical) x = (string : List ℕ) × (x ≡ slot.String string) × IsUtf8 string × IsCounted string
  Pairs (Record r) x = (xs : List Slot) × (x ≡ slot.Struct xs) × PairsRecord r xs
  Pairs (Array' shape item) x = (xs : List Slot) × (x ≡ slot.List xs) × IsCounted xs × AllByRecursion (PairsItem item) xs
  Pairs (Union' shape members) x = PairsUnion members x
  Pairs (Fixed f) x = PairsFixed f.size f.logical x
  Pairs Null x = ⊥
  Pairs Float x = ⊥
  Pairs Double x = ⊥
  Pairs (Enum e) x = ⊥
  Pairs (Map' shape value) x = ⊥

  pub PairsRecord : TheRecord → List Slot → Type 0
  PairsRecord (Record' name namespace doc shape fields) xs = PairsFields fields xs

  -- as many slots in order
  pub PairsFields : {m : _} → Row_of-AvroField m → List Slot → Type 0
  PairsFields end_of-AvroField [] = Unit {0}
  PairsFields end_of-AvroField (x ∷ xs) = ⊥
  PairsFields (more_of-AvroField name doc s rest) [] = ⊥
  PairsFields (more_of-AvroField name doc s rest) (x ∷ xs) = Pairs s x × PairsFields rest xs

  pub PairsItem : {m : _} → Row_of-Schema m → Slot → Type 0
  PairsItem end_of-Schema x = ⊥
  PairsItem (more_of-Schema s rest) x = Pairs s x

  -- null and one other, which is no union
  pub PairsUnion : {m : _} → Row_of-Schema m → Slot → Type 0
  PairsUnion (more_of-Schema s (more_of-Schema u end_of-Schema)) x =
      (IsNull s × IsNoUnion u × ((x ≡ slot.Null) ⊎ Pairs u x)) ⊎ (IsNull u × IsNoUnion s × ((x ≡ slot.Null) ⊎ Pairs s x))
  PairsUnion _ x = ⊥
