-- The one canonical encoding of a slot under a schema (Avro 1.11, "Binary Encoding"). Of what the standard leaves
-- open it takes: for each number the shortest encoding, for an array one block with a positive count, for a
-- decimal the size that `Decimals.antt` says.
use Rattle.std.specs.Prelude.{ℕ, suc, ℤ, pos, int_div, Bool, false, cond, List, [], ◌∷◌, ◌++◌, length, flat_map, Option, Some, None}
use Rattle.std.specs.Int.{w32, cast_unsigned, to_le_bytes}
use Rattle.arrow_core.specs.declared.slot.Slot.{Slot, out-Slot, Boolean, Integer, String, Binary}
use Rattle.arrow_core.specs.declared.slot.Slot.TheOpen as open_slot
use Rattle.avro_schema.specs.declared.schema.Schema.{Schema, Null, Boolean as BooleanSchema, Int, Long, Float, Double, Bytes, String as StringSchema, Record, Enum, Array', Map', Union', Fixed, Row_of-Schema, end_of-Schema, more_of-Schema}
use Rattle.avro_schema.specs.declared.schema.Record.{Record as TheRecord, Record', Row_of-AvroField, end_of-AvroField, more_of-AvroField}
use Rattle.avro_schema.specs.declared.schema.BytesLogical.{BytesLogical}
use Rattle.avro_schema.specs.declared.schema.BytesLogical.TheVariants as bytes_logical
use Rattle.avro_schema.specs.declared.schema.FixedLogical.{FixedLogical}
use Rattle.avro_schema.specs.declared.schema.FixedLogical.TheVariants as fixed_logical
use Rattle.arrow_array.specs.Slots.{is_held}
use Rattle.avro_container.specs.Shortest.{shortest}
use Rattle.avro_schema.specs.Encodes.{is_null}
use Rattle.avro_encode.specs.Decimals.{decimal}

-- ---- what a slot holds, of a slot of that kind

abbrev pub boolean_of : Slot → Bool
boolean_of (Boolean b) = b
boolean_of _ = false

abbrev pub integer_of : Slot → ℤ
integer_of (Integer n) = n
integer_of _ = pos 0

-- the bytes of a string or of a binary value
abbrev pub bytes_of : Slot → List ℕ
bytes_of (String string) = string
bytes_of (Binary bytes) = bytes
bytes_of _ = []

abbrev pub parts_of_open : open_slot.Slot-F Slot → List Slot
parts_of_open (open_slot.List xs) = xs
parts_of_open (open_slot.Struct xs) = xs
parts_of_open _ = []

-- the items of a list, and the slots of a struct
abbrev pub parts_of : Slot → List Slot
parts_of x = parts_of_open (out-Slot x)

-- ---- the encoding

-- bytes after their length
abbrev pub counted : List ℕ → List ℕ
counted bytes = shortest (pos (length bytes)) ++ bytes

-- the number 0 where there are no items, else one block with a positive count, and then 0
abbrev pub one_block : (Slot → List ℕ) → List Slot → List ℕ
one_block encode [] = shortest (pos 0)
one_block encode (x ∷ xs) = shortest (pos (suc (length xs))) ++ (flat_map encode (x ∷ xs) ++ shortest (pos 0))

abbrev pub plain_bytes : Option BytesLogical → Slot → List ℕ
plain_bytes None x = counted (bytes_of x)
plain_bytes (Some (bytes_logical.Decimal precision scale)) x = counted (decimal (integer_of x))

-- 32 bits in two's complement, the low byte first
abbrev pub four_bytes : ℤ → List ℕ
four_bytes v = to_le_bytes w32 (cast_unsigned w32 v)

abbrev pub milliseconds : ℤ → ℤ
milliseconds nanoseconds = int_div nanoseconds (pos 1000000)

-- a duration's months, days and milliseconds (Avro 1.11, "Duration"), each with a sign, as the grammar reads them
abbrev pub plain_duration : List Slot → List ℕ
plain_duration (months ∷ days ∷ nanoseconds ∷ []) =
    four_bytes (integer_of months) ++ (four_bytes (integer_of days) ++ four_bytes (milliseconds (integer_of nanoseconds)))
plain_duration _ = []

abbrev pub plain_fixed : Option FixedLogical → Slot → List ℕ
plain_fixed None x = bytes_of x
plain_fixed (Some fixed_logical.Duration) x = plain_duration (parts_of x)
plain_fixed (Some (fixed_logical.Decimal precision scale)) x = []

-- what it gives where slot and schema do not pair (`Pairs.antt`) means nothing
abbrev mutual
  pub plain : Schema → Slot → List ℕ
  plain BooleanSchema x = cond (boolean_of x) 1 0 ∷ []
  plain (Int logical) x = shortest (integer_of x)
  plain (Long logical) x = shortest (integer_of x)
  plain (Bytes logical) x = plain_bytes logical x
  plain (StringSchema logical) x = counted (bytes_of x)
  plain (Record r) x = plain_record r (parts_of x)
  plain (Array' shape item) x = one_block (plain_item item) (parts_of x)
  plain (Union' shape members) x = plain_union members x
  plain (Fixed f) x = plain_fixed f.logical x
  plain Null x = []
  plain Float x = []
  plain Double x = []
  plain (Enum e) x = []
  plain (Map' shape value) x = []

  pub plain_record : TheRecord → List Slot → List ℕ
  plain_record (Record' name namespace doc shape fields) xs = plain_fields fields xs

  -- the fields in order
  pub plain_fields : {m : _} → Row_of-AvroField m → List Slot → List ℕ
  plain_fields end_of-AvroField xs = []
  plain_fields (more_of-AvroField name doc s rest) [] = []
  plain_fields (more_of-AvroField name doc s rest) (x ∷ xs) = plain s x ++ plain_fields rest xs

  -- an item, by the one schema that an array has
  pub plain_item : {m : _} → Row_of-Schema m → Slot → List ℕ
  plain_item end_of-Schema x = []
  plain_item (more_of-Schema s rest) x = plain s x

  -- a null has the index at which null stands, and a value the other index
  pub plain_union : {m : _} → Row_of-Schema m → Slot → List ℕ
  plain_union (more_of-Schema s (more_of-Schema u end_of-Schema)) x =
      cond (is_null s)
      (cond (is_held x) (shortest (pos 1) ++ plain u x) (shortest (pos 0)))
      (cond (is_held x) (shortest (pos 0) ++ plain s x) (shortest (pos 1)))
  plain_union _ x = []
