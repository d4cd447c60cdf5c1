-- The examples of the Avro specification (1.11, "Binary Encoding"), an array in a block that states its
-- size, and rows that break off at a size below 0.
use Rattle.std.specs.Prelude.{◌≡◌, ℕ, pos, List, [], ◌∷◌, None, Bool, true, false}
use Rattle.arrow_core.specs.declared.slot.Slot.TheVariants as slot
use Rattle.avro_schema.specs.declared.schema.Schema.{Null, Long, String, Array, Union}
use Rattle.avro_schema.specs.declared.schema.AvroField.{AvroField}
use Rattle.avro_schema.specs.Encodes.{Encodes}
use Rattle.avro_schema.specs.Skips.{Skips}
use Rattle.avro_schema.specs.Listed.{EncodesFieldsOf}
use Rattle.avro_schema.specs.NegativeSize.{NegativeSize}
use Rattle.avro_schema.specs.Location.{location_in_row}

-- "Records": a long a of 27 and a string b of foo
abbrev pub RecordExample : Type 0
RecordExample = (a b : AvroField) → a.schema ≡ Long None → b.schema ≡ String None →
    EncodesFieldsOf (a ∷ b ∷ []) (0x36 ∷ 0x06 ∷ 0x66 ∷ 0x6f ∷ 0x6f ∷ []) (slot.Integer (pos 27) ∷ slot.String (0x66 ∷ 0x6f ∷ 0x6f ∷ []) ∷ [])

-- "Arrays": the longs 3 and 27
abbrev pub ArrayExample : Type 0
ArrayExample = Encodes (Array (Long None)) (0x04 ∷ 0x06 ∷ 0x36 ∷ 0x00 ∷ []) (slot.List (slot.Integer (pos 3) ∷ slot.Integer (pos 27) ∷ []))

-- the same in a block that states its size
abbrev pub SizedArrayExample : Type 0
SizedArrayExample = Encodes (Array (Long None)) (0x03 ∷ 0x04 ∷ 0x06 ∷ 0x36 ∷ 0x00 ∷ []) (slot.List (slot.Integer (pos 3) ∷ slot.Integer (pos 27) ∷ []))

-- of which two bytes are passed unseen
abbrev pub SkippedArrayExample : Type 0
SkippedArrayExample = Skips (Array (Long None)) (0x03 ∷ 0x04 ∷ 0x06 ∷ 0x36 ∷ 0x00 ∷ []) (record { seen = 3; hidden = 2 })

-- "Unions": null, and the string a, under null and string
abbrev pub NullExample : Type 0
NullExample = Encodes (Union (Null ∷ String None ∷ [])) (0x00 ∷ []) slot.Null

abbrev pub MemberExample : Type 0
MemberExample = Encodes (Union (Null ∷ String None ∷ [])) (0x02 ∷ 0x02 ∷ 0x61 ∷ []) (slot.String (0x61 ∷ []))

-- a long that is kept, and arrays of longs that are skipped: 1 and no array, and then 2 and two arrays, of
-- which the second states a size of -1
abbrev pub fields : List AvroField
fields = record { name = []; doc = None; schema = Long None } ∷ record { name = []; doc = None; schema = Array (Array (Long None)) } ∷ []

abbrev pub projection : List Bool
projection = true ∷ false ∷ []

abbrev pub broken_rows : List ℕ
broken_rows = 0x02 ∷ 0x00 ∷ 0x04 ∷ 0x04 ∷ 0x00 ∷ 0x03 ∷ 0x01 ∷ []

-- that size stands in row 1, in its field 1, in block 0 of the field's array, in item 1 of that block, and in
-- block 0 of this item
pub record BreakExample : Type 0 where
  pub breaks : NegativeSize 2 fields projection broken_rows
  pub whole : breaks.whole ≡ 1
  pub location : location_in_row fields projection breaks.back breaks.broken ≡ record { path = 1 ∷ 0 ∷ 1 ∷ 0 ∷ []; bytes = 0x03 ∷ 0x01 ∷ [] }
