-- Worked examples: bytes that are rows of some fields, and bytes that are not. In names of a field's
-- type, as in comments, a question mark says that null is the first of two members.
use Rattle.std.specs.Prelude.{ℕ, ◌≤◌, pos, negsuc, List, [], ◌∷◌, ◌++◌, length, map, replicate, Bool, true, false, Option, Some, None, Result, Ok, Err}
use Rattle.arrow_core.specs.declared.slot.Slot.{Slot}
use Rattle.arrow_core.specs.declared.slot.Slot.TheVariants as slot
use Rattle.avro_schema.specs.declared.schema.Schema.{Schema, Null, Boolean, Int, Long, Float, Double, Bytes, String, Record, Enum, Array, Union, Fixed}
use Rattle.avro_schema.specs.declared.schema.Record.{roll-Record}
use Rattle.avro_schema.specs.declared.schema.AvroField.{AvroField}
use Rattle.avro_schema.specs.declared.schema.BytesLogical.TheVariants as bytes_logical
use Rattle.avro_schema.specs.declared.schema.FixedLogical.{FixedLogical}
use Rattle.avro_schema.specs.declared.schema.FixedLogical.TheVariants as fixed_logical
use Rattle.avro_schema.specs.Rows.{Pieces, Rows}
use Rattle.avro_schema.specs.NegativeSize.{NegativeSize}
use Rattle.avro_reference.specs.Laws.{AreRows}
use Rattle.avro_reference.specs.Skip.{Fault, Bad, Negative}

-- ---- what an example says

-- some bytes, and what they are as n rows of the fields
pub record Example : Type 0 where
  pub n : ℕ
  pub fields : List AvroField
  pub projection : List Bool
  pub bytes : List ℕ
  pub answer : Result (List Pieces) Fault

-- the bytes are no such rows, and do not break off at a size below 0
abbrev pub AreNoRows : ℕ → List AvroField → List Bool → List ℕ → Type 0
AreNoRows n fields projection bytes =
    ((table : List (List Slot)) → n ≤ length bytes → Rows n fields projection bytes table → ⊥) × (NegativeSize n fields projection bytes → ⊥)

abbrev pub Means : ℕ → List AvroField → List Bool → List ℕ → Result (List Pieces) Fault → Type 0
Means n fields projection bytes (Ok pieces) = AreRows n fields projection bytes pieces
Means n fields projection bytes (Err Negative) = NegativeSize n fields projection bytes
Means n fields projection bytes (Err Bad) = AreNoRows n fields projection bytes

abbrev pub Holds : Example → Type 0
Holds e = Means e.n e.fields e.projection e.bytes e.answer

-- ---- how examples are written

abbrev pub field : Schema → AvroField
field s = record { name = []; doc = None; schema = s }

abbrev pub all_kept : ℕ → List Schema → List ℕ → Result (List Pieces) Fault → Example
all_kept n schemas bytes answer = record { n = n; fields = map field schemas; projection = map (λ _. true) schemas; bytes = bytes; answer = answer }

-- the first field is skipped, and an int after it is kept
abbrev pub first_skipped : ℕ → Schema → List ℕ → Result (List Pieces) Fault → Example
first_skipped n s bytes answer = record { n = n; fields = field s ∷ field (Int None) ∷ []; projection = false ∷ true ∷ []; bytes = bytes; answer = answer }

-- slots, how many bytes they have, and how many bytes of other fields are seen and hidden
abbrev pub row_of : List Slot → ℕ → ℕ → ℕ → Pieces
row_of slots kept seen hidden = record { slots = slots; kept = kept; passed = record { seen = seen; hidden = hidden } }

abbrev pub optional : Schema → Schema
optional s = Union (Null ∷ s ∷ [])

abbrev pub record_of : List Schema → Schema
record_of schemas = Record (roll-Record (record { name = []; namespace = None; doc = None; fields = map field schemas }))

abbrev pub enum_of : List (List ℕ) → Schema
enum_of symbols = Enum (record { name = []; namespace = None; doc = None; symbols = symbols })

abbrev pub fixed_of : ℕ → Option FixedLogical → Schema
fixed_of size logical = Fixed (record { name = []; namespace = None; doc = None; size = size; logical = logical })

abbrev pub decimal : Schema
decimal = Bytes (Some (bytes_logical.Decimal 10 2))

abbrev pub whole : ℕ → Slot
whole n = slot.Integer (pos n)

-- the number 2 ^ 63 - 1, in ten bytes
abbrev pub largest : List ℕ
largest = 0xfe ∷ replicate 8 0xff ++ 0x01 ∷ []

-- the number -2 ^ 63
abbrev pub least : List ℕ
least = replicate 9 0xff ++ 0x01 ∷ []

-- ---- numbers and flat kinds

-- 0, -1, 1, -2, 2, -64 and 64 (Avro 1.11, "Primitive Types")
abbrev pub numbers : List Example
numbers =
    all_kept 7 (Long None ∷ []) (0x00 ∷ 0x01 ∷ 0x02 ∷ 0x03 ∷ 0x04 ∷ 0x7f ∷ 0x80 ∷ 0x01 ∷ []) (Ok (row_of (whole 0 ∷ []) 1 0 0 ∷ row_of (slot.Integer (negsuc 0) ∷ []) 1 0 0 ∷ row_of (whole 1 ∷ []) 1 0 0 ∷ row_of (slot.Integer (negsuc 1) ∷ []) 1 0 0 ∷ row_of (whole 2 ∷ []) 1 0 0 ∷ row_of (slot.Integer (negsuc 63) ∷ []) 1 0 0 ∷ row_of (whole 64 ∷ []) 2 0 0 ∷ []))
    -- a longer encoding of 64
    ∷ all_kept 1 (Long None ∷ []) (0x80 ∷ 0x81 ∷ 0x00 ∷ []) (Ok (row_of (whole 64 ∷ []) 3 0 0 ∷ []))
    -- 2 ^ 31 is no int, but it can be skipped
    ∷ all_kept 1 (Int None ∷ []) (0x80 ∷ 0x80 ∷ 0x80 ∷ 0x80 ∷ 0x10 ∷ []) (Err Bad)
    ∷ first_skipped 1 (Int None) (0x80 ∷ 0x80 ∷ 0x80 ∷ 0x80 ∷ 0x10 ∷ 0x02 ∷ []) (Ok (row_of (whole 1 ∷ []) 1 5 0 ∷ []))
    -- the least number, and a tenth byte that has more than one bit
    ∷ all_kept 1 (Long None ∷ []) least (Ok (row_of (slot.Integer (negsuc 9223372036854775807) ∷ []) 10 0 0 ∷ []))
    ∷ all_kept 1 (Long None ∷ []) (replicate 9 0xff ++ 0x02 ∷ []) (Err Bad)
    -- the greatest int and the least one, and the number below it
    ∷ all_kept 2 (Int None ∷ []) (0xfe ∷ 0xff ∷ 0xff ∷ 0xff ∷ 0x0f ∷ 0xff ∷ 0xff ∷ 0xff ∷ 0xff ∷ 0x0f ∷ []) (Ok (row_of (whole 2147483647 ∷ []) 5 0 0 ∷ row_of (slot.Integer (negsuc 2147483647) ∷ []) 5 0 0 ∷ []))
    ∷ all_kept 1 (Int None ∷ []) (0x81 ∷ 0x80 ∷ 0x80 ∷ 0x80 ∷ 0x10 ∷ []) (Err Bad)
    ∷ []

abbrev pub flat_kinds : List Example
flat_kinds =
    -- a boolean is 0 or 1, and any byte where it is skipped, which counts as looked at
    all_kept 2 (Boolean ∷ []) (0x00 ∷ 0x01 ∷ []) (Ok (row_of (slot.Boolean false ∷ []) 1 0 0 ∷ row_of (slot.Boolean true ∷ []) 1 0 0 ∷ []))
    ∷ all_kept 1 (Boolean ∷ []) (0x02 ∷ []) (Err Bad)
    ∷ first_skipped 1 Boolean (0x02 ∷ 0x02 ∷ []) (Ok (row_of (whole 1 ∷ []) 1 1 0 ∷ []))
    -- a float is never looked at
    ∷ first_skipped 1 Float (0x00 ∷ 0x00 ∷ 0x80 ∷ 0x3f ∷ 0x02 ∷ []) (Ok (row_of (whole 1 ∷ []) 1 0 0 ∷ []))
    -- a string is UTF-8, and is not looked at where it is skipped
    ∷ all_kept 1 (String None ∷ []) (0x02 ∷ 0xff ∷ []) (Err Bad)
    ∷ first_skipped 1 (String None) (0x02 ∷ 0xff ∷ 0x02 ∷ []) (Ok (row_of (whole 1 ∷ []) 1 1 0 ∷ []))
    -- a symbol is named by its index
    ∷ all_kept 1 (optional (enum_of ((0x41 ∷ []) ∷ (0x42 ∷ []) ∷ [])) ∷ []) (0x02 ∷ 0x02 ∷ []) (Ok (row_of (slot.String (0x42 ∷ []) ∷ []) 2 0 0 ∷ []))
    ∷ all_kept 1 (optional (enum_of ((0x41 ∷ []) ∷ (0x42 ∷ []) ∷ [])) ∷ []) (0x02 ∷ 0x04 ∷ []) (Err Bad)
    -- fixed bytes; 1 month, 2 days and 2 ^ 32 - 1 milliseconds, which are read with a sign; and bytes
    -- whose null is the second member
    ∷ all_kept 1 (fixed_of 2 None ∷ fixed_of 12 (Some fixed_logical.Duration) ∷ Union (Bytes None ∷ Null ∷ []) ∷ []) (0xab ∷ 0xcd ∷ 0x01 ∷ 0x00 ∷ 0x00 ∷ 0x00 ∷ 0x02 ∷ 0x00 ∷ 0x00 ∷ 0x00 ∷ 0xff ∷ 0xff ∷ 0xff ∷ 0xff ∷ 0x00 ∷ 0x02 ∷ 0x7f ∷ []) (Ok (row_of (slot.Binary (0xab ∷ 0xcd ∷ []) ∷ slot.Struct (whole 1 ∷ whole 2 ∷ slot.Integer (negsuc 999999) ∷ []) ∷ slot.Binary (0x7f ∷ []) ∷ []) 17 0 0 ∷ []))
    -- -1 month
    ∷ all_kept 1 (fixed_of 12 (Some fixed_logical.Duration) ∷ []) (replicate 4 0xff ++ replicate 8 0x00) (Ok (row_of (slot.Struct (slot.Integer (negsuc 0) ∷ whole 0 ∷ whole 0 ∷ []) ∷ []) 12 0 0 ∷ []))
    ∷ []

abbrev pub decimals : List Example
decimals =
    -- 0 in no bytes, 32768 and 1 with a zero byte at the start, and -1 in sixteen bytes
    all_kept 4 (decimal ∷ []) (0x00 ∷ 0x08 ∷ 0x00 ∷ 0x00 ∷ 0x80 ∷ 0x00 ∷ 0x04 ∷ 0x00 ∷ 0x01 ∷ 0x20 ∷ replicate 16 0xff) (Ok (row_of (whole 0 ∷ []) 1 0 0 ∷ row_of (whole 32768 ∷ []) 5 0 0 ∷ row_of (whole 1 ∷ []) 3 0 0 ∷ row_of (slot.Integer (negsuc 0) ∷ []) 17 0 0 ∷ []))
    -- the top bit is the sign, also of a fixed decimal
    ∷ all_kept 1 (decimal ∷ fixed_of 2 (Some (fixed_logical.Decimal 10 2)) ∷ []) (0x04 ∷ 0x80 ∷ 0x00 ∷ 0x80 ∷ 0x00 ∷ []) (Ok (row_of (slot.Integer (negsuc 32767) ∷ slot.Integer (negsuc 32767) ∷ []) 5 0 0 ∷ []))
    -- no decimal has seventeen bytes, but they can be skipped
    ∷ all_kept 1 (decimal ∷ []) (0x22 ∷ replicate 17 0x00) (Err Bad)
    ∷ first_skipped 1 decimal (0x22 ∷ replicate 17 0x00 ++ 0x02 ∷ []) (Ok (row_of (whole 1 ∷ []) 1 1 0 ∷ []))
    ∷ []

-- what is skipped, and how many of its bytes are looked at
abbrev pub skipped_kinds : List Example
skipped_kinds =
    first_skipped 1 Double (replicate 8 0xff ++ 0x02 ∷ []) (Ok (row_of (whole 1 ∷ []) 1 0 0 ∷ []))
    -- an enum's number need not be an index of its symbols
    ∷ first_skipped 1 (enum_of ((0x41 ∷ []) ∷ [])) (0x08 ∷ 0x02 ∷ []) (Ok (row_of (whole 1 ∷ []) 1 1 0 ∷ []))
    ∷ first_skipped 1 (fixed_of 2 None) (0xab ∷ 0xcd ∷ 0x02 ∷ []) (Ok (row_of (whole 1 ∷ []) 1 0 0 ∷ []))
    ∷ first_skipped 1 (fixed_of 12 (Some fixed_logical.Duration)) (replicate 12 0xff ++ 0x02 ∷ []) (Ok (row_of (whole 1 ∷ []) 1 0 0 ∷ []))
    -- of a union its number is looked at, and of the array in it its count, its size and its end; null has no bytes
    ∷ first_skipped 2 (optional (Array (Long None))) (0x02 ∷ 0x03 ∷ 0x04 ∷ 0xff ∷ 0xff ∷ 0x00 ∷ 0x02 ∷ 0x00 ∷ 0x02 ∷ []) (Ok (row_of (whole 1 ∷ []) 1 4 2 ∷ row_of (whole 1 ∷ []) 1 1 0 ∷ []))
    -- a record of a string and such an array
    ∷ first_skipped 1 (record_of (String None ∷ Array (Long None) ∷ [])) (0x02 ∷ 0xff ∷ 0x03 ∷ 0x04 ∷ 0xff ∷ 0xff ∷ 0x00 ∷ 0x02 ∷ []) (Ok (row_of (whole 1 ∷ []) 1 4 2 ∷ []))
    ∷ []

-- ---- rows

abbrev pub two_rows : List ℕ
two_rows = 0x02 ∷ 0x02 ∷ 0x04 ∷ 0x68 ∷ 0x69 ∷ 0x03 ∷ 0x00 ∷ []

abbrev pub rows_of_two_fields : List Example
rows_of_two_fields =
    -- an int and a string?: 1 and hi, -2 and null
    all_kept 2 (Int None ∷ optional (String None) ∷ []) two_rows (Ok (row_of (whole 1 ∷ slot.String (0x68 ∷ 0x69 ∷ []) ∷ []) 5 0 0 ∷ row_of (slot.Integer (negsuc 1) ∷ slot.Null ∷ []) 2 0 0 ∷ []))
    -- the same without the int
    ∷ record {
      n = 2;
      fields = field (Int None) ∷ field (optional (String None)) ∷ [];
      projection = false ∷ true ∷ [];
      bytes = two_rows;
      answer = Ok (row_of (slot.String (0x68 ∷ 0x69 ∷ []) ∷ []) 4 1 0 ∷ row_of (slot.Null ∷ []) 1 1 0 ∷ []);
    }
    -- a byte more, and a byte less
    ∷ all_kept 2 (Int None ∷ optional (String None) ∷ []) (two_rows ++ 0x00 ∷ []) (Err Bad)
    ∷ all_kept 2 (Int None ∷ optional (String None) ∷ []) (0x02 ∷ 0x02 ∷ 0x04 ∷ 0x68 ∷ 0x69 ∷ 0x03 ∷ []) (Err Bad)
    -- no row
    ∷ all_kept 0 (Int None ∷ []) [] (Ok [])
    -- a union has two members, also where it is skipped
    ∷ first_skipped 1 (optional (Int None)) (0x04 ∷ 0x02 ∷ []) (Err Bad)
    -- a null, and a record of 1 and a, b
    ∷ all_kept 2 (optional (record_of (Int None ∷ Array (String None) ∷ [])) ∷ []) (0x00 ∷ 0x02 ∷ 0x02 ∷ 0x04 ∷ 0x02 ∷ 0x61 ∷ 0x02 ∷ 0x62 ∷ 0x00 ∷ []) (Ok (row_of (slot.Null ∷ []) 1 0 0 ∷ row_of (slot.Struct (whole 1 ∷ slot.List (slot.String (0x61 ∷ []) ∷ slot.String (0x62 ∷ []) ∷ []) ∷ []) ∷ []) 8 0 0 ∷ []))
    ∷ []

-- ---- arrays, and the sizes that their blocks state

abbrev pub arrays : List Example
arrays =
    -- 1 and 2, without and with a stated size
    all_kept 1 (Array (Long None) ∷ []) (0x04 ∷ 0x02 ∷ 0x04 ∷ 0x00 ∷ []) (Ok (row_of (slot.List (whole 1 ∷ whole 2 ∷ []) ∷ []) 4 0 0 ∷ []))
    ∷ all_kept 1 (Array (Long None) ∷ []) (0x03 ∷ 0x04 ∷ 0x02 ∷ 0x04 ∷ 0x00 ∷ []) (Ok (row_of (slot.List (whole 1 ∷ whole 2 ∷ []) ∷ []) 5 0 0 ∷ []))
    -- a kept size is the items' own
    ∷ all_kept 1 (Array (Long None) ∷ []) (0x03 ∷ 0x06 ∷ 0x02 ∷ 0x04 ∷ 0x00 ∷ []) (Err Bad)
    -- items after their size are not looked at where they are skipped
    ∷ first_skipped 1 (Array (Long None)) (0x03 ∷ 0x04 ∷ 0xff ∷ 0xff ∷ 0x00 ∷ 0x02 ∷ []) (Ok (row_of (whole 1 ∷ []) 1 3 2 ∷ []))
    -- two blocks, and no items
    ∷ all_kept 1 (Array (Long None) ∷ []) (0x02 ∷ 0x02 ∷ 0x02 ∷ 0x04 ∷ 0x00 ∷ []) (Ok (row_of (slot.List (whole 1 ∷ whole 2 ∷ []) ∷ []) 5 0 0 ∷ []))
    ∷ all_kept 1 (Array (Long None) ∷ []) (0x00 ∷ []) (Ok (row_of (slot.List [] ∷ []) 1 0 0 ∷ []))
    -- no block has a count of -2 ^ 63, kept or skipped; a skipped one may have a count of -(2 ^ 63 - 1)
    ∷ all_kept 1 (Array (Long None) ∷ []) least (Err Bad)
    ∷ first_skipped 1 (Array (Long None)) (least ++ 0x00 ∷ 0x00 ∷ 0x02 ∷ []) (Err Bad)
    ∷ first_skipped 1 (Array (Long None)) (0xfd ∷ replicate 8 0xff ++ 0x01 ∷ 0x00 ∷ 0x00 ∷ 0x02 ∷ []) (Ok (row_of (whole 1 ∷ []) 1 12 0 ∷ []))
    ∷ []

abbrev pub sizes_below_zero : List Example
sizes_below_zero =
    first_skipped 1 (Array (Long None)) (0x03 ∷ 0x01 ∷ 0x02 ∷ []) (Err Negative)
    -- a kept one is like any other fault
    ∷ all_kept 1 (Array (Long None) ∷ Int None ∷ []) (0x03 ∷ 0x01 ∷ 0x02 ∷ []) (Err Bad)
    -- what comes later is not looked at; but rows are no more than bytes
    ∷ first_skipped 2 (Array (Long None)) (0x03 ∷ 0x01 ∷ []) (Err Negative)
    ∷ first_skipped 3 (Array (Long None)) (0x03 ∷ 0x01 ∷ []) (Err Bad)
    -- no block has a count of -2 ^ 63, though a size below 0 follows; with a count of -(2 ^ 63 - 1) that size is told
    ∷ first_skipped 1 (Array (Long None)) (least ++ 0x01 ∷ 0x02 ∷ []) (Err Bad)
    ∷ first_skipped 1 (Array (Long None)) (0xfd ∷ replicate 8 0xff ++ 0x01 ∷ 0x01 ∷ 0x02 ∷ []) (Err Negative)
    -- in an array of arrays, after an empty one, and beneath a union
    ∷ first_skipped 1 (Array (Array (Long None))) (0x02 ∷ 0x03 ∷ 0x01 ∷ []) (Err Negative)
    ∷ first_skipped 1 (Array (Array (Long None))) (0x04 ∷ 0x00 ∷ 0x03 ∷ 0x01 ∷ []) (Err Negative)
    ∷ first_skipped 1 (optional (Array (Long None))) (0x02 ∷ 0x03 ∷ 0x01 ∷ []) (Err Negative)
    -- a string's size below 0 is like any other fault
    ∷ first_skipped 1 (String None) (0x01 ∷ 0x02 ∷ []) (Err Bad)
    ∷ []

-- counts and sizes that no bytes are after
abbrev pub false_counts : List Example
false_counts =
    all_kept 1 (Array (Long None) ∷ []) largest (Err Bad)
    ∷ first_skipped 1 (Array (Long None)) largest (Err Bad)
    ∷ first_skipped 1 (Array (Long None)) (0x03 ∷ largest ++ 0x00 ∷ 0x02 ∷ []) (Err Bad)
    ∷ all_kept 1 (String None ∷ []) largest (Err Bad)
    ∷ all_kept 1 (Array (optional (record_of (Int None ∷ []))) ∷ []) (largest ++ 0x00 ∷ []) (Err Bad)
    ∷ []
