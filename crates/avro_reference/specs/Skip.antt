-- Skipping a value from left to right (Avro 1.11, "Binary Encoding"): what was skipped, and the bytes that
-- follow it, or the first fault.
use Rattle.std.specs.Prelude.{ℕ, zero, suc, ◌-◌, ◌^◌, ℤ, pos, negsuc, nat_abs, List, length, drop, Option, Some, None, Result, Ok, Err, nat_lt, if◌then◌else◌}
use Rattle.avro_schema.specs.declared.schema.Schema.{Schema, Null, Boolean, Int, Long, Float, Double, Bytes, String, Record, Enum, Array', Map', Union', Fixed, Row_of-Schema, end_of-Schema, more_of-Schema}
use Rattle.avro_schema.specs.declared.schema.Record.{Record as TheRecord, Record', Row_of-AvroField, end_of-AvroField, more_of-AvroField}
use Rattle.avro_schema.specs.Skips.{Passed, nothing, seen_only, both, fixed_size}
use Rattle.avro_reference.specs.Prefix.{number_at, is_count, is_index}
use Rattle.avro_schema.specs.Encodes.{is_null}

-- Negative: a block of an array states a size below 0. Bad: any other fault.
pub data Fault : Type 0 where
  Bad : Fault
  Negative : Fault

infixl 10 ◌>>=◌
abbrev pub ◌>>=◌ : {A B : Type 0} → Result A Fault → (A → Result B Fault) → Result B Fault
(Ok x) >>= f = f x
(Err e) >>= f = Err e

-- a value of A that a prefix encodes, and the bytes that follow it, or the first fault from the left
abbrev pub Parser : Type 0 → Type 0
Parser A = List ℕ → Result (A × List ℕ) Fault

-- what has no fault of its own
unfoldable pub or_bad : {A : Type 0} → Option A → Result A Fault
or_bad None = Err Bad
or_bad (Some x) = Ok x

-- ---- flat kinds

-- a number, and how many bytes it has
unfoldable pub measured_at : Parser (ℤ × ℕ)
measured_at bytes = do
  n ← or_bad (number_at bytes)
  Ok ((n.0, length bytes - length n.1), n.1)

-- what is after n bytes
unfoldable pub jump_at : ℕ → List ℕ → Result (List ℕ) Fault
jump_at n bytes = if nat_lt (length bytes) n then Err Bad else Ok (drop n bytes)

unfoldable pub jump_counted : ℤ → List ℕ → Result (List ℕ) Fault
jump_counted (pos n) bytes = jump_at n bytes
jump_counted (negsuc n) bytes = Err Bad

-- n bytes, of which `seen` are looked at
unfoldable pub skip_raw : ℕ → ℕ → Parser Passed
skip_raw n seen bytes = do
  rest ← jump_at n bytes
  Ok (seen_only seen, rest)

unfoldable pub skip_number : Parser Passed
skip_number bytes = do
  n ← measured_at bytes
  Ok (seen_only n.0.1, n.1)

unfoldable pub skip_sized : Parser Passed
skip_sized bytes = do
  n ← measured_at bytes
  rest ← jump_counted n.0.0 n.1
  Ok (seen_only n.0.1, rest)

-- ---- arrays (Avro 1.11, "Arrays")

-- n items: what they pass comes to what was passed before
unfoldable pub skip_items : Parser Passed → ℕ → Passed → Parser Passed
skip_items f zero old bytes = Ok (old, bytes)
skip_items f (suc n) old bytes = do
  p ← f bytes
  skip_items f n (both old p.0) p.1

-- items after their size in bytes
unfoldable pub skip_stated : ℤ → Passed → Parser Passed
skip_stated (pos n) old bytes = do
  rest ← jump_at n bytes
  Ok (both old (record { seen = 0; hidden = n }), rest)
skip_stated (negsuc n) old bytes = Err Negative

-- the items of a block after its count; where this is below 0, after their size in bytes too
unfoldable pub skip_block_items : Parser Passed → ℤ → Passed → Parser Passed
skip_block_items f (pos n) old bytes = skip_items f n old bytes
skip_block_items f (negsuc n) old bytes =
    if nat_lt (suc n) (2 ^ 63) then (do
      size ← measured_at bytes
      skip_stated size.0.0 (both old (seen_only size.0.1)) size.1) else Err Bad

-- blocks, and then the number 0; no more blocks than `fuel`
unfoldable pub skip_blocks : Parser Passed → ℕ → Passed → Parser Passed
skip_blocks f zero old bytes = Err Bad
skip_blocks f (suc fuel) old bytes = do
  count ← measured_at bytes
  if is_count count.0.0 0 then Ok (both old (seen_only count.0.1), count.1) else (do
    p ← skip_block_items f count.0.0 (both old (seen_only count.0.1)) count.1
    skip_blocks f fuel p.0 p.1)

-- each block has a byte
unfoldable pub skip_array : Parser Passed → Parser Passed
skip_array f bytes = skip_blocks f (suc (length bytes)) nothing bytes

-- ---- every kind (Avro 1.11, "Records" and "Unions")

abbrev mutual
  pub skip : Schema → Parser Passed
  skip Null bytes = Err Bad
  skip Boolean bytes = skip_raw 1 1 bytes
  skip (Int logical) bytes = skip_number bytes
  skip (Long logical) bytes = skip_number bytes
  skip Float bytes = skip_raw 4 0 bytes
  skip Double bytes = skip_raw 8 0 bytes
  skip (Bytes logical) bytes = skip_sized bytes
  skip (String logical) bytes = skip_sized bytes
  skip (Record r) bytes = skip_record r nothing bytes
  skip (Enum e) bytes = skip_number bytes
  skip (Array' shape item) bytes = skip_array (skip_item item) bytes
  skip (Map' shape value) bytes = Err Bad
  skip (Union' shape members) bytes = (measured_at bytes >>= λ n. if is_index n.0.0 2 then (skip_member members (nat_abs n.0.0) n.1 >>= λ p. Ok (both (seen_only n.0.1) p.0, p.1)) else Err Bad)
  skip (Fixed f) bytes = skip_raw (fixed_size f.size f.logical) 0 bytes

  pub skip_record : TheRecord → Passed → Parser Passed
  skip_record (Record' name namespace doc shape fields) old bytes = skip_fields fields old bytes

  pub skip_item : {m : _} → Row_of-Schema m → Parser Passed
  skip_item end_of-Schema bytes = Err Bad
  skip_item (more_of-Schema s rest) bytes = skip s bytes

  -- the member at index k, where null has no bytes
  pub skip_member : {m : _} → Row_of-Schema m → ℕ → Parser Passed
  skip_member end_of-Schema k bytes = Err Bad
  skip_member (more_of-Schema s rest) zero bytes = if is_null s then Ok (nothing, bytes) else skip s bytes
  skip_member (more_of-Schema s rest) (suc k) bytes = skip_member rest k bytes

  -- the fields in order: what they pass comes to what was passed before
  pub skip_fields : {m : _} → Row_of-AvroField m → Passed → Parser Passed
  skip_fields end_of-AvroField old bytes = Ok (old, bytes)
  skip_fields (more_of-AvroField name doc s rest) old bytes = (skip s bytes >>= λ p. skip_fields rest (both old p.0) p.1)
