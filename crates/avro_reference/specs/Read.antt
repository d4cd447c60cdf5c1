-- Reading a value from left to right (Avro 1.11, "Binary Encoding"): its slot, and the bytes that follow it.
-- None: no prefix of the bytes encodes one.
use Rattle.std.specs.Prelude.{ℕ, zero, suc, ◌-◌, ◌^◌, ℤ, pos, negsuc, nat_abs, int_le, Bool, true, false, ◌&&◌, List, [], ◌∷◌, ◌++◌, length, Option, Some, None, nat_lt, nat_le, ◌==◌, if◌then◌else◌}
use Rattle.std.specs.Str.{is_utf8}
use Rattle.arrow_core.specs.declared.slot.Slot.{Slot}
use Rattle.arrow_core.specs.declared.slot.Slot.TheVariants as slot
use Rattle.avro_schema.specs.declared.schema.Schema.{Schema, Null, Boolean, Int, Long, Float, Double, Bytes, String, Record, Enum, Array', Map', Union', Fixed, Row_of-Schema, end_of-Schema, more_of-Schema}
use Rattle.avro_schema.specs.declared.schema.Record.{Record as TheRecord, Record', Row_of-AvroField, end_of-AvroField, more_of-AvroField}
use Rattle.avro_schema.specs.declared.schema.BytesLogical.{BytesLogical}
use Rattle.avro_schema.specs.declared.schema.BytesLogical.TheVariants as bytes_logical
use Rattle.avro_schema.specs.declared.schema.FixedLogical.{FixedLogical}
use Rattle.avro_schema.specs.declared.schema.FixedLogical.TheVariants as fixed_logical
use Rattle.avro_schema.specs.Encodes.{is_null, twos_complement, duration, symbol_at}
use Rattle.avro_schema.specs.AndThen.{◌>>=◌}
use Rattle.avro_reference.specs.Prefix.{Reader, number_at, bytes_at, sized_at, is_count, is_index}

-- ---- flat kinds (Avro 1.11, "Primitive Types", "Logical Types", "Enums" and "Fixed")

-- one byte, 0 or 1
unfoldable pub boolean_at : Reader Slot
boolean_at [] = None
boolean_at (b ∷ bytes) = if b == 0 then Some (slot.Boolean false, bytes) else (if b == 1 then Some (slot.Boolean true, bytes) else None)

-- whether a number has 32 bits
abbrev pub is_int : ℤ → Bool
is_int v = int_le (negsuc 2147483647) v && int_le v (pos 2147483647)

unfoldable pub int_at : Reader Slot
int_at bytes = do
  n ← number_at bytes
  if is_int n.0 then Some (slot.Integer n.0, n.1) else None

unfoldable pub long_at : Reader Slot
long_at bytes = do
  n ← number_at bytes
  Some (slot.Integer n.0, n.1)

-- a string is UTF-8
unfoldable pub string_at : Reader Slot
string_at bytes = do
  t ← sized_at bytes
  if is_utf8 t.0 then Some (slot.String t.0, t.1) else None

unfoldable pub binary_at : Reader Slot
binary_at bytes = do
  t ← sized_at bytes
  Some (slot.Binary t.0, t.1)

-- a decimal has at most 16 bytes, of those that f reads
unfoldable pub decimal_at : Reader (List ℕ) → Reader Slot
decimal_at f bytes = do
  t ← f bytes
  if nat_le (length t.0) 16 then Some (slot.Integer (twos_complement t.0), t.1) else None

unfoldable pub bytes_logical_at : Option BytesLogical → Reader Slot
bytes_logical_at None bytes = binary_at bytes
bytes_logical_at (Some (bytes_logical.Decimal precision scale)) bytes = decimal_at sized_at bytes

unfoldable pub fixed_at : ℕ → Option FixedLogical → Reader Slot
fixed_at size None bytes = (bytes_at size bytes >>= λ t. Some (slot.Binary t.0, t.1))
fixed_at size (Some (fixed_logical.Decimal precision scale)) bytes = decimal_at (bytes_at size) bytes
fixed_at size (Some fixed_logical.Duration) bytes = (bytes_at 12 bytes >>= λ t. Some (duration t.0, t.1))

-- a symbol by its index
unfoldable pub symbol_of : List (List ℕ) → Reader Slot
symbol_of symbols bytes = do
  n ← number_at bytes
  if is_index n.0 (length symbols) then Some (slot.String (symbol_at symbols n.0), n.1) else None

-- ---- arrays (Avro 1.11, "Arrays")

-- one more slot at the end
unfoldable pub push_one : List Slot → Option (Slot × List ℕ) → Option (List Slot × List ℕ)
push_one old read = do
  x ← read
  Some (old ++ x.0 ∷ [], x.1)

-- n items, each at the end of the older ones
unfoldable pub items : Reader Slot → ℕ → List Slot → Reader (List Slot)
items f zero old bytes = Some (old, bytes)
items f (suc n) old bytes = do
  x ← push_one old (f bytes)
  items f n x.0 x.1

-- the items of a block after its count; where this is below 0, after their size in bytes too
unfoldable pub block_items : Reader Slot → ℤ → List Slot → Reader (List Slot)
block_items f (pos n) old bytes = items f n old bytes
block_items f (negsuc n) old bytes =
    if nat_lt (suc n) (2 ^ 63) then (do
      size ← number_at bytes
      xs ← items f (suc n) old size.1
      if is_count size.0 (length size.1 - length xs.1) then Some xs else None) else None

-- blocks, and then the number 0; no more blocks than `fuel`
unfoldable pub blocks : Reader Slot → ℕ → List Slot → Reader (List Slot)
blocks f zero old bytes = None
blocks f (suc fuel) old bytes = do
  count ← number_at bytes
  if is_count count.0 0 then Some (old, count.1) else (do
    xs ← block_items f count.0 old count.1
    blocks f fuel xs.0 xs.1)

-- each block has a byte
unfoldable pub array_at : Reader Slot → Reader Slot
array_at f bytes = do
  xs ← blocks f (suc (length bytes)) [] bytes
  Some (slot.List xs.0, xs.1)

-- ---- every kind (Avro 1.11, "Records" and "Unions")

abbrev mutual
  pub read : Schema → Reader Slot
  read Null bytes = None
  read Boolean bytes = boolean_at bytes
  read (Int logical) bytes = int_at bytes
  read (Long logical) bytes = long_at bytes
  read Float bytes = None
  read Double bytes = None
  read (Bytes logical) bytes = bytes_logical_at logical bytes
  read (String logical) bytes = string_at bytes
  read (Record r) bytes = (read_record r [] bytes >>= λ xs. Some (slot.Struct xs.0, xs.1))
  read (Enum e) bytes = symbol_of e.symbols bytes
  read (Array' shape item) bytes = array_at (read_item item) bytes
  read (Map' shape value) bytes = None
  read (Union' shape members) bytes = (number_at bytes >>= λ n. if is_index n.0 2 then read_member members (nat_abs n.0) n.1 else None)
  read (Fixed f) bytes = fixed_at f.size f.logical bytes

  pub read_record : TheRecord → List Slot → Reader (List Slot)
  read_record (Record' name namespace doc shape fields) old bytes = read_fields fields old bytes

  pub read_item : {m : _} → Row_of-Schema m → Reader Slot
  read_item end_of-Schema bytes = None
  read_item (more_of-Schema s rest) bytes = read s bytes

  -- the member at index k, where null has no bytes
  pub read_member : {m : _} → Row_of-Schema m → ℕ → Reader Slot
  read_member end_of-Schema k bytes = None
  read_member (more_of-Schema s rest) zero bytes = if is_null s then Some (slot.Null, bytes) else read s bytes
  read_member (more_of-Schema s rest) (suc k) bytes = read_member rest k bytes

  -- the fields in order, each at the end of the older ones
  pub read_fields : {m : _} → Row_of-AvroField m → List Slot → Reader (List Slot)
  read_fields end_of-AvroField old bytes = Some (old, bytes)
  read_fields (more_of-AvroField name doc s rest) old bytes = (push_one old (read s bytes) >>= λ x. read_fields rest x.0 x.1)
