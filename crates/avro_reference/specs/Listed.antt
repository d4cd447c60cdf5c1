-- The reading functions at arrays, unions and records, in terms of the lists of members and of fields
-- that code sees.
use Rattle.std.specs.Prelude.{◌≡◌, ℕ, zero, suc, nat_abs, List, [], ◌∷◌, Some, None, Ok, Err, option_and_then, if◌then◌else◌}
use Rattle.arrow_core.specs.declared.slot.Slot.{Slot}
use Rattle.arrow_core.specs.declared.slot.Slot.TheVariants as slot
use Rattle.avro_schema.specs.declared.schema.Schema.{Schema, Array, Union, Record}
use Rattle.avro_schema.specs.declared.schema.Record.{Record as TheRecord, out-Record}
use Rattle.avro_schema.specs.declared.schema.AvroField.{AvroField}
use Rattle.avro_schema.specs.Skips.{Passed, nothing, seen_only, both}
use Rattle.avro_reference.specs.Prefix.{Reader, number_at, is_index}
use Rattle.avro_schema.specs.Encodes.{is_null}
use Rattle.avro_reference.specs.Read.{push_one, array_at, read}
use Rattle.avro_reference.specs.Skip.{◌>>=◌, Parser, Bad, measured_at, skip_array, skip}

-- the member at index k, where null has no bytes
abbrev pub read_member_of : List Schema → ℕ → Reader Slot
read_member_of [] k bytes = None
read_member_of (s ∷ rest) zero bytes = if is_null s then Some (slot.Null, bytes) else read s bytes
read_member_of (s ∷ rest) (suc k) bytes = read_member_of rest k bytes

abbrev pub read_union_of : List Schema → Reader Slot
read_union_of members bytes =
    option_and_then (λ n. if is_index n.0 2 then read_member_of members (nat_abs n.0) n.1 else None) (number_at bytes)

-- the fields in order, each at the end of the older ones
abbrev pub read_fields_of : List AvroField → List Slot → Reader (List Slot)
read_fields_of [] old bytes = Some (old, bytes)
read_fields_of (f ∷ rest) old bytes = option_and_then (λ x. read_fields_of rest x.0 x.1) (push_one old (read f.schema bytes))

abbrev pub read_record_of : List AvroField → Reader Slot
read_record_of fields bytes = option_and_then (λ xs. Some (slot.Struct xs.0, xs.1)) (read_fields_of fields [] bytes)

abbrev pub skip_member_of : List Schema → ℕ → Parser Passed
skip_member_of [] k bytes = Err Bad
skip_member_of (s ∷ rest) zero bytes = if is_null s then Ok (nothing, bytes) else skip s bytes
skip_member_of (s ∷ rest) (suc k) bytes = skip_member_of rest k bytes

abbrev pub skip_union_of : List Schema → Parser Passed
skip_union_of members bytes =
    (measured_at bytes >>= λ n. if is_index n.0.0 2 then (skip_member_of members (nat_abs n.0.0) n.1 >>= λ p. Ok (both (seen_only n.0.1) p.0, p.1)) else Err Bad)

abbrev pub skip_fields_of : List AvroField → Passed → Parser Passed
skip_fields_of [] old bytes = Ok (old, bytes)
skip_fields_of (f ∷ rest) old bytes = (skip f.schema bytes >>= λ p. skip_fields_of rest (both old p.0) p.1)

-- ---- what each function is at an array, a union and a record

pub record ReadComposites : Type 0 where
  pub array : (item : Schema) → read (Array item) ≡ array_at (read item)
  pub union : (members : List Schema) → read (Union members) ≡ read_union_of members
  pub fields : (r : TheRecord) → read (Record r) ≡ read_record_of (out-Record r).fields

pub record SkipComposites : Type 0 where
  pub array : (item : Schema) → skip (Array item) ≡ skip_array (skip item)
  pub union : (members : List Schema) → skip (Union members) ≡ skip_union_of members
  pub fields : (r : TheRecord) → skip (Record r) ≡ skip_fields_of (out-Record r).fields nothing
