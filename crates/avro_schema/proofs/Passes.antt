-- What is encoded is skipped.
use Rattle.std.proofs.Common.{ℕ, zero, suc, ℤ, pos, negsuc, Option, Some, None, List, length, refl, ap, inl, inr}
use Rattle.avro_schema.specs.declared.schema.Schema.{Schema, Null, Boolean, Int, Long, Float, Double, Bytes, String, Record, Enum, Array', Map', Union', Fixed, Row_of-Schema, end_of-Schema, more_of-Schema}
use Rattle.avro_schema.specs.declared.schema.Record.{Record as TheRecord, Record', Row_of-AvroField, end_of-AvroField, more_of-AvroField}
use Rattle.avro_schema.specs.declared.schema.BytesLogical.{BytesLogical}
use Rattle.avro_schema.specs.declared.schema.BytesLogical.TheVariants as bytes_logical
use Rattle.avro_schema.specs.declared.schema.FixedLogical.{FixedLogical}
use Rattle.avro_schema.specs.declared.schema.FixedLogical.TheVariants as fixed_logical
use Rattle.avro_schema.specs.Parts.{Grammar, Sized, Raw, Many, BlockOf, Blocks}
use Rattle.avro_schema.specs.Parts as parts
use Rattle.avro_schema.specs.Encodes.{IsBooleanByte, EncodesBytes, EncodesFixed, Encodes, EncodesRecord, EncodesItem, EncodesMember, EncodesFields}
use Rattle.avro_schema.specs.Skips.{Passed, nothing, seen_only, both, SkipsSized, SkipsRaw, SkipsMany, SkipsBlockOf, SkipsBlocks, fixed_size, Skips, SkipsRecord, SkipsItem, SkipsMember, SkipsFields}
use Rattle.avro_schema.specs.Skips as skips

-- each prefix of P is a prefix of Q
abbrev pub Over : {A : Type 0} → Grammar A → Grammar Passed → Type 0
Over {A} P Q = (bytes : List ℕ) (v : A) → P bytes v → (p : Passed) × Q bytes p

sized_over : Over Sized SkipsSized
sized_over bytes v h =
    (seen_only (length h.prefix), record { prefix = h.prefix; back = h.back; joined = h.joined; value = (h.value, length h.prefix); first = (h.first, refl); second = (h.second.0, refl) })

many_over : {A : Type 0} (P : Grammar A) (Q : Grammar Passed) → Over P Q → (n : ℕ) → Over (Many P n) (SkipsMany Q n)
many_over P Q o zero = λ bytes v h. (nothing, (h.0, refl))
many_over {A} P Q o (suc n) = λ bytes v h.
    let one : (p : Passed) × Q h.prefix p = o h.prefix h.value h.first in
    let rest : (p : Passed) × SkipsMany Q n h.back p = many_over P Q o n h.back h.second.0 h.second.2 in
    (both one.0 rest.0, record { prefix = h.prefix; back = h.back; joined = h.joined; value = one.0; first = one.1; second = (rest.0, refl, rest.1) })

block_over : {A : Type 0} (P : Grammar A) (Q : Grammar Passed) → Over P Q → (c : ℤ) → Over (BlockOf P c) (SkipsBlockOf Q c)
block_over P Q o (pos zero) bytes v h = absurd h
block_over P Q o (pos (suc n)) bytes v h =
    let all : (p : Passed) × SkipsMany Q (suc n) bytes p = many_over P Q o (suc n) bytes v h.1 in (all.0, (h.0, all.1))
block_over P Q o (negsuc n) bytes v h = (
  record { seen = length h.1.prefix; hidden = length h.1.back },
  (h.0, record { prefix = h.1.prefix; back = h.1.back; joined = h.1.joined; value = (h.1.value, length h.1.prefix); first = (h.1.first, refl); second = (h.1.second.0, refl) }),
)

blocks_over : {A : Type 0} (P : Grammar A) (Q : Grammar Passed) → Over P Q → Over (Blocks P) (SkipsBlocks Q)
blocks_over P Q o bytes v (parts.last p) = (seen_only (length bytes), skips.last p)
blocks_over P Q o bytes v (parts.block f i r c xs ys n k m) =
    let here : (p : Passed) × SkipsBlockOf Q c i p = block_over P Q o c i xs k in
    let rest : (p : Passed) × SkipsBlocks Q r p = blocks_over P Q o r ys m in
    (both (seen_only (length f)) (both here.0 rest.0), skips.block f i r c here.0 rest.0 n here.1 rest.1)

boolean_over : Over IsBooleanByte (SkipsRaw 1 1)
boolean_over bytes v h = (seen_only 1, (ap length h, refl))

bytes_over : (logical : Option BytesLogical) → Over (EncodesBytes logical) SkipsSized
bytes_over None bytes v h = sized_over bytes h.value h.encoded
bytes_over (Some (bytes_logical.Decimal precision scale)) bytes v h = sized_over bytes h.value h.encoded

fixed_over : (size : ℕ) (logical : Option FixedLogical) → Over (EncodesFixed size logical) (SkipsRaw (fixed_size size logical) 0)
fixed_over size None bytes v h = (nothing, (h.encoded.0, refl))
fixed_over size (Some (fixed_logical.Decimal precision scale)) bytes v h = (nothing, (h.encoded.0, refl))
fixed_over size (Some fixed_logical.Duration) bytes v h = (nothing, (h.encoded.0, refl))

mutual
  pub encodes_over : (s : Schema) → Over (Encodes s) (Skips s)
  encodes_over Null bytes v h = absurd h
  encodes_over Boolean bytes v h = boolean_over bytes h.value h.encoded
  encodes_over (Int logical) bytes v h = (seen_only (length bytes), (h.value, h.encoded, refl))
  encodes_over (Long logical) bytes v h = (seen_only (length bytes), (h.value, h.encoded, refl))
  encodes_over Float bytes v h = absurd h
  encodes_over Double bytes v h = absurd h
  encodes_over (Bytes logical) bytes v h = bytes_over logical bytes v h
  encodes_over (String logical) bytes v h = sized_over bytes h.value h.encoded
  encodes_over (Record r) bytes v h = record_over r bytes h.value h.encoded
  encodes_over (Enum s) bytes v h = (seen_only (length bytes), (h.value, h.encoded, refl))
  encodes_over (Array' shape item) bytes v h = blocks_over (EncodesItem item) (SkipsItem item) (item_over item) bytes h.value h.encoded
  encodes_over (Map' shape value) bytes v h = absurd h
  encodes_over (Union' shape members) bytes v h =
      let here : (p : Passed) × SkipsMember members h.second.0 h.back p = member_over members h.second.0 h.back v h.second.3 in (
        both (seen_only (length h.prefix)) here.0,
        record { prefix = h.prefix; back = h.back; joined = h.joined; value = (h.value, length h.prefix); first = (h.first, refl); second = (h.second.0, h.second.1, h.second.2, here.0, refl, here.1) },
      )
  encodes_over (Fixed f) bytes v h = fixed_over f.size f.logical bytes v h

  record_over : (r : TheRecord) → Over (EncodesRecord r) (SkipsRecord r)
  record_over (Record' name namespace doc shape fields) bytes v h = fields_over fields bytes v h

  item_over : {m : _} (row : Row_of-Schema m) → Over (EncodesItem row) (SkipsItem row)
  item_over end_of-Schema bytes v h = absurd h
  item_over (more_of-Schema s rest) bytes v h = encodes_over s bytes v h

  member_over : {m : _} (row : Row_of-Schema m) (k : ℕ) → Over (EncodesMember row k) (SkipsMember row k)
  member_over end_of-Schema k bytes v h = absurd h
  member_over (more_of-Schema s rest) zero bytes v (inl h) = let here : (p : Passed) × Skips s bytes p = encodes_over s bytes v h in (here.0, inl here.1)
  member_over (more_of-Schema s rest) zero bytes v (inr h) = (nothing, inr (h.0, h.1, refl))
  member_over (more_of-Schema s rest) (suc k) bytes v h = member_over rest k bytes v h

  fields_over : {m : _} (row : Row_of-AvroField m) → Over (EncodesFields row) (SkipsFields row)
  fields_over end_of-AvroField bytes v h = (nothing, (h.0, refl))
  fields_over (more_of-AvroField name doc s rest) bytes v h =
      let here : (p : Passed) × Skips s h.prefix p = encodes_over s h.prefix h.value h.first in
      let more : (p : Passed) × SkipsFields rest h.back p = fields_over rest h.back h.second.0 h.second.2 in
      (both here.0 more.0, record { prefix = h.prefix; back = h.back; joined = h.joined; value = here.0; first = here.1; second = (more.0, refl, more.1) })
