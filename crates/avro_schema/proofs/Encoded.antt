-- Under one schema one prefix of any bytes is encoded, as one slot.
use Rattle.std.proofs.Common.{◌≡◌, ℕ, zero, suc, ◌<◌, pos, true, false, Option, Some, None, List, ◌∷◌, ◌++◌, refl, sym, ◌∙◌, ap, subst, inl, inr}
use Rattle.std.specs.Str.{IsUtf8}
use Rattle.arrow_core.specs.declared.slot.Slot.{Slot}
use Rattle.arrow_core.specs.declared.slot.Slot.TheVariants as slot
use Rattle.avro_schema.specs.declared.schema.Schema.{Schema, Null, Boolean, Int, Long, Float, Double, Bytes, String, Record, Enum, Array', Map', Union', Fixed, Row_of-Schema, end_of-Schema, more_of-Schema}
use Rattle.avro_schema.specs.declared.schema.Record.{Record as TheRecord, Record', Row_of-AvroField, end_of-AvroField, more_of-AvroField}
use Rattle.avro_schema.specs.declared.schema.BytesLogical.{BytesLogical}
use Rattle.avro_schema.specs.declared.schema.BytesLogical.TheVariants as bytes_logical
use Rattle.avro_schema.specs.declared.schema.FixedLogical.{FixedLogical}
use Rattle.avro_schema.specs.declared.schema.FixedLogical.TheVariants as fixed_logical
use Rattle.avro_schema.specs.Number.{Number}
use Rattle.avro_schema.specs.Parts.{Raw, Sized, Blocks}
use Rattle.avro_schema.specs.Encodes.{Any, IsBooleanByte, IsInt, twos_complement, duration, IsShort, EncodesBytes, EncodesFixed, IsIndex, symbol_at, IsNull, Encodes, EncodesRecord, EncodesItem, EncodesMember, EncodesFields}
use Rattle.avro_schema.proofs.WholePrefixes.{Reads, number_reads, then_reads, meaning_reads, raw_reads, sized_reads, blocks_read}

boolean_reads : Reads IsBooleanByte
boolean_reads a b x y true true p q e = (p ∙ sym q, refl)
boolean_reads a b x y false false p q e = (p ∙ sym q, refl)
boolean_reads a b x y true false p q e =
    let f : 1 ∷ x ≡ 0 ∷ y = ap (λ z. z ++ x) (sym p) ∙ e ∙ ap (λ z. z ++ y) q in absurd cc
boolean_reads a b x y false true p q e =
    let f : 0 ∷ x ≡ 1 ∷ y = ap (λ z. z ++ x) (sym p) ∙ e ∙ ap (λ z. z ++ y) q in absurd cc

bytes_read : (logical : Option BytesLogical) → Reads (EncodesBytes logical)
bytes_read None = meaning_reads Sized Any slot.Binary sized_reads
bytes_read (Some (bytes_logical.Decimal precision scale)) = meaning_reads Sized IsShort (λ y. slot.Integer (twos_complement y)) sized_reads

fixed_reads : (size : ℕ) (logical : Option FixedLogical) → Reads (EncodesFixed size logical)
fixed_reads size None = meaning_reads (Raw size) Any slot.Binary (raw_reads size)
fixed_reads size (Some (fixed_logical.Decimal precision scale)) =
    meaning_reads (Raw size) IsShort (λ y. slot.Integer (twos_complement y)) (raw_reads size)
fixed_reads size (Some fixed_logical.Duration) = meaning_reads (Raw 12) Any duration (raw_reads 12)

pub null_encodes_nothing : (s : Schema) (bytes : List ℕ) (x : Slot) → IsNull s → Encodes s bytes x → ⊥
null_encodes_nothing Null bytes x n h = h
null_encodes_nothing _ bytes x n h = n

pub pos_is : {m n : ℕ} → pos m ≡ pos n → m ≡ n
pos_is e = cc

mutual
  pub encodes_reads : (s : Schema) → Reads (Encodes s)
  encodes_reads Null a b x y v w p q e = absurd p
  encodes_reads Boolean a b x y v w p q e = meaning_reads IsBooleanByte Any slot.Boolean boolean_reads a b x y v w p q e
  encodes_reads (Int logical) a b x y v w p q e = meaning_reads Number IsInt slot.Integer number_reads a b x y v w p q e
  encodes_reads (Long logical) a b x y v w p q e = meaning_reads Number Any slot.Integer number_reads a b x y v w p q e
  encodes_reads Float a b x y v w p q e = absurd p
  encodes_reads Double a b x y v w p q e = absurd p
  encodes_reads (Bytes logical) a b x y v w p q e = bytes_read logical a b x y v w p q e
  encodes_reads (String logical) a b x y v w p q e = meaning_reads Sized IsUtf8 slot.String sized_reads a b x y v w p q e
  encodes_reads (Record r) a b x y v w p q e = meaning_reads (EncodesRecord r) Any slot.Struct (record_reads r) a b x y v w p q e
  encodes_reads (Enum s) a b x y v w p q e =
      meaning_reads Number (IsIndex s.symbols) (λ v. slot.String (symbol_at s.symbols v)) number_reads a b x y v w p q e
  encodes_reads (Array' shape item) a b x y v w p q e =
      meaning_reads (Blocks (EncodesItem item)) Any slot.List (blocks_read (EncodesItem item) (item_reads item)) a b x y v w p q e
  encodes_reads (Map' shape value) a b x y v w p q e = absurd p
  encodes_reads (Union' shape members) a b x y v w p q e =
      then_reads Number (λ v back y. (k : ℕ) × (v ≡ pos k) × (k < 2) × EncodesMember members k back y) number_reads
      (λ n a b x y v w p q e.
      let same : p.0 ≡ q.0 = pos_is (sym p.1 ∙ q.1) in
      member_reads members q.0 a b x y v w (subst (λ k. EncodesMember members k a v) same p.3) q.3 e)
      a b x y v w p q e
  encodes_reads (Fixed f) a b x y v w p q e = fixed_reads f.size f.logical a b x y v w p q e

  record_reads : (r : TheRecord) → Reads (EncodesRecord r)
  record_reads (Record' name namespace doc shape fields) a b x y v w p q e = fields_read fields a b x y v w p q e

  item_reads : {m : _} (row : Row_of-Schema m) → Reads (EncodesItem row)
  item_reads end_of-Schema a b x y v w p q e = absurd p
  item_reads (more_of-Schema s rest) a b x y v w p q e = encodes_reads s a b x y v w p q e

  member_reads : {m : _} (row : Row_of-Schema m) (k : ℕ) → Reads (EncodesMember row k)
  member_reads end_of-Schema k a b x y v w p q e = absurd p
  member_reads (more_of-Schema s rest) zero a b x y v w (inl p) (inl q) e = encodes_reads s a b x y v w p q e
  member_reads (more_of-Schema s rest) zero a b x y v w (inl p) (inr q) e = absurd (null_encodes_nothing s a v q.0 p)
  member_reads (more_of-Schema s rest) zero a b x y v w (inr p) (inl q) e = absurd (null_encodes_nothing s b w p.0 q)
  member_reads (more_of-Schema s rest) zero a b x y v w (inr p) (inr q) e = (p.1 ∙ sym q.1, p.2 ∙ sym q.2)
  member_reads (more_of-Schema s rest) (suc k) a b x y v w p q e = member_reads rest k a b x y v w p q e

  fields_read : {m : _} (row : Row_of-AvroField m) → Reads (EncodesFields row)
  fields_read end_of-AvroField a b x y v w p q e = (p.0 ∙ sym q.0, p.1 ∙ sym q.1)
  fields_read (more_of-AvroField name doc s rest) a b x y v w p q e =
      then_reads (Encodes s) (λ x back ys. (more : List Slot) × (ys ≡ x ∷ more) × EncodesFields rest back more) (encodes_reads s)
      (λ z a b x y v w p q e.
      let same : (a ≡ b) × (p.0 ≡ q.0) = fields_read rest a b x y p.0 q.0 p.2 q.2 e in
      (same.0, p.1 ∙ ap (λ more. z ∷ more) same.1 ∙ sym q.1))
      a b x y v w p q e
