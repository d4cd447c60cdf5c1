-- The zones of timestamps in columns of Avro schemas are offsets: they are 00:00, or none.
use Rattle.std.proofs.Common.{◌≡◌, ◌∙◌, inl, inr, ℕ, zero, suc, Bool, true, List, [], ◌∷◌, All, Option, Some, None, refl, ap, arith}
use Rattle.std.specs.List.{list_all, AllZip}
use Rattle.std.specs.Prelude.{◌&&◌}
use Rattle.arrow_core.specs.declared.types.DataType.{DataType}
use Rattle.arrow_core.specs.declared.types.Field.{Field}
use Rattle.json_dates.specs.Times.{offset_of}
use Rattle.json_text.specs.Refusals.{has_offsets, is_offset}
use Rattle.json_text.proofs.Beneath.{list_offsets, large_list_offsets, struct_offsets}
use Rattle.avro_schema.specs.declared.schema.AvroField.{AvroField}
use Rattle.avro_schema.specs.declared.schema.Schema.{Schema, Null, Boolean, Int, Long, Float, Double, Bytes, String, Record, Enum, Array', Map', Union', Fixed, Row_of-Schema, end_of-Schema, more_of-Schema}
use Rattle.avro_schema.specs.declared.schema.Record.{Record as TheRecord, Record', Row_of-AvroField, end_of-AvroField, more_of-AvroField}
use Rattle.avro_schema.specs.declared.schema.IntLogical.{IntLogical}
use Rattle.avro_schema.specs.declared.schema.IntLogical.TheVariants as int_logical
use Rattle.avro_schema.specs.declared.schema.LongLogical.{LongLogical}
use Rattle.avro_schema.specs.declared.schema.LongLogical.TheVariants as long_logical
use Rattle.avro_schema.specs.declared.schema.BytesLogical.{BytesLogical}
use Rattle.avro_schema.specs.declared.schema.BytesLogical.TheVariants as bytes_logical
use Rattle.avro_schema.specs.declared.schema.FixedLogical.{FixedLogical}
use Rattle.avro_schema.specs.declared.schema.FixedLogical.TheVariants as fixed_logical
use Rattle.avro_schema.specs.Types.{int_type, utc, long_type, fixed_type, HasBytesType, HasType, HasMemberType, HasItemType, HasRecordType, HasFieldTypes, HasColumnType}

utc_is_offset : is_offset utc ≡ true
unfolding offset_of
utc_is_offset = refl

int_offsets : (logical : Option IntLogical) → has_offsets (int_type logical) ≡ true
int_offsets None = refl
int_offsets (Some int_logical.Date) = refl
int_offsets (Some int_logical.Time) = refl

long_offsets : (logical : Option LongLogical) → has_offsets (long_type logical) ≡ true
long_offsets None = refl
long_offsets (Some long_logical.Time) = refl
long_offsets (Some long_logical.TimestampMillis) = utc_is_offset
long_offsets (Some long_logical.TimestampMicros) = utc_is_offset
long_offsets (Some long_logical.TimestampNanos) = utc_is_offset
long_offsets (Some long_logical.LocalTimestampMillis) = refl
long_offsets (Some long_logical.LocalTimestampMicros) = refl
long_offsets (Some long_logical.LocalTimestampNanos) = refl

fixed_offsets : (size : ℕ) (logical : Option FixedLogical) → has_offsets (fixed_type size logical) ≡ true
fixed_offsets size None = refl
fixed_offsets size (Some (fixed_logical.Decimal precision scale)) = refl
fixed_offsets size (Some fixed_logical.Duration) = refl

bytes_offsets : (large : Bool) (logical : Option BytesLogical) (t : DataType) → HasBytesType large logical t → has_offsets t ≡ true
bytes_offsets large None t (inl e) = ap has_offsets e
bytes_offsets large None t (inr e) = ap has_offsets e.1
bytes_offsets large (Some (bytes_logical.Decimal precision scale)) t e = ap has_offsets e

both : (a b : Bool) → a ≡ true → b ≡ true → (a && b) ≡ true
both a b e d = rw (e, d) refl

mutual
  type_offsets : (large : Bool) (s : Schema) (t : DataType) → HasType large s t → has_offsets t ≡ true
  type_offsets large Null t e = ap has_offsets e
  type_offsets large Boolean t e = ap has_offsets e
  type_offsets large (Int logical) t e = ap has_offsets e ∙ int_offsets logical
  type_offsets large (Long logical) t e = ap has_offsets e ∙ long_offsets logical
  type_offsets large Float t e = ap has_offsets e
  type_offsets large Double t e = ap has_offsets e
  type_offsets large (Bytes logical) t e = bytes_offsets large logical t e
  type_offsets large (String logical) t (inl e) = ap has_offsets e
  type_offsets large (String logical) t (inr e) = ap has_offsets e.1
  type_offsets large (Record r) t h = ap has_offsets h.1 ∙ struct_offsets h.0 ∙ record_offsets large r h.0 h.2
  type_offsets large (Enum e) t h = ap has_offsets h
  type_offsets large (Array' shape item) t (f, inl e, h) = ap has_offsets e ∙ list_offsets f ∙ item_offsets large item f h
  type_offsets large (Array' shape item) t (f, inr e, h) = ap has_offsets e.1 ∙ large_list_offsets f ∙ item_offsets large item f h
  type_offsets large (Map' shape value) t h = absurd h
  type_offsets large (Union' shape members) t h = member_offsets large members t h
  type_offsets large (Fixed f) t h = ap has_offsets h ∙ fixed_offsets f.size f.logical

  record_offsets : (large : Bool) (r : TheRecord) (fs : List Field) → HasRecordType large r fs → list_all (λ (f : Field). has_offsets f.data_type) fs ≡ true
  record_offsets large (Record' name namespace doc shape fields) fs h = field_offsets large fields fs h

  item_offsets : {m : _} (large : Bool) (row : Row_of-Schema m) (f : Field) → HasItemType large row f → has_offsets f.data_type ≡ true
  item_offsets large end_of-Schema f h = absurd h
  item_offsets large (more_of-Schema s rest) f h = type_offsets large s f.data_type h.1

  member_offsets : {m : _} (large : Bool) (row : Row_of-Schema m) (t : DataType) → HasMemberType large row t → has_offsets t ≡ true
  member_offsets large (more_of-Schema s (more_of-Schema u end_of-Schema)) t (inl h) = type_offsets large u t h.1
  member_offsets large (more_of-Schema s (more_of-Schema u end_of-Schema)) t (inr h) = type_offsets large s t h.0
  member_offsets large _ t h = absurd h

  field_offsets : {m : _} (large : Bool) (row : Row_of-AvroField m) (fs : List Field) → HasFieldTypes large row fs → list_all (λ (f : Field). has_offsets f.data_type) fs ≡ true
  field_offsets large end_of-AvroField [] h = refl
  field_offsets large end_of-AvroField (f ∷ fs) h = absurd h
  field_offsets large (more_of-AvroField name doc s rest) [] h = absurd h
  field_offsets large (more_of-AvroField name doc s rest) (f ∷ fs) h = both (has_offsets f.data_type) _ (type_offsets large s f.data_type h.0.1) (field_offsets large rest fs h.1)

-- so of the columns of fields, small or large
pub columns_offsets : (large : Bool) (fs : List Field) (xs : List AvroField) → AllZip (λ f a. HasColumnType large a.schema f) fs xs → All (λ f. has_offsets f.data_type ≡ true) fs
columns_offsets large [] [] h k d lt = absurd (omega (arith, lt))
columns_offsets large [] (a ∷ xs) h k d lt = absurd h
columns_offsets large (f ∷ fs) [] h k d lt = absurd h
columns_offsets large (f ∷ fs) (a ∷ xs) h zero d lt = type_offsets large a.schema f.data_type h.0.1
columns_offsets large (f ∷ fs) (a ∷ xs) h (suc k) d lt = columns_offsets large fs xs h.1 k d (omega (arith, lt))
