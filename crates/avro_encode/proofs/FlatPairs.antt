-- Schemas that pair with a type, and how its values lie in memory.
use Rattle.std.proofs.Common.{◌≡◌, ◌∙◌, ℕ, ◌^◌, ◌-◌, w32, w64, ℤ, pos, negsuc, true, inl, inr, Option, Some, None, List, [], ◌∷◌, refl, sym, ap, subst, arith}
use Rattle.std.specs.Prelude.{◌*ℤ◌, ◌≤ℤ◌, FitsSigned}
use Rattle.std.proofs.lemmas.Int.{ints}
use Rattle.arrow_core.specs.declared.physical.PhysicalType.{PhysicalType}
use Rattle.arrow_core.specs.declared.physical.PhysicalType.TheVariants as physical
use Rattle.arrow_core.specs.declared.physical.PrimitiveType.TheVariants as primitive
use Rattle.arrow_core.specs.declared.slot.Slot.{Slot}
use Rattle.arrow_core.specs.declared.slot.Slot.TheVariants as slot
use Rattle.arrow_core.specs.declared.types.DataType.{DataType}
use Rattle.arrow_core.specs.Layouts.{physical_type}
use Rattle.avro_schema.specs.declared.schema.BytesLogical.{BytesLogical}
use Rattle.avro_schema.specs.declared.schema.BytesLogical.TheVariants as bytes_logical
use Rattle.avro_schema.specs.declared.schema.FixedLogical.{FixedLogical}
use Rattle.avro_schema.specs.declared.schema.FixedLogical.TheVariants as fixed_logical
use Rattle.avro_schema.specs.declared.schema.Schema.{Schema, Null, Boolean, Int, Long, Float, Double, Bytes, String, Record, Enum, Array', Map', Union', Fixed}
use Rattle.avro_schema.specs.Encodes.{IsInt}
use Rattle.avro_schema.specs.Types.{IsString}
use Rattle.avro_encode.specs.Flat.{FitsFlat, HasNoParts, IsFlatKind, flat_plain}
use Rattle.avro_encode.specs.Pairs.{IsCounted, Pairs, PairsBytes, PairsDuration, PairsFixed}
use Rattle.avro_encode.specs.PairTypes.{PairsBytesType, PairsFixedType, PairsType}
use Rattle.avro_encode.specs.Plain.{bytes_of, integer_of, milliseconds, parts_of, plain, plain_fixed}
use Rattle.avro_encode.proofs.Milliseconds.{duration_parts, whole}
use Rattle.avro_encode.proofs.PlainLaw.{parts_struct}

-- what is to be known of a slot with nothing beneath it
pub record IsFlatPair (s : Schema) (k : PhysicalType) (x : Slot) : Type 0 where
  pub kind : IsFlatKind k
  pub same : flat_plain k x ≡ plain s x
  pub fits : FitsFlat k x

made : (s : Schema) (k j : PhysicalType) (x : Slot) → k ≡ j → IsFlatPair s j x → IsFlatPair s k x
made s k j x e p = subst (λ z. IsFlatPair s z x) (sym e) p

counted_string : (x : Slot) (text : List ℕ) → x ≡ slot.String text → IsCounted text → IsCounted (bytes_of x)
counted_string x text e l = subst (λ z. IsCounted (bytes_of z)) (sym e) l

counted_binary : (x : Slot) (bytes : List ℕ) → x ≡ slot.Binary bytes → IsCounted bytes → IsCounted (bytes_of x)
counted_binary x bytes e l = subst (λ z. IsCounted (bytes_of z)) (sym e) l

bytes_pair : (logical : Option BytesLogical) (t : DataType) (x : Slot) → PairsBytesType logical t → PairsBytes logical x → IsFlatPair (Bytes logical) (physical_type t) x
bytes_pair None t x (inl e) p = made _ _ physical.Binary x (ap physical_type e) (record { kind = tt; same = refl; fits = counted_binary x p.0 p.1 p.2 })
bytes_pair None t x (inr e) p = made _ _ physical.LargeBinary x (ap physical_type e.1) (record { kind = tt; same = refl; fits = counted_binary x p.0 p.1 p.2 })
bytes_pair (Some (bytes_logical.Decimal precision scale)) t x h p = made _ _ (physical.Primitive primitive.Int128) x (ap physical_type h.2) (record { kind = tt; same = refl; fits = tt })

string_pair : (logical : _) (t : DataType) (x : Slot) → IsString true t → Pairs (String logical) x → IsFlatPair (String logical) (physical_type t) x
string_pair logical t x (inl e) p = made _ _ physical.Utf8 x (ap physical_type e) (record { kind = tt; same = refl; fits = counted_string x p.0 p.1 p.3 })
string_pair logical t x (inr e) p = made _ _ physical.LargeUtf8 x (ap physical_type e.1) (record { kind = tt; same = refl; fits = counted_string x p.0 p.1 p.3 })

fixed_pair : (f : _) (size : ℕ) (logical : Option FixedLogical) (t : DataType) (x : Slot) → plain (Fixed f) x ≡ plain_fixed logical x → PairsFixedType size logical t → PairsFixed size logical x → IsFlatPair (Fixed f) (physical_type t) x
fixed_pair f size None t x e h p = made _ _ physical.FixedSizeBinary x (ap physical_type h) (record { kind = tt; same = sym e; fits = tt })
fixed_pair f size (Some fixed_logical.Duration) t x e h p = made _ _ (physical.Primitive primitive.MonthDayNano) x (ap physical_type h) (record { kind = tt; same = sym e; fits = p })
fixed_pair f size (Some (fixed_logical.Decimal precision scale)) t x e h p = absurd h

pub flat_pair : (s : Schema) (t : DataType) (x : Slot) → HasNoParts s → PairsType s t → Pairs s x → IsFlatPair s (physical_type t) x
flat_pair Boolean t x n h p = made _ _ physical.Boolean x (ap physical_type h) (record { kind = tt; same = refl; fits = tt })
flat_pair (Int logical) t x n h p = made _ _ (physical.Primitive primitive.Int32) x h (record { kind = tt; same = refl; fits = tt })
flat_pair (Long logical) t x n h p = made _ _ (physical.Primitive primitive.Int64) x h (record { kind = tt; same = refl; fits = tt })
flat_pair (Bytes logical) t x n h p = bytes_pair logical t x h p
flat_pair (String logical) t x n h p = string_pair logical t x h p
flat_pair (Fixed f) t x n h p = fixed_pair f f.size f.logical t x refl h p
flat_pair (Record r) t x n h p = absurd n
flat_pair (Array' shape item) t x n h p = absurd n
flat_pair (Union' shape members) t x n h p = absurd n
flat_pair Null t x n h p = absurd h
flat_pair Float t x n h p = absurd h
flat_pair Double t x n h p = absurd h
flat_pair (Enum e) t x n h p = absurd h
flat_pair (Map' shape value) t x n h p = absurd h

-- ---- durations

abbrev first : List Slot → ℤ
first (a ∷ xs) = integer_of a
first _ = pos 0

abbrev second : List Slot → ℤ
second (a ∷ b ∷ xs) = integer_of b
second _ = pos 0

abbrev third : List Slot → ℤ
third (a ∷ b ∷ c ∷ xs) = integer_of c
third _ = pos 0

int_fits : (v : ℤ) → IsInt v → FitsSigned w32 v
int_fits (pos n) h = record { sfits = omega (arith, ints, h.1) }
int_fits (negsuc n) h = record { sfits = omega (arith, ints, h.0) }

long_fits : (v : ℤ) → negsuc (2 ^ 63 - 1) ≤ℤ v → v ≤ℤ pos (2 ^ 63 - 1) → FitsSigned w64 v
long_fits (pos n) l m = record { sfits = omega (arith, ints, m) }
long_fits (negsuc n) l m = record { sfits = omega (arith, ints, l) }

-- the numbers of an interval that a duration can hold
pub record IsDuration (months days ns : ℤ) : Type 0 where
  pub months_fit : FitsSigned w32 months
  pub days_fit : FitsSigned w32 days
  pub nanoseconds_fit : FitsSigned w64 ns
  pub whole : IsInt (milliseconds ns)

pub duration_given : (x : Slot) (months days ns : ℤ) → PairsDuration x → x ≡ slot.Struct (slot.Integer months ∷ slot.Integer days ∷ slot.Integer ns ∷ []) → IsDuration months days ns
duration_given x months days ns p e =
    let same : duration_parts p.0 p.1 p.2 ≡ slot.Integer months ∷ slot.Integer days ∷ slot.Integer ns ∷ [] =
    sym (parts_struct (duration_parts p.0 p.1 p.2)) ∙ ap parts_of (sym p.3 ∙ e) ∙ parts_struct (slot.Integer months ∷ slot.Integer days ∷ slot.Integer ns ∷ []) in
    let is : p.2 *ℤ pos 1000000 ≡ ns = ap third same in
    record {
      months_fit = subst (FitsSigned w32) (ap first same) (int_fits p.0 p.4);
      days_fit = subst (FitsSigned w32) (ap second same) (int_fits p.1 p.5);
      nanoseconds_fit = subst (FitsSigned w64) is (long_fits (p.2 *ℤ pos 1000000) (omega (arith, ints, p.6.0)) (omega (arith, ints, p.6.1)));
      whole = subst IsInt (sym (whole p.2) ∙ ap milliseconds is) p.6;
    }
