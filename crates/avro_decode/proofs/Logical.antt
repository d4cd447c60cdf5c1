-- What the logical types of bytes and of fixed types have the decoder read, by the kind of the builder.
use Rattle.std.proofs.Common.{◌≡◌, ◌∙◌, inl, inr, ap, subst, ℕ, List, Option, None, Some}
use Rattle.arrow_core.specs.declared.physical.PhysicalType.{PhysicalType}
use Rattle.arrow_core.specs.declared.physical.PhysicalType.TheVariants as physical
use Rattle.arrow_core.specs.declared.physical.PrimitiveType.TheVariants as primitive
use Rattle.avro_schema.specs.declared.schema.BytesLogical.{BytesLogical}
use Rattle.avro_schema.specs.declared.schema.BytesLogical.TheVariants as bytes_logical
use Rattle.avro_schema.specs.declared.schema.FixedLogical.{FixedLogical}
use Rattle.avro_schema.specs.declared.schema.FixedLogical.TheVariants as fixed_logical
use Rattle.avro_schema.specs.declared.schema.Schema.{Schema, Bytes}
use Rattle.avro_reference.specs.Prefix.{bytes_at, sized_at}
use Rattle.avro_reference.specs.Read.{decimal_at, bytes_logical_at, fixed_at, read}
use Rattle.avro_flat.proofs.Logical.{bytes_decimal, fixed_decimal, fixed_duration}
use Rattle.avro_decode.specs.Growth.{HasFlatKind, fixed_kind}

decimal_bytes : (logical : Option BytesLogical) → HasFlatKind (Bytes logical) (physical.Primitive primitive.Int128) → (bytes : List ℕ) → bytes_logical_at logical bytes ≡ decimal_at sized_at bytes
decimal_bytes None (inl e) bytes = absurd cc
decimal_bytes None (inr e) bytes = absurd cc
decimal_bytes (Some (bytes_logical.Decimal precision scale)) e bytes = bytes_decimal precision scale bytes

pub decimal_read : (s : Schema) (logical : Option BytesLogical) (kind : PhysicalType) → s ≡ Bytes logical → kind ≡ physical.Primitive primitive.Int128 → HasFlatKind s kind → (bytes : List ℕ) → read s bytes ≡ decimal_at sized_at bytes
decimal_read s logical kind e k h bytes = ap (λ (t : Schema). read t bytes) e ∙ decimal_bytes logical (subst (HasFlatKind (Bytes logical)) k (subst (λ (t : Schema). HasFlatKind t kind) e h)) bytes

pub fixed_decimal_read : (size : ℕ) (logical : Option FixedLogical) (kind : PhysicalType) → kind ≡ physical.Primitive primitive.Int128 → kind ≡ fixed_kind logical → (bytes : List ℕ) → fixed_at size logical bytes ≡ decimal_at (bytes_at size) bytes
fixed_decimal_read size None kind k h bytes = absurd cc
fixed_decimal_read size (Some (fixed_logical.Decimal precision scale)) kind k h bytes = fixed_decimal size precision scale bytes
fixed_decimal_read size (Some fixed_logical.Duration) kind k h bytes = absurd cc

pub duration_read : (size : ℕ) (logical : Option FixedLogical) (kind : PhysicalType) → kind ≡ physical.Primitive primitive.MonthDayNano → kind ≡ fixed_kind logical → (bytes : List ℕ) → fixed_at size logical bytes ≡ fixed_at 12 (Some fixed_logical.Duration) bytes
duration_read size None kind k h bytes = absurd cc
duration_read size (Some (fixed_logical.Decimal precision scale)) kind k h bytes = absurd cc
duration_read size (Some fixed_logical.Duration) kind k h bytes = fixed_duration size bytes
