-- Which reading function a logical type asks for.
use Rattle.std.proofs.Common.{◌≡◌, ℕ, List, Some, None, refl}
use Rattle.avro_schema.specs.declared.schema.BytesLogical.TheVariants as bytes_logical
use Rattle.avro_schema.specs.declared.schema.FixedLogical.TheVariants as fixed_logical
use Rattle.avro_reference.specs.Prefix.{bytes_at, sized_at}
use Rattle.avro_reference.specs.Read.{binary_at, decimal_at, bytes_logical_at, fixed_at}

pub bytes_binary : (bytes : List ℕ) → bytes_logical_at None bytes ≡ binary_at bytes
unfolding bytes_logical_at
bytes_binary bytes = refl

pub bytes_decimal : (precision scale : ℕ) (bytes : List ℕ) → bytes_logical_at (Some (bytes_logical.Decimal precision scale)) bytes ≡ decimal_at sized_at bytes
unfolding bytes_logical_at
bytes_decimal precision scale bytes = refl

pub fixed_decimal : (size precision scale : ℕ) (bytes : List ℕ) → fixed_at size (Some (fixed_logical.Decimal precision scale)) bytes ≡ decimal_at (bytes_at size) bytes
unfolding fixed_at
fixed_decimal size precision scale bytes = refl

-- a duration has 12 bytes, whatever size is asked for
pub fixed_duration : (size : ℕ) (bytes : List ℕ) → fixed_at size (Some fixed_logical.Duration) bytes ≡ fixed_at 12 (Some fixed_logical.Duration) bytes
unfolding fixed_at
fixed_duration size bytes = refl
