-- Which parts fit together in an array, and what an array's buffers are at all times.
use Rattle.std.specs.Prelude.{◌≡◌, ℕ, ◌-◌, ◌/◌, ◌%◌, ◌<◌, ◌⊎◌, Bool, true, false, ℤ, List, length, take, drop, Option, Some, None}
use Rattle.arrow_core.specs.declared.error.Error.{Error}
use Rattle.arrow_core.specs.declared.error.Error.TheVariants.{InvalidArgumentError, OutOfMemory}
use Rattle.arrow_core.specs.declared.error.Reason.TheVariants.{ArrayParts}
use Rattle.arrow_core.specs.declared.physical.PhysicalType.{PhysicalType}
use Rattle.arrow_core.specs.declared.physical.PhysicalType.TheVariants as physical
use Rattle.arrow_core.specs.declared.physical.PrimitiveType.{PrimitiveType}
use Rattle.arrow_core.specs.declared.types.DataType.{DataType, Extension'}
use Rattle.arrow_core.specs.declared.types.DataType.TheVariants as types
use Rattle.arrow_core.specs.Layouts.{physical_type}
use Rattle.arrow_array.specs.Bits.{Packed}
use Rattle.arrow_array.specs.Offsets.{IsOffsets, AreUtf8}

-- a validity that is given has the array's length
abbrev pub IsValidityOf : Option Packed → ℕ → Type 0
IsValidityOf None n = Unit {0}
IsValidityOf (Some validity) n = length validity.booleans ≡ n

-- a validity that is given is cut to n values from index offset on
abbrev pub IsCutOf : Option Packed → ℕ → ℕ → Option Packed → Type 0
IsCutOf None offset n None = Unit {0}
IsCutOf (Some validity) offset n (Some cut) = cut.booleans ≡ take n (drop offset validity.booleans)
IsCutOf _ offset n _ = ⊥

-- the error of parts that don't fit, or out of memory
abbrev pub IsRefusalOf : Type 0 → Error → Type 0
IsRefusalOf fits e = (e ≡ OutOfMemory) ⊎ ((e ≡ InvalidArgumentError ArrayParts) × (fits → ⊥))

abbrev pub is_extension : DataType → Bool
is_extension (Extension' name shape inner metadata) = true
is_extension _ = false

-- a type whose values lie in memory so, which isn't an extension
abbrev pub IsOfKind : PhysicalType → DataType → Type 0
IsOfKind kind data_type = (physical_type data_type ≡ kind) × (is_extension data_type ≡ false)

-- the same of a primitive type
abbrev pub IsPlain : PrimitiveType → DataType → Type 0
IsPlain primitive = IsOfKind (physical.Primitive primitive)

-- the type of strings with offsets of 32 bits, or of 64
abbrev pub utf8_type : Bool → DataType
utf8_type false = types.Utf8
utf8_type true = types.LargeUtf8

-- the type of bytes with offsets of 32 bits, or of 64
abbrev pub binary_type : Bool → DataType
binary_type false = types.Binary
binary_type true = types.LargeBinary

-- how many bytes each slot has; 0 for a type whose slots aren't fixed-size binary values
abbrev pub byte_width : DataType → ℕ
byte_width (types.FixedSizeBinary width) = width
byte_width _ = 0

-- parts of an array of n booleans
pub record BooleanFits (data_type : DataType) (n : ℕ) (validity : Option Packed) : Type 0 where
  pub kind : data_type ≡ types.Boolean
  pub validity_fits : IsValidityOf validity n

-- parts of an array of n plain values
pub record PrimitiveFits (primitive : PrimitiveType) (data_type : DataType) (n : ℕ) (validity : Option Packed) : Type 0 where
  pub kind : IsPlain primitive data_type
  pub validity_fits : IsValidityOf validity n

-- parts of an array of strings
pub record Utf8Fits (wanted data_type : DataType) (offsets : List ℤ) (bytes : List ℕ) (validity : Option Packed) : Type 0 where
  pub kind : data_type ≡ wanted
  pub offsets_fit : IsOffsets offsets (length bytes)
  pub utf8_fit : AreUtf8 offsets bytes
  pub validity_fits : IsValidityOf validity (length offsets - 1)

-- parts of an array of binary values, in n bytes
pub record BinaryFits (wanted data_type : DataType) (offsets : List ℤ) (n : ℕ) (validity : Option Packed) : Type 0 where
  pub kind : data_type ≡ wanted
  pub offsets_fit : IsOffsets offsets n
  pub validity_fits : IsValidityOf validity (length offsets - 1)

-- parts of an array of fixed-size binary values, at least 1, in n bytes
pub record FixedSizeBinaryFits (data_type : DataType) (n : ℕ) (validity : Option Packed) : Type 0 where
  pub kind : 0 < byte_width data_type
  pub whole_slots : n % byte_width data_type ≡ 0
  pub validity_fits : IsValidityOf validity (n / byte_width data_type)
