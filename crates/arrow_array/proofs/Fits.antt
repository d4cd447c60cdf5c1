-- The slots of parts that fit together are counted from index 0 on.
use Rattle.std.proofs.Common.{arith, ℕ, ◌-◌, ◌/◌, Bool, List, length, Option, None, ℤ}
use Rattle.arrow_core.specs.declared.physical.PrimitiveType.{PrimitiveType}
use Rattle.arrow_core.specs.declared.slot.Slot.{Slot}
use Rattle.arrow_core.specs.declared.types.DataType.{DataType}
use Rattle.arrow_array.specs.Bits.{Packed}
use Rattle.arrow_array.specs.Parts.{BooleanFits, PrimitiveFits, Utf8Fits, BinaryFits, FixedSizeBinaryFits, byte_width}
use Rattle.arrow_array.specs.Slots.{null_at, boolean_at, native_at, utf8_at, binary_at, fixed_at}
use Rattle.arrow_array.proofs.Windows.{Window}

pub nulls : (n : ℕ) → Window null_at None 0 n n
nulls n = record { within = omega arith; validity_fits = tt }

pub booleans : {data_type : DataType} {v : Option Packed} (xs : List Bool) → BooleanFits data_type (length xs) v → Window (boolean_at xs) v 0 (length xs) (length xs)
booleans xs h = record { within = omega arith; validity_fits = h.validity_fits }

pub natives : {X : Type 0} {p : PrimitiveType} {data_type : DataType} {v : Option Packed} (native : X → Slot) (xs : List X) → PrimitiveFits p data_type (length xs) v → Window (native_at native xs) v 0 (length xs) (length xs)
natives native xs h = record { within = omega arith; validity_fits = h.validity_fits }

pub texts : {wanted given : DataType} {offsets : List ℤ} {bytes : List ℕ} {v : Option Packed} → Utf8Fits wanted given offsets bytes v → Window (utf8_at offsets bytes) v 0 (length offsets - 1) (length offsets)
texts h = record { within = omega arith; validity_fits = h.validity_fits }

pub binary : {wanted given : DataType} {offsets : List ℤ} {n : ℕ} {v : Option Packed} (bytes : List ℕ) → BinaryFits wanted given offsets n v → Window (binary_at offsets bytes) v 0 (length offsets - 1) (length offsets)
binary bytes h = record { within = omega arith; validity_fits = h.validity_fits }

pub fixed : {data_type : DataType} {n : ℕ} {v : Option Packed} (bytes : List ℕ) → FixedSizeBinaryFits data_type n v → Window (fixed_at (byte_width data_type) bytes) v 0 (n / byte_width data_type) (n / byte_width data_type)
fixed bytes h = record { within = omega arith; validity_fits = h.validity_fits }
