-- Laws of the canonical encoding, each of which a function of this crate has for its contract.
use Rattle.std.specs.Prelude.{◌≡◌, ℕ, ◌*◌, ◌-◌, ◌^◌, ◌<◌, ◌≤◌}
use Rattle.arrow_core.specs.declared.slot.Slot.{Slot}
use Rattle.avro_schema.specs.declared.schema.Schema.{Schema}
use Rattle.avro_schema.specs.Encodes.{Encodes}
use Rattle.avro_encode.specs.Decimals.{even_size}
use Rattle.avro_encode.specs.Plain.{plain}
use Rattle.avro_encode.specs.Pairs.{Pairs}

-- the canonical encoding encodes the slot
abbrev pub PlainEncodes : Type 0
PlainEncodes = (s : Schema) (x : Slot) → Pairs s x → Encodes s (plain s x) x

-- equal bytes are equal slots
abbrev pub PlainTells : Type 0
PlainTells = (s : Schema) (x y : Slot) → Pairs s x → Pairs s y → plain s x ≡ plain s y → x ≡ y

-- in so many bytes a number leaves the top bit clear
abbrev pub LeavesTopBitClear : ℕ → ℕ → Type 0
LeavesTopBitClear n size = n < 2 ^ (8 * size - 1)

-- the least even number of bytes, from 2, in which a number leaves the top bit clear
pub record IsLeastEvenSize (n size : ℕ) : Type 0 where
  pub half : ℕ
  pub even : size ≡ 2 * half
  pub filled : 0 < half
  pub clear : LeavesTopBitClear n size
  pub least : (other : ℕ) → 0 < other → LeavesTopBitClear n (2 * other) → size ≤ 2 * other

-- that is the size of each positive decimal
abbrev pub DecimalSizes : Type 0
DecimalSizes = (n : ℕ) → n < 2 ^ 127 → IsLeastEvenSize n (even_size n)
