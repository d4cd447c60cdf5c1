-- Numbers as Avro encodes them (Avro 1.11, "Binary Encoding", "Primitive Types": int and long). Where an
-- encoding is longer than it need be the standard is silent; here one of up to ten bytes is a number.
use Rattle.std.specs.Prelude.{◌≡◌, ℕ, ◌+◌, ◌*◌, ◌/◌, ◌%◌, ◌^◌, ◌<◌, ◌≤◌, ◌==◌, ℤ, pos, negsuc, List, [], ◌∷◌, ◌++◌, length, if◌then◌else◌}

-- the top bit is set on every byte but the last
abbrev pub AreGroups : List ℕ → Type 0
AreGroups [] = ⊥
AreGroups (b ∷ []) = b < 128
AreGroups (b ∷ c ∷ bs) = (128 ≤ b) × (b < 256) × AreGroups (c ∷ bs)

-- each byte has seven bits, the low ones first
abbrev pub unsigned : List ℕ → ℕ
unsigned [] = 0
unsigned (b ∷ bs) = b % 128 + 128 * unsigned bs

-- zigzag: u / 2 where u is even, else -(u + 1) / 2
abbrev pub zigzag : ℕ → ℤ
zigzag u = if (u % 2) == 0 then pos (u / 2) else negsuc (u / 2)

-- the bytes are a number, of the value v
pub record Number (bytes : List ℕ) (v : ℤ) : Type 0 where
  pub groups : AreGroups bytes
  pub short : length bytes ≤ 10
  pub fits : unsigned bytes < 2 ^ 64
  pub value : v ≡ zigzag (unsigned bytes)

-- a number of the value v is a prefix of old, and new is what follows it
abbrev pub PassesNumber : List ℕ → List ℕ → ℤ → Type 0
PassesNumber old new v = (prefix : List ℕ) × Number prefix v × (old ≡ prefix ++ new)

-- no prefix of the bytes is a number
abbrev pub NoNumber : List ℕ → Type 0
NoNumber bytes = (prefix back : List ℕ) (v : ℤ) → Number prefix v → bytes ≡ prefix ++ back → ⊥

-- new is what follows some prefix of old
abbrev pub MovesForward : List ℕ → List ℕ → Type 0
MovesForward old new = (prefix : List ℕ) × (old ≡ prefix ++ new)
