-- Offsets into a buffer, and the part between two of them (Arrow columnar format, "Variable-size Binary Layout").
use Rattle.std.specs.Prelude.{ℕ, ◌+◌, ◌-◌, ◌<◌, ◌≤◌, ℤ, pos, negsuc, List, [], length, take, drop, slice_index_or}
use Rattle.std.specs.Str.{IsUtf8, IsCharBoundary}

-- offset k of a list of offsets
abbrev pub offset_at : List ℤ → ℕ → ℤ
offset_at offsets k = slice_index_or offsets k (pos 0)

-- the items from a up to, and without, b
abbrev pub between : {X : Type 0} → ℤ → ℤ → List X → List X
between (pos a) (pos b) xs = take (b - a) (drop a xs)
between _ _ xs = []

-- the items between offset k and the next
abbrev pub part : {X : Type 0} → List ℤ → List X → ℕ → List X
part offsets xs k = between (offset_at offsets k) (offset_at offsets (k + 1)) xs

-- an offset lies within n items
abbrev pub IsWithin : ℤ → ℕ → Type 0
IsWithin (pos a) n = a ≤ n
IsWithin (negsuc a) n = ⊥

-- an offset isn't above the next
abbrev pub IsNotAbove : ℤ → ℤ → Type 0
IsNotAbove (pos a) (pos b) = a ≤ b
IsNotAbove _ _ = ⊥

-- offsets into n items: at least one, each from 0 to n, and none falls
pub record IsOffsets (offsets : List ℤ) (n : ℕ) : Type 0 where
  pub filled : 0 < length offsets
  pub within : (k : ℕ) → k < length offsets → IsWithin (offset_at offsets k) n
  pub rising : (k : ℕ) → k + 1 < length offsets → IsNotAbove (offset_at offsets k) (offset_at offsets (k + 1))

-- offsets into some number of items: at least one, none negative, and none falls
abbrev pub AreRising : List ℤ → Type 0
AreRising offsets = (n : ℕ) × IsOffsets offsets n

-- the bytes between each two neighbouring offsets are UTF-8
abbrev pub AreUtf8 : List ℤ → List ℕ → Type 0
AreUtf8 offsets bytes = (k : ℕ) → k + 1 < length offsets → IsUtf8 (part offsets bytes k)

-- in UTF-8 bytes of which the first has index start, an offset stands between two characters, at the first, or after the last
abbrev pub IsBoundary : List ℕ → ℕ → ℤ → Type 0
IsBoundary bytes start (pos a) = IsCharBoundary bytes (a - start)
IsBoundary bytes start (negsuc a) = ⊥

-- an offset isn't before an index
abbrev pub IsFrom : ℕ → ℤ → Type 0
IsFrom start (pos a) = start ≤ a
IsFrom start (negsuc a) = ⊥
