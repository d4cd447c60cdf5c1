-- What a prefix of bytes encodes, and the bytes that follow it. None: no prefix encodes any.
use Rattle.std.specs.Prelude.{ℕ, zero, suc, ◌^◌, ℤ, pos, negsuc, Bool, false, List, [], ◌∷◌, length, take, drop, Option, Some, None, nat_lt, ◌==◌, if◌then◌else◌}
use Rattle.avro_schema.specs.Number.{unsigned, zigzag}
use Rattle.avro_schema.specs.AndThen.{◌>>=◌}

-- a value of A that a prefix encodes, and the bytes that follow it
abbrev pub Reader : Type 0 → Type 0
Reader A = List ℕ → Option (A × List ℕ)

-- at most `most` groups of seven bits: the top bit is set on every byte but the last
unfoldable pub groups_at : ℕ → Reader (List ℕ)
groups_at zero bytes = None
groups_at (suc most) [] = None
groups_at (suc most) (b ∷ bytes) =
    if nat_lt b 128 then Some (b ∷ [], bytes) else (if nat_lt b 256 then (groups_at most bytes >>= λ g. Some (b ∷ g.0, g.1)) else None)

-- a number (Avro 1.11, "Primitive Types": int and long)
unfoldable pub number_at : Reader ℤ
number_at bytes = do
  g ← groups_at 10 bytes
  if nat_lt (unsigned g.0) (2 ^ 64) then Some (zigzag (unsigned g.0), g.1) else None

-- any n bytes
unfoldable pub bytes_at : ℕ → Reader (List ℕ)
bytes_at n bytes = if nat_lt (length bytes) n then None else Some (take n bytes, drop n bytes)

unfoldable pub counted_at : ℤ → Reader (List ℕ)
counted_at (pos n) bytes = bytes_at n bytes
counted_at (negsuc n) bytes = None

-- a number, and as many bytes (Avro 1.11, "Primitive Types": bytes and string)
unfoldable pub sized_at : Reader (List ℕ)
sized_at bytes = do
  n ← number_at bytes
  counted_at n.0 n.1

-- whether a number is the count n, and whether it is an index below n
abbrev pub is_count : ℤ → ℕ → Bool
is_count (pos k) n = k == n
is_count (negsuc k) n = false

abbrev pub is_index : ℤ → ℕ → Bool
is_index (pos k) n = nat_lt k n
is_index (negsuc k) n = false
