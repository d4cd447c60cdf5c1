-- The shortest encoding of a number (Avro 1.11, "Binary Encoding", "Primitive Types": int and long).
use Rattle.std.specs.Prelude.{ℕ, zero, suc, ◌+◌, ◌*◌, ◌/◌, ◌%◌, nat_lt, cond, ℤ, pos, negsuc, List, [], ◌∷◌}

-- the unsigned number that zigzag makes of v
abbrev pub zigzagged : ℤ → ℕ
zigzagged (pos n) = 2 * n
zigzagged (negsuc n) = 2 * n + 1

-- groups of seven bits, the low ones first, at most `more` of them after the first
unfoldable pub groups : ℕ → ℕ → List ℕ
groups zero u = u % 128 ∷ []
groups (suc more) u = cond (nat_lt u 128) (u ∷ []) ((128 + u % 128) ∷ groups more (u / 128))

abbrev pub shortest : ℤ → List ℕ
shortest v = groups 9 (zigzagged v)
