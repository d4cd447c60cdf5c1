-- The bytes of a decimal (Avro 1.11, "Decimal"): big-endian two's complement. The standard leaves open how many
-- bytes there are.
use Rattle.std.specs.Prelude.{ℕ, zero, suc, ◌-◌, ◌/◌, ◌%◌, ◌^◌, nat_lt, cond, ℤ, pos, negsuc, List, [], ◌∷◌, ◌++◌}

-- so many bytes of a number, the high byte first
unfoldable pub high_first : ℕ → ℕ → List ℕ
high_first zero n = []
high_first (suc count) n = high_first count (n / 256) ++ n % 256 ∷ []

-- the least even number of bytes, from 2, that leaves the top bit of n clear
abbrev pub even_size : ℕ → ℕ
even_size n =
    cond (nat_lt n (2 ^ 15)) 2 (cond (nat_lt n (2 ^ 31)) 4 (cond (nat_lt n (2 ^ 47)) 6 (cond (nat_lt n (2 ^ 63)) 8
    (cond (nat_lt n (2 ^ 79)) 10 (cond (nat_lt n (2 ^ 95)) 12 (cond (nat_lt n (2 ^ 111)) 14 16))))))

-- none for 0; the least even number of bytes for a positive number; 16 bytes for a negative one
abbrev pub decimal : ℤ → List ℕ
decimal (pos zero) = []
decimal (pos (suc n)) = high_first (even_size (suc n)) (suc n)
decimal (negsuc n) = high_first 16 (2 ^ 128 - suc n)
