-- A read of a piece.
use Rattle.std.proofs.Common.{◌≡◌, ℕ, ◌+◌, List, ◌++◌, take, drop, length, arith}
use Rattle.std.proofs.lemmas.Grind.{common_steps}
use Rattle.std.proofs.lemmas.List.{take-append-drop}
use Rattle.std.proofs.Math.Seq.{take-append_seam}

-- what was put at the start of a buffer is its prefix
pub take-prefix : (prefix rest : List ℕ) (n : ℕ) → length prefix ≡ n → take n (prefix ++ rest) ≡ prefix
take-prefix prefix rest n e = grind (arith, common_steps, take-append_seam prefix rest)

-- the bytes from an index on are the next n, and those from n further on
pub drop-split : (xs : List ℕ) (at n : ℕ) → drop at xs ≡ take n (drop at xs) ++ drop (at + n) xs
drop-split xs at n = grind (arith, common_steps, take-append-drop n (drop at xs))
