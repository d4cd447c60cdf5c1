use Rattle.std.proofs.Common.{ℕ, ◌<◌, ◌≤◌, ◌⊎◌, inl, inr, List, length, arith}
use Rattle.std.specs.Prelude.{slice_index}
use Rattle.std.specs.Str.{IsAscii}
use Rattle.std.proofs.lemmas.Bool.{cases_lt}
use Rattle.std.proofs.lemmas.List.{get_or_past}
use Rattle.std.proofs.lemmas.Str.{IsUtf8-from_ascii}
use Rattle.arrow_core.proofs.utf8.each_is_ascii.Goals as goal

all_ascii : (bytes : List ℕ) (n : ℕ) → length bytes ≤ n → ((k : ℕ) → k < n → slice_index bytes k < 128) → IsAscii bytes
all_ascii bytes n le h k = from (cases_lt k n)
  where
    from : (k < n) ⊎ (n ≤ k) → slice_index bytes k < 128
    from (inl lt) = h k lt
    from (inr ge) = rw (get_or_past bytes k 0 (omega (arith, le, ge))) (omega arith)

pub returns : goal.returns
returns c =
    λ t. IsUtf8-from_ascii _ (all_ascii _ c.loop-i.i (omega (arith, c.loop-i-test.false)) c.loop-i.invariant.ascii)
