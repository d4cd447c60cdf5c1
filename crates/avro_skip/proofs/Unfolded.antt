-- What a skipping function is, as an equation that a check rewrites by.
use Rattle.std.proofs.Common.{◌≡◌, ℕ, List, length, drop, Ok, Err, refl}
use Rattle.std.specs.Prelude.{nat_lt, if◌then◌else◌}
use Rattle.avro_reference.specs.Skip.{Bad, jump_at}

pub jump_is : (n : ℕ) (bytes : List ℕ) → jump_at n bytes ≡ (if nat_lt (length bytes) n then Err Bad else Ok (drop n bytes))
unfolding jump_at
jump_is n bytes = refl
