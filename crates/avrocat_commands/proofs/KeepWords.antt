-- The fields to keep, by whether a number is given.
use Rattle.std.proofs.Common.{◌≡◌, ℕ, List, [], ◌∷◌, length, Some, None, true, false, refl, subst, arith}
use Rattle.std.specs.Bool.{◌==◌}
use Rattle.std.proofs.lemmas.Bool.Decides.{nat_tests}
use Rattle.avrocat_commands.specs.Ndjson.{keep_of}

pub keep_none : (items numbers : List ℕ) → items ≡ numbers → true ≡ (length items == 0) → keep_of numbers ≡ None
keep_none [] numbers e t = subst (λ z. keep_of z ≡ None) e refl
keep_none (n ∷ ns) numbers e t = absurd (grind (arith, nat_tests, t))

pub keep_some : (items numbers : List ℕ) → items ≡ numbers → false ≡ (length items == 0) → keep_of numbers ≡ Some numbers
keep_some [] numbers e t = absurd (grind (arith, nat_tests, t))
keep_some (n ∷ ns) numbers e t = subst (λ z. keep_of z ≡ Some z) e refl
