-- Numbers in a list of numbers of 64 bits.
use Rattle.std.proofs.Common.{◌≡◌, ℕ, suc, ◌<◌, List, [], ◌∷◌, false, get_or, Fits, w64, refl, sym, subst, arith}
use Rattle.std.proofs.lemmas.Bool.Decides.{nat_tests}
use Rattle.arrow_base.specs.Outside.{is_among}

-- a number beyond 64 bits is in none
pub is_among-beyond : (list : List ℕ) (number : ℕ) → ((i : ℕ) → Fits w64 (get_or list i 0)) → (number < 18446744073709551616 → ⊥) → is_among list number ≡ false
is_among-beyond [] number fits beyond = refl
is_among-beyond (x ∷ xs) number fits beyond =
    let first : x < 18446744073709551616 = omega (arith, fits 0) in
    let rest : is_among xs number ≡ false = is_among-beyond xs number (λ i. fits (suc i)) beyond in
    grind (arith, nat_tests, first, rest, beyond)

pub none-among : (list shown : List ℕ) (number : ℕ) → ((i : ℕ) → Fits w64 (get_or shown i 0)) → shown ≡ list → (number < 18446744073709551616 → ⊥) → false ≡ is_among list number
none-among list shown number fits same beyond = subst (λ (l : List ℕ). false ≡ is_among l number) same (sym (is_among-beyond shown number fits beyond))
