-- Numbers as they are taken, byte by byte.
use Rattle.std.proofs.Common.{◌≡◌, ℕ, ◌+◌, ◌*◌, ◌%◌, ◌^◌, ◌<◌, ◌≤◌, ℤ, List, [], ◌∷◌, ◌++◌, length, refl, sym, ◌∙◌, ap, subst, arith}
use Rattle.std.proofs.lemmas.List.{append-nil}
use Rattle.avro_schema.specs.Number.{Number, PassesNumber, zigzag}
use Rattle.avro_schema.proofs.Groups as groups
use Rattle.avro_container.specs.Forms.{AllHigh, number}

-- these bytes lead on, and are worth so much
pub record Underway (taken : List ℕ) (value index : ℕ) : Type 0 where
  pub begun : groups.Begun taken [] value index

pub underway_nothing : Underway [] 0 0
underway_nothing = record { begun = groups.begun_nothing [] }

high_too : (bs : List ℕ) → groups.AllHigh bs → AllHigh bs
high_too [] h = tt
high_too (b ∷ bs) h = (h.0, h.1, high_too bs h.2)

module _ (taken : List ℕ) (value index : ℕ) (u : Underway taken value index) where
  same : taken ≡ u.begun.passed
  same = u.begun.joined ∙ append-nil u.begun.passed

  pub has_begun : index < 10 → number.begun taken
  has_begun l = (subst AllHigh (sym same) (high_too u.begun.passed u.begun.high), omega (arith, ap length same, u.begun.count, l))

  module _ (b : ℕ) (within : index < 10) where
    next : groups.Begun (taken ++ b ∷ []) (b ∷ []) value index
    next = record { passed = u.begun.passed; joined = ap (λ (z : List ℕ). z ++ b ∷ []) same; high = u.begun.high; count = u.begun.count; value_is = u.begun.value_is }

    pub sum_fits : (index ≡ 9 → b ≤ 1) → value + (b % 128 * 2 ^ (7 * index)) % 2 ^ 64 < 2 ^ 64
    sum_fits low = groups.sum_fits _ _ _ _ next b [] refl within low

    pub leads_on : 128 ≤ b → b < 256 → (index ≡ 9 → b ≤ 1) → Underway (taken ++ b ∷ []) (value + (b % 128 * 2 ^ (7 * index)) % 2 ^ 64) (index + 1)
    leads_on l h low = record { begun = groups.begun_next _ _ _ _ next b [] refl within l h low }

    pub ends : b < 128 → (index ≡ 9 → b ≤ 1) → (v : ℤ) → v ≡ zigzag (value + (b % 128 * 2 ^ (7 * index)) % 2 ^ 64) → Number (taken ++ b ∷ []) v
    ends l low v is =
        let p : PassesNumber (taken ++ b ∷ []) [] v = groups.ends _ _ _ _ next b [] refl within l low v is in
        subst (λ z. Number z v) (sym (p.2 ∙ append-nil p.0)) p.1

    pub no_tenth : index ≡ 9 → 1 < b → number.wrong (taken ++ b ∷ [])
    no_tenth nine big = record { prefix = u.begun.passed; last = b; joined = ap (λ (z : List ℕ). z ++ b ∷ []) same; high = high_too u.begun.passed u.begun.high; nine = u.begun.count ∙ nine; large = big }

pub ruleset numbers = (underway_nothing, has_begun)
