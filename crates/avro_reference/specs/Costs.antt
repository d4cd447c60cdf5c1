-- What a call costs that passes bytes of a cursor: bytes shown, and calls made.
use Rattle.std.specs.Prelude.{ℕ, ◌+◌, ◌-◌, ◌*◌, ◌<◌, ◌≤◌, List, length}
use Rattle.avro_schema.specs.Number.{MovesForward}

-- how many bytes were passed
abbrev pub passed : List ℕ → List ℕ → ℕ
passed old new = length old - length new

-- From old to new bytes were passed alone, and two calls were made for each at most, and one besides.
pub record Moves {X : Type 0} (rest : X → List ℕ) (calls : X → ℕ) (old new : X) : Type 0 where
  pub forward : MovesForward (rest old) (rest new)
  pub few : calls new + 2 * length (rest new) ≤ calls old + 2 * length (rest old) + 1

-- From old to new so many bytes were shown at most, and two calls were made at most for each byte that
-- was passed and is not hidden.
pub record Costs {X : Type 0} (rest : X → List ℕ) (shown calls : X → ℕ) (old new : X) (seen hidden : ℕ) : Type 0 where
  pub few_shown : shown new ≤ shown old + seen
  pub few_calls : calls new + 2 * (length (rest new) + hidden) ≤ calls old + 2 * length (rest old)

-- the same of a kept value, whose every byte may be shown
abbrev pub CostsKept : {X : Type 0} → (X → List ℕ) → (X → ℕ) → (X → ℕ) → X → X → Type 0
CostsKept rest shown calls old new = Costs rest shown calls old new (passed (rest old) (rest new)) 0

-- From old to new a number was read: it has a byte at least, and each was shown by a call.
pub record CostsNumber {X : Type 0} (rest : X → List ℕ) (shown calls : X → ℕ) (old new : X) : Type 0 where
  pub shorter : length (rest new) < length (rest old)
  pub few_shown : shown new + length (rest new) ≤ shown old + length (rest old)
  pub few_calls : calls new + length (rest new) ≤ calls old + length (rest old)
