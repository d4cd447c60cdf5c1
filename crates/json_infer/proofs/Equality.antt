-- The tests of equality are right.
use Rattle.std.proofs.Common.{◌≡◌, ℕ, List, true, ◌↔◌, rules}
use Rattle.std.specs.Str.{bytes_eq}
use Rattle.arrow_core.specs.declared.types.DataType.{DataType}
use Rattle.arrow_core.proofs.EqualTypes.{types_equal}
use Rattle.json_infer.specs.Parts.{same}

pub exact : (t u : DataType) → (same t u ≡ true) ↔ (t ≡ u)
unfolding same
exact = types_equal

pub exact_name : (m n : List ℕ) → (bytes_eq m n ≡ true) ↔ (m ≡ n)
exact_name m n = search rules
