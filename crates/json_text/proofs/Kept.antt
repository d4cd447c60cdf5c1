-- What stood in a buffer stays while text is appended.
use Rattle.std.proofs.Common.{◌≡◌, ◌≤◌, ℕ, List, length, take, sym, ap, ◌∙◌, arith}
use Rattle.std.specs.Io.{StartsWith}
use Rattle.std.proofs.lemmas.List.{length-take, take-take}

-- through two calls
pub starts_through : {a b : List ℕ} (c : List ℕ) → StartsWith b a → StartsWith c b → StartsWith c a
starts_through {a} {b} c first second =
    let short : length a ≤ length b = omega (arith, ap length first, length-take (length a) b) in
    sym (take-take (length a) (length b) c short) ∙ ap (take (length a)) second ∙ first
