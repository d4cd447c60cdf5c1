-- What a call skipped, or read into a buffer, is what reading a JSON text (RFC 8259, section 2) reads.
use Rattle.std.specs.Prelude.{◌≡◌, ℕ, List, Result, Ok, Err}
use Rattle.json_tree.specs.Reading.{Outcome, found}
use Rattle.json_tree.specs.Gives.{Fails}
use Rattle.json_tree.specs.declared.value.JsonFault.{JsonFault}

-- something was found, whatever it is, and what follows it is left; or the fault is why nothing was
abbrev pub Skips : {X A : Type 0} → Result X JsonFault → List ℕ → Outcome A → Type 0
Skips {A = A} (Ok x) rest outcome = (value : A) × (outcome ≡ found value rest)
Skips (Err fault) rest outcome = Fails fault outcome

-- the text was found, and what follows it is left; or the fault is why it wasn't, or memory ran out
abbrev pub Fills : Result Unit JsonFault → List ℕ → List ℕ → Outcome (List ℕ) → Type 0
Fills (Ok _) text rest outcome = outcome ≡ found text rest
Fills (Err fault) text rest outcome = Fails fault outcome
