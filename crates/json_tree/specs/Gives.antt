-- What a call gave is what reading a JSON text (RFC 8259, section 2) gives, unless memory ran out. `parse` is told without it;
-- contracts of what reads the parts of a text, here and in crates above, cite it.
use Rattle.std.specs.Prelude.{◌≡◌, ℕ, List, Result, Ok, Err}
use Rattle.json_tree.specs.Reading.{Outcome, found, wrong, deep}
use Rattle.json_tree.specs.declared.value.JsonFault.{JsonFault}
use Rattle.json_tree.specs.declared.value.JsonFault.TheVariants.{Text, Depth, Memory}

abbrev pub Fails : {A : Type 0} → JsonFault → Outcome A → Type 0
Fails Text o = o ≡ wrong
Fails Depth o = o ≡ deep
Fails Memory o = Unit {0}

abbrev pub Gives : {X A : Type 0} → (X → A) → Result X JsonFault → List ℕ → Outcome A → Type 0
Gives view (Ok x) r o = o ≡ found (view x) r
Gives view (Err e) r o = Fails e o

-- the same of a call that only moves on, and never runs out of memory
abbrev pub Moves : {X : Type 0} → (List ℕ → Outcome (List ℕ)) → Result X JsonFault → List ℕ → List ℕ → Type 0
Moves f (Ok x) old new = (s : List ℕ) × (f old ≡ found s new)
Moves f (Err e) old new = (e ≡ Text) × (f old ≡ wrong)
