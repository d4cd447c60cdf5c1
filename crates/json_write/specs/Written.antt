-- What a JSON array of lent items writes.
use Rattle.std.specs.Prelude.{◌≡◌, ℕ, ◌⊎◌, List, Option, Result, codes, ◌++◌}
use Rattle.std.specs.Io.KnownBytes.{Appends}
use Rattle.arrow_core.specs.declared.error.Error.{Error}
use Rattle.arrow_core.specs.declared.error.Error.TheVariants.{WriteFault}
use Rattle.arrow_base.specs.Outside.{AppendsPrefix, RoseOrFull}
use Rattle.json_text.specs.JsonText.{array, joined}
use Rattle.lending.specs.Lending.{Shows, ShowsAll, ShowsThenErr}

module _ {S : Type 0} (step : S → Result (Unit {0}) Error → S → Type 0) (shown : S → Option (List ℕ)) where
  -- the array of all items that came was written
  abbrev pub WritesArray : S → Option (List ℕ) → Option (List ℕ) → Type 0
  WritesArray before old new = (items : List (List ℕ)) × ShowsAll step shown before items × Appends old new (array items)

  -- a prefix of the opening bracket and items that came was written; or all items came, and a prefix of their array was written
  abbrev pub WritesPart : S → Option (List ℕ) → Option (List ℕ) → Type 0
  WritesPart before old new =
      ((items : List (List ℕ)) × (after : S) × Shows step shown before items after × AppendsPrefix old new (codes "[" ++ joined items))
      ⊎ ((items : List (List ℕ)) × ShowsAll step shown before items × AppendsPrefix old new (array items))

  -- the sink failed, and took a part of the array; or the items' own error came, and the opening bracket and the items before it were written
  abbrev pub StopsArray : S → Option (List ℕ) → Option (List ℕ) → ℕ → ℕ → Error → Type 0
  StopsArray before old new faults_before faults_after error =
      ((error ≡ WriteFault) × RoseOrFull faults_before faults_after × WritesPart before old new)
      ⊎ ((items : List (List ℕ)) × ShowsThenErr step shown before items error × Appends old new (codes "[" ++ joined items))
