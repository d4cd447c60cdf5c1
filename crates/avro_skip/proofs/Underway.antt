-- From one call that skips to the next: what was passed so far, and what is left to pass.
use Rattle.std.proofs.Common.{◌≡◌, ℕ, List, Result, Ok, Err, sym, ap, ◌∙◌}
use Rattle.avro_schema.specs.Skips.{Passed, nothing, both}
use Rattle.avro_reference.specs.Skip.{Fault}
use Rattle.avro_reference.proofs.Parsers.{both_assoc, both-nothing}
use Rattle.avro_reference.specs.Costs.{Costs}
use Rattle.avro_skip.specs.Skipping.{PassesMore}
use Rattle.avro_skip.specs.declared.fault.SkipFault.{SkipFault}
use Rattle.avro_reference.proofs.Counting.{costs_none, costs_more}

-- a parsing that adds to what was passed before
abbrev pub Adds : Type 0
Adds = Passed → Result (Passed × List ℕ) Fault

-- what is left gives what the whole gives
abbrev pub Underway : {X : Type 0} → (X → List ℕ) → (X → ℕ) → (X → ℕ) → X → X → Adds → Adds → Type 0
Underway rest shown calls x y left whole = (p : Passed) × ((before : Passed) → left (both before p) ≡ whole before) × Costs rest shown calls x y p.seen p.hidden

pub more_same : {X Y : Type 0} (rest : X → List ℕ) (shown calls : X → ℕ) (x y : X) (r : Result Y SkipFault) (f g : Adds) → ((before : Passed) → g before ≡ f before) → PassesMore rest shown calls x y r f → PassesMore rest shown calls x y r g
more_same rest shown calls x y (Ok w) f g e h = (h.0, λ before. e before ∙ h.1 before, h.2)
more_same rest shown calls x y (Err k) f g e h = λ before. e before ∙ h before

module _ {X : Type 0} (rest : X → List ℕ) (shown calls : X → ℕ) where
  pub underway_begun : (x : X) (left whole : Adds) → ((before : Passed) → left before ≡ whole before) → Underway rest shown calls x x left whole
  underway_begun x left whole e = (nothing, λ before. e (both before nothing) ∙ ap whole (both-nothing before), costs_none rest shown calls x)

  pub underway_more : (x y z : X) (left next whole : Adds) (q : Passed) → Underway rest shown calls x y left whole → ((before : Passed) → left before ≡ next (both before q)) → Costs rest shown calls y z q.seen q.hidden → Underway rest shown calls x z next whole
  underway_more x y z left next whole q u s c = (
    both u.0 q,
    λ before. ap next (sym (both_assoc before u.0 q)) ∙ sym (s (both before u.0)) ∙ u.1 before,
    costs_more rest shown calls x y z u.0.seen u.0.hidden q.seen q.hidden u.2 c,
  )

  pub underway_ended : (x y : X) (left whole : Adds) → Underway rest shown calls x y left whole → ((before : Passed) → left before ≡ Ok (before, rest y)) → (p : Passed) × ((before : Passed) → whole before ≡ Ok (both before p, rest y)) × Costs rest shown calls x y p.seen p.hidden
  underway_ended x y left whole u e = (u.0, λ before. sym (u.1 before) ∙ e (both before u.0), u.2)

  pub underway_fault : (x y : X) (k : Fault) (left whole : Adds) → Underway rest shown calls x y left whole → ((before : Passed) → left before ≡ Err k) → (before : Passed) → whole before ≡ Err k
  underway_fault x y k left whole u e before = sym (u.1 before) ∙ e (both before u.0)
