-- Cited by private contracts alone: what one read does, and how many bytes it may ask for.
use Rattle.std.specs.Prelude.{◌≡◌, ℕ, ◌≤◌, List, [], ◌++◌, Option, Some, None, ⊤, ◌⊎◌}
use Rattle.avro_container.specs.Forms.{Form}
use Rattle.avro_container.specs.Taking.{State, Takes, Ends}
use Rattle.avro_container.specs.declared.parts.Stop.{Stop}

-- what was taken stands after the old bytes
pub record TakesMore (a b : State) (before now : List ℕ) : Type 0 where
  pub taken : List ℕ
  pub takes : Takes a b taken
  pub appended : now ≡ before ++ taken

-- a form of which nothing is whole: a reader of it stops
abbrev pub open_ended : Form (List ℕ)
open_ended = record { whole = λ b x. ⊥; begun = λ b. Unit {0}; wrong = λ b. ⊥ }

-- nothing was taken but, past the limit, one byte
abbrev pub Stops : State → State → Stop → Type 0
Stops old new e = Ends open_ended old new [] e

abbrev pub WithinSize : Option ℕ → ℕ → Type 0
WithinSize None n = ⊤
WithinSize (Some a) n = n ≤ a

-- so many bytes may be taken; one past the limit, where it is reached
pub record Allows (limit : ℕ) (size_left : Option ℕ) (n : ℕ) : Type 0 where
  pub within : (limit ≡ 0) × (n ≡ 1) ⊎ (n ≤ limit)
  pub within_size : WithinSize size_left n
