-- What a reader takes from a source, and why it stops.
use Rattle.std.specs.Prelude.{◌≡◌, ℕ, ◌+◌, ◌<◌, ◌≤◌, List, [], ◌∷◌, ◌++◌, length, Option, Some, None, ⊤}
use Rattle.std.specs.Io.KnownBytes.{Consumes, IsAtEnd}
use Rattle.arrow_base.specs.Outside.{RoseOrFull}
use Rattle.avro_container.specs.Forms.{Form}
use Rattle.avro_container.specs.declared.parts.Allowance.{Allowance}
use Rattle.avro_container.specs.declared.parts.Stop.{Stop}
use Rattle.avro_container.specs.declared.parts.Stop.TheVariants as stop

-- the bytes to come, where the source tells them; how often it failed; how many bytes may still be taken, and
-- how many of them are left of a stated size
pub record State : Type 0 where
  pub left : Option (List ℕ)
  pub faults : ℕ
  pub limit : ℕ
  pub size_left : Option ℕ

abbrev pub state : Option (List ℕ) → ℕ → ℕ → Option ℕ → State
state left faults limit size_left = record { left = left; faults = faults; limit = limit; size_left = size_left }

-- the state of a source, by what it tells, under an allowance
abbrev pub state_of : {S : Type 0} → (S → Option (List ℕ)) → (S → ℕ) → S → Allowance → State
state_of left faults source allowed = state (left source) (faults source) allowed.limit allowed.size_left

-- what is left of a stated size falls by n
abbrev pub SizeFalls : Option ℕ → Option ℕ → ℕ → Type 0
SizeFalls None None n = ⊤
SizeFalls (Some a) (Some b) n = a ≡ n + b
SizeFalls _ _ n = ⊥

-- n bytes use up a stated size
abbrev pub UsesUp : Option ℕ → ℕ → Type 0
UsesUp None n = ⊥
UsesUp (Some a) n = a ≡ n

-- n bytes leave something of a stated size
abbrev pub NotUsedUp : Option ℕ → ℕ → Type 0
NotUsedUp None n = ⊤
NotUsedUp (Some a) n = n < a

-- these bytes were taken, within the limit and the stated size
pub record Takes (old new : State) (taken : List ℕ) : Type 0 where
  pub consumed : Consumes old.left new.left taken
  pub limit : old.limit ≡ length taken + new.limit
  pub size_left : SizeFalls old.size_left new.size_left (length taken)
  pub faults : old.faults ≤ new.faults

-- these bytes, which are as many as the limit, were taken, and one more
pub record TakesPast (old new : State) (taken : List ℕ) : Type 0 where
  pub byte : ℕ
  pub consumed : Consumes old.left new.left (taken ++ byte ∷ [])
  pub limit : old.limit ≡ length taken
  pub faults : old.faults ≤ new.faults

-- why nothing more is taken of a form: the source ended; the bytes are wrong; the stated size is used up; the
-- limit is passed; a read failed; there is no memory
abbrev pub Ends : {A : Type 0} → Form A → State → State → List ℕ → Stop → Type 0
Ends F old new taken stop.Ended = Takes old new taken × F.begun taken × NotUsedUp old.size_left (length taken) × IsAtEnd new.left
Ends F old new taken stop.Wrong = Takes old new taken × F.wrong taken
Ends F old new taken stop.UsedUp = Takes old new taken × F.begun taken × UsesUp old.size_left (length taken)
Ends F old new taken stop.Limit = TakesPast old new taken × F.begun taken × NotUsedUp old.size_left (length taken)
Ends F old new taken stop.Fault = Takes old new taken × F.begun taken × NotUsedUp old.size_left (length taken) × RoseOrFull old.faults new.faults
Ends F old new taken stop.Memory = Takes old new taken × F.begun taken × NotUsedUp old.size_left (length taken)

-- bytes of the form were taken, of this value
abbrev pub Passed : {A : Type 0} → Form A → State → State → A → Type 0
Passed F old new x = (taken : List ℕ) × Takes old new taken × F.whole taken x

-- bytes of the form were begun, and for this reason no more are taken
abbrev pub Stopped : {A : Type 0} → Form A → State → State → Stop → Type 0
Stopped F old new e = (taken : List ℕ) × Ends F old new taken e
