-- What is written of a lending iterator's next piece.
use Rattle.std.specs.Prelude.{◌≡◌, ℕ, ◌⊎◌, Bool, true, false, List, Option, Some, None, Result, Ok, Err, MatchResult}
use Rattle.std.specs.Bool.{MatchBool}
use Rattle.std.specs.Io.KnownBytes.{Appends, Keeps}
use Rattle.arrow_base.specs.Outside.{AppendsPrefix, RoseOrFull}
use Rattle.arrow_core.specs.declared.error.Error.{Error}
use Rattle.arrow_core.specs.declared.error.Error.TheVariants.{WriteFault}
use Rattle.lending.specs.Lending.{ShowsItem}

module _ {S : Type 0} (step : S → Result (Unit {0}) Error → S → Type 0) (shown : S → Option (List ℕ)) where
  -- one `advance` showed a piece, and it was written
  pub record Writes (before after : S) (old new : Option (List ℕ)) : Type 0 where
    pub piece : List ℕ
    pub shows : ShowsItem step shown before piece after
    pub written : Appends old new piece

  -- one `advance` showed none, and nothing was written
  pub record ShowsNone (before after : S) (old new : Option (List ℕ)) : Type 0 where
    pub steps : step before (Ok tt) after
    pub none : shown after ≡ None
    pub kept : Keeps old new

  -- one `advance` showed a piece, and a write failed after a prefix of it
  pub record FailsToWrite (before after : S) (old new : Option (List ℕ)) (faults_old faults_new : ℕ) (error : Error) : Type 0 where
    pub piece : List ℕ
    pub shows : ShowsItem step shown before piece after
    pub written : AppendsPrefix old new piece
    pub cause : RoseOrFull faults_old faults_new
    pub is : error ≡ WriteFault

  -- the `advance` answered this error, and nothing was written; or a write failed
  abbrev pub Fails : S → S → Option (List ℕ) → Option (List ℕ) → ℕ → ℕ → Error → Type 0
  Fails before after old new faults_old faults_new error =
      (step before (Err error) after × Keeps old new) ⊎ FailsToWrite before after old new faults_old faults_new error

  -- one `advance`, and what is written and answered then; the writer ends where it gives None or an error
  abbrev pub WritesNext : S → Option (Result (Unit {0}) Error) → S → Bool → Option (List ℕ) → Option (List ℕ) → ℕ → ℕ → Type 0
  WritesNext before None after ended old new faults_old faults_new = ShowsNone before after old new × (ended ≡ true)
  WritesNext before (Some (Ok u)) after ended old new faults_old faults_new = Writes before after old new × (ended ≡ false)
  WritesNext before (Some (Err error)) after ended old new faults_old faults_new = Fails before after old new faults_old faults_new error × (ended ≡ true)

  -- cited by private contracts alone: true with a piece, false without one
  abbrev pub WritesPiece : S → Result Bool Error → S → Option (List ℕ) → Option (List ℕ) → ℕ → ℕ → Type 0
  WritesPiece before answer after old new faults_old faults_new =
      MatchResult answer
      (λ more. MatchBool more (Writes before after old new) (ShowsNone before after old new))
      (λ error. Fails before after old new faults_old faults_new error)
