-- What sources and sinks do to the bytes that they tell, and to their counts of calls and faults.
use Rattle.std.specs.Prelude.{◌≡◌, ℕ, ◌+◌, ◌<◌, ◌≤◌, ◌⊎◌, ◌==◌, min, Bool, cond, Option, None, List, length, ◌++◌}
use Rattle.std.specs.List.{list_any}
use Rattle.std.specs.Io.{StopsAt}
use Rattle.std.specs.Io.KnownBytes.{Appends, Consumes}
use Rattle.arrow_core.specs.declared.error.Error.{Error}
use Rattle.arrow_core.specs.declared.error.Error.TheVariants.{ReadFault, OutOfMemory}

-- the last value of a count of 64 bits
abbrev pub last_count : ℕ
last_count = 18446744073709551615

-- a count of 64 bits after one more
abbrev pub one_more : ℕ → ℕ
one_more n = min (n + 1) last_count

-- a count of faults after a call that failed, or didn't
abbrev pub counted : Bool → ℕ → ℕ
counted failed n = cond failed (one_more n) n

-- a count rose, or stands at its last value
abbrev pub RoseOrFull : ℕ → ℕ → Type 0
RoseOrFull before now = (before < now) ⊎ (now ≡ last_count)

-- the number is in the list
abbrev pub is_among : List ℕ → ℕ → Bool
is_among list number = list_any (λ m. m == number) list

-- the bytes that were told grew by a prefix of these
pub record AppendsPrefix (old new : Option (List ℕ)) (bytes : List ℕ) : Type 0 where
  pub taken : List ℕ
  pub left_out : List ℕ
  pub splits : taken ++ left_out ≡ bytes
  pub appended : Appends old new taken

-- these bytes came next, `most` at most, of which none but the last is `byte`
pub record ComesThrough (old new : Option (List ℕ)) (byte most : ℕ) (bytes : List ℕ) : Type 0 where
  pub consumed : Consumes old new bytes
  pub fits : length bytes ≤ most
  pub stops : StopsAt bytes byte

-- n such bytes came next, and stand at the end of the line
pub record GivesThrough (old new : Option (List ℕ)) (byte most : ℕ) (before line : List ℕ) (n : ℕ) : Type 0 where
  pub bytes : List ℕ
  pub came : ComesThrough old new byte most bytes
  pub counted : length bytes ≡ n
  pub appended : line ≡ before ++ bytes

-- why none are given: a read failed, or there was no memory
abbrev pub NoneGiven : (faults_before faults : ℕ) → Error → Type 0
NoneGiven faults_before faults (ReadFault None) = RoseOrFull faults_before faults
NoneGiven faults_before faults OutOfMemory = Unit {0}
NoneGiven faults_before faults _ = ⊥
