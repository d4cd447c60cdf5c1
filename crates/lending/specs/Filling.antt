-- How a buffer is filled by a closure with one item of an iterator.
use Rattle.std.specs.Prelude.{◌≡◌, ℕ, Option, Some, None, List, [], Result, IfSome, cond, is_ok}
use Rattle.std.specs.Borrow.{MutBor}
use Rattle.std.specs.Iterator.{Count, IsFinite, UpTo}
use Rattle.std.specs.Iterator.SizeHint.{IsWithinCount}

-- the iterator may be asked for items, and ends
abbrev pub Ends : {I : Type 0} → (I → Type 0) → (I → Count) → I → Type 0
Ends can_next remaining iterator = can_next iterator × IsFinite (remaining iterator)

-- the bounds that the iterator's own hint keeps
abbrev pub HintsAt : Count → ℕ × Option ℕ → Type 0
HintsAt count hint = IsWithinCount hint.0 count × IfSome hint.1 (UpTo count)

-- what is shown of the buffer after the closure answered
abbrev pub shown_after : {E : Type 0} → Result (Unit {0}) E → List ℕ → Option (List ℕ)
shown_after answer bytes = cond (is_ok answer) (Some bytes) None

-- the closure was called at the item and an empty buffer; it answered so, and left these bytes in the buffer
pub record Fills {F T V E : Type 0} (bytes_of : V → List ℕ) (calls : F → T → MutBor V → Result (Unit {0}) E → MutBor V → F → Type 0)
    (f : F) (item : T) (answer : Result (Unit {0}) E) (bytes : List ℕ) (f_after : F) : Type 0 where
  pub lent : MutBor V
  pub empty : bytes_of lent.now ≡ []
  pub left : MutBor V
  pub called : calls f item lent answer left f_after
  pub leaves : bytes_of left.now ≡ bytes
