-- What contracts see of a `BufStreamingIterator`.
use Rattle.std.specs.Prelude.{◌≡◌, ℕ, Bool, true, false, Option, Some, None, List, Result, Ok, MatchOption, cond}
use Rattle.std.specs.Borrow.{MutBor}
use Rattle.std.specs.Iterator.{Count, size}
use Rattle.lending.specs.Filling.{Ends, Fills, shown_after}
use Rattle.lending.specs.declared.buffered.BufStreamingIterator.{BufStreamingIterator}

module _ {I F T : Type 0} where
  abbrev pub iterator_of : BufStreamingIterator I F T → I
  iterator_of s = s.iterator

  abbrev pub closure_of : BufStreamingIterator I F T → F
  closure_of s = s.f

  -- the iterator had no next item
  abbrev pub has_ended : BufStreamingIterator I F T → Bool
  has_ended s = s.has_ended

  -- what is shown
  abbrev pub shown_of : BufStreamingIterator I F T → Option (List ℕ)
  shown_of s = cond s.is_valid (Some s.buffer.items) None

  -- at most so many items and errors come
  abbrev pub to_come_of : (I → Count) → BufStreamingIterator I F T → ℕ
  to_come_of remaining s = cond s.has_ended 0 (size (remaining s.iterator))

  -- the closure may be called, and until the end the iterator may be asked for items, and ends
  abbrev pub MayAdvance : (F → Type 0) → (I → Type 0) → (I → Count) → BufStreamingIterator I F T → Type 0
  MayAdvance callable can_next remaining s = callable s.f × (s.has_ended ≡ false → Ends can_next remaining s.iterator)

-- of one `advance`, what the iterator was before, what was answered, and what it is after
module _ {I F T V E : Type 0} (bytes_of : V → List ℕ) (calls : F → T → MutBor V → Result (Unit {0}) E → MutBor V → F → Type 0) (next_gives : I → Option T → I → Type 0)
    (before : BufStreamingIterator I F T) (answer : Result (Unit {0}) E) (after : BufStreamingIterator I F T) where
  -- it is at the end: the closure was not called, and nothing is shown
  pub record ShowsNothing : Type 0 where
    pub ok : answer ≡ Ok tt
    pub ended : after.has_ended ≡ true
    pub not_called : after.f ≡ before.f
    pub nothing_shown : shown_of after ≡ None

  -- the closure filled the empty buffer with the item, and the buffer is shown if it answered Ok
  pub record ShowsFilled (item : T) : Type 0 where
    pub bytes : List ℕ
    pub filled : Fills bytes_of calls before.f item answer bytes after.f
    pub not_ended : after.has_ended ≡ false
    pub shown : shown_of after ≡ shown_after answer bytes

  -- the iterator was asked for its next item: where there was none, that is the end
  pub record TakesNext : Type 0 where
    pub next : Option T
    pub given : next_gives before.iterator next after.iterator
    pub shows : MatchOption next ShowsNothing ShowsFilled

  -- one `advance`: until the end it takes the iterator's next item
  pub record Advances : Type 0 where
    pub after_the_end : before.has_ended ≡ true → ShowsNothing
    pub until_the_end : before.has_ended ≡ false → TakesNext
