-- What contracts see of a serializer of arrays into lines.
use Rattle.std.specs.Prelude.{◌≡◌, ℕ, ◌++◌, Bool, true, false, cond, Option, Some, None, List, [], codes, flat_map, Result, Ok, MatchOption, MatchResult}
use Rattle.std.specs.Bool.{MatchBool}
use Rattle.std.specs.Iterator.{Count, size}
use Rattle.arrow_core.specs.declared.error.Error.{Error}
use Rattle.arrow_array.specs.declared.array.Array.{Array}
use Rattle.arrow_array.specs.Arrays.{array_type, array_slots}
use Rattle.json_text.specs.JsonText.{text}
use Rattle.lending.specs.Filling.{Ends}
use Rattle.json_write.specs.Arrays.{items_by, Adds, Finds, Tells, FindsNone, Stops}
use Rattle.ndjson.specs.declared.serializer.Serializer.{Serializer}

-- the text of each slot of an array, and a line feed after each
abbrev pub array_lines : Array → List ℕ
array_lines array = flat_map (λ slot. text (array_type array) slot ++ codes "\n") (array_slots array)

-- what comes of arrays that are given so: the lines of those that aren't empty, up to the first error
abbrev pub items_of : List (Result Array Error) → List (List ℕ)
items_of = items_by array_lines

-- what was given is an array that has a text; if it has slots, their lines were added
abbrev pub AddsGiven : Result Array Error → Bool → List ℕ → List ℕ → Type 0
AddsGiven = Adds array_lines

-- arrays were passed over, and the next has slots, of which these are the lines
abbrev pub FindsLines : {I : Type 0} → (I → Option (Result Array Error) → I → Type 0) → I → List ℕ → I → Type 0
FindsLines next_gives = Finds next_gives array_lines

module _ {I : Type 0} where
  abbrev pub arrays_of : Serializer I → I
  arrays_of s = s.arrays

  -- nothing comes any more: the iterator had no next array, or there was an error
  abbrev pub has_ended : Serializer I → Bool
  has_ended s = s.has_ended

  -- what is shown
  abbrev pub shown_of : Serializer I → Option (List ℕ)
  shown_of s = cond s.is_valid (Some s.buffer.items) None

  -- at most so many items and errors come
  abbrev pub to_come_of : (I → Count) → Serializer I → ℕ
  to_come_of remaining s = cond s.has_ended 0 (size (remaining s.arrays))

  -- until the end the iterator may be asked for arrays, and ends
  abbrev pub MayAdvance : (I → Type 0) → (I → Count) → Serializer I → Type 0
  MayAdvance can_next remaining s = s.has_ended ≡ false → Ends can_next remaining s.arrays

  -- the items still to be shown, where the iterator tells what it gives
  abbrev pub TellsItems : (I → Option (Result Array Error) → I → Type 0) → Serializer I → List (List ℕ) → Type 0
  TellsItems next_gives s told = MatchBool s.has_ended (told ≡ []) ((given : List (Result Array Error)) × Tells next_gives s.arrays given × (told ≡ items_of given))

  -- of one `advance`, what the iterator gave, what was answered, and what is shown
  pub record Advances (next_gives : I → Option (Result Array Error) → I → Type 0) (before : Serializer I) (answer : Result (Unit {0}) Error) (after : Serializer I) : Type 0 where
    pub after_the_end : before.has_ended ≡ true → (answer ≡ Ok tt) × (shown_of after ≡ None) × (after.has_ended ≡ true)
    pub until_the_end : before.has_ended ≡ false → MatchResult answer
        (λ _. MatchOption (shown_of after) (FindsNone next_gives before.arrays after.arrays × (after.has_ended ≡ true))
        (λ bytes. FindsLines next_gives before.arrays bytes after.arrays × (after.has_ended ≡ false)))
        (λ e. Stops next_gives before.arrays e after.arrays × (after.has_ended ≡ true) × (shown_of after ≡ None))
