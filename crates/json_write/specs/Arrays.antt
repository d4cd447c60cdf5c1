-- What contracts see of a serializer of arrays.
use Rattle.std.specs.Prelude.{◌≡◌, ℕ, ◌++◌, ◌⊎◌, Bool, true, false, cond, Option, Some, None, is_some, List, [], ◌∷◌, map, Result, Ok, Err, MatchOption, MatchResult}
use Rattle.std.specs.Bool.{MatchBool}
use Rattle.std.specs.List.{All}
use Rattle.std.specs.Iterator.{Count, size}
use Rattle.arrow_core.specs.declared.error.Error.{Error}
use Rattle.arrow_core.specs.declared.error.Error.TheVariants.{OutOfMemory}
use Rattle.arrow_core.specs.declared.slot.Slot.{Slot}
use Rattle.arrow_array.specs.declared.array.Array.{Array}
use Rattle.arrow_array.specs.Arrays.{array_type, array_slots}
use Rattle.json_text.specs.JsonText.{text, joined}
use Rattle.json_text.specs.Refusals.{refusal}
use Rattle.lending.specs.Filling.{Ends}
use Rattle.json_write.specs.declared.arrays.Serializer.{Serializer}

-- the texts of an array's slots, with commas between them
abbrev pub array_texts : Array → List ℕ
array_texts array = joined (map (text (array_type array)) (array_slots array))

-- why an array has no JSON text, if it has none
abbrev pub array_refusal : Array → Option Error
array_refusal array = refusal (array_type array) (array_slots array)

-- the array is passed over: it has a text, and no slots
abbrev pub IsPassedOver : Array → Type 0
IsPassedOver array = (array_refusal array ≡ None) × (array_slots array ≡ [])

-- no slots
abbrev pub is_empty : List Slot → Bool
is_empty [] = true
is_empty _ = false

-- what comes of arrays that are given so, of each of which this is shown: that of those that aren't empty, up to the first error
abbrev pub items_by : (Array → List ℕ) → List (Result Array Error) → List (List ℕ)
items_by shown [] = []
items_by shown (Err e ∷ given) = []
items_by shown (Ok array ∷ given) = cond (is_some (array_refusal array)) [] (cond (is_empty (array_slots array)) (items_by shown given) (shown array ∷ items_by shown given))

-- the same of their texts
abbrev pub items_of : List (Result Array Error) → List (List ℕ)
items_of = items_by array_texts

-- an error that came of what was given: its own, or that of an array that has no text, or out of memory
abbrev pub StopsAt : Result Array Error → Error → Type 0
StopsAt (Ok array) error = (array_refusal array ≡ Some error) ⊎ (error ≡ OutOfMemory)
StopsAt (Err own) error = error ≡ own

-- what was given is an array that has a text; if it has slots, what is shown of it was added
abbrev pub Adds : (Array → List ℕ) → Result Array Error → Bool → List ℕ → List ℕ → Type 0
Adds shown (Ok array) filled old new = (array_refusal array ≡ None) × MatchBool filled ((array_slots array ≡ [] → ⊥) × (new ≡ old ++ shown array)) ((array_slots array ≡ []) × (new ≡ old))
Adds shown (Err own) filled old new = ⊥

-- the same of the texts of its slots
abbrev pub AddsGiven : Result Array Error → Bool → List ℕ → List ℕ → Type 0
AddsGiven = Adds array_texts

module _ {I : Type 0} (next_gives : I → Option (Result Array Error) → I → Type 0) where
  -- the iterator gives just these, in order, and then nothing
  abbrev pub Tells : I → List (Result Array Error) → Type 0
  Tells before [] = (next : Option (Result Array Error)) → (after : I) → next_gives before next after → next ≡ None
  Tells before (x ∷ xs) = (next : Option (Result Array Error)) → (after : I) → next_gives before next after → (next ≡ Some x) × Tells after xs

  -- it gave these arrays
  abbrev pub Gave : I → List Array → I → Type 0
  Gave before [] after = before ≡ after
  Gave before (x ∷ xs) after = (between : I) × next_gives before (Some (Ok x)) between × Gave between xs after

  -- arrays were passed over, and the next has slots, of which this is shown
  pub record Finds (shown : Array → List ℕ) (before : I) (bytes : List ℕ) (after : I) : Type 0 where
    pub passed : List Array
    pub passed_over : All IsPassedOver passed
    pub between : I
    pub gave : Gave before passed between
    pub array : Array
    pub next : next_gives between (Some (Ok array)) after
    pub accepted : array_refusal array ≡ None
    pub filled : array_slots array ≡ [] → ⊥
    pub told : bytes ≡ shown array

  -- the same of the texts of its slots
  abbrev pub FindsTexts : I → List ℕ → I → Type 0
  FindsTexts = Finds array_texts

  -- arrays were passed over, and there is no further one
  pub record FindsNone (before after : I) : Type 0 where
    pub passed : List Array
    pub passed_over : All IsPassedOver passed
    pub between : I
    pub gave : Gave before passed between
    pub next : next_gives between None after

  -- arrays were passed over, and what came next was an error or has no text, or memory ran out
  pub record Stops (before : I) (error : Error) (after : I) : Type 0 where
    pub passed : List Array
    pub passed_over : All IsPassedOver passed
    pub between : I
    pub gave : Gave before passed between
    pub given : Result Array Error
    pub next : next_gives between (Some given) after
    pub cause : StopsAt given error

module _ {I : Type 0} where
  abbrev pub arrays_of : Serializer I → I
  arrays_of s = s.arrays

  -- nothing comes any more: the iterator had no next array, or there was an error
  abbrev pub has_ended : Serializer I → Bool
  has_ended s = s.has_ended

  -- what is shown
  abbrev pub shown_of : Serializer I → Option (List ℕ)
  shown_of s = cond s.is_valid (Some s.buffer.items) None

  -- at most so many items and errors come
  abbrev pub to_come_of : (I → Count) → Serializer I → ℕ
  to_come_of remaining s = cond s.has_ended 0 (size (remaining s.arrays))

  -- until the end the iterator may be asked for arrays, and ends
  abbrev pub MayAdvance : (I → Type 0) → (I → Count) → Serializer I → Type 0
  MayAdvance can_next remaining s = s.has_ended ≡ false → Ends can_next remaining s.arrays

  -- the items still to be shown, where the iterator tells what it gives
  abbrev pub TellsItems : (I → Option (Result Array Error) → I → Type 0) → Serializer I → List (List ℕ) → Type 0
  TellsItems next_gives s told = MatchBool s.has_ended (told ≡ []) ((given : List (Result Array Error)) × Tells next_gives s.arrays given × (told ≡ items_of given))

  -- of one `advance`, what the iterator gave, what was answered, and what is shown
  pub record Advances (next_gives : I → Option (Result Array Error) → I → Type 0) (before : Serializer I) (answer : Result (Unit {0}) Error) (after : Serializer I) : Type 0 where
    pub after_the_end : before.has_ended ≡ true → (answer ≡ Ok tt) × (shown_of after ≡ None) × (after.has_ended ≡ true)
    pub until_the_end : before.has_ended ≡ false → MatchResult answer
        (λ _. MatchOption (shown_of after) (FindsNone next_gives before.arrays after.arrays × (after.has_ended ≡ true))
        (λ bytes. FindsTexts next_gives before.arrays bytes after.arrays × (after.has_ended ≡ false)))
        (λ e. Stops next_gives before.arrays e after.arrays × (after.has_ended ≡ true) × (shown_of after ≡ None))
