-- The indices of slots among the distinct ones. Contracts of private functions alone cite this file.
use Rattle.std.specs.Prelude.{◌≡◌, ◌⊎◌, ℕ, ◌≤◌, pos, true, List, [], ◌∷◌, ◌++◌, Option, Some, None, slice_get}
use Rattle.std.specs.Borrow.{Bor}
use Rattle.std.specs.List.{Any, Contains}
use Rattle.arrow_array.specs.Slots.{is_held}
use Rattle.arrow_core.specs.declared.error.Error.{Error}
use Rattle.arrow_core.specs.declared.slot.Slot.{Slot}
use Rattle.arrow_core.specs.declared.slot.Slot.TheVariants as slot
use Rattle.arrow_dictionaries.specs.Encoding.{IsEncodingFault}

-- the slot of a string that is lent
abbrev pub string_slot : Bor (List ℕ) → Slot
string_slot string = slot.String string.now

-- an index as a key
abbrev pub index_key : Option ℕ → Slot
index_key None = slot.Null
index_key (Some index) = slot.Integer (pos index)

-- a slot was looked for among the distinct ones: it is null; or it has this index, as one that was there, or as a new one that went last
abbrev pub IsStep : Slot → List Slot → List Slot → Option ℕ → Type 0
IsStep s items items' None = (s ≡ slot.Null) × (items' ≡ items)
IsStep s items items' (Some index) =
    (is_held s ≡ true) × (slice_get items' index ≡ Some s)
    × ((items' ≡ items) ⊎ ((Contains items s → ⊥) × (items' ≡ items ++ s ∷ [])))

-- keys don't number so far
abbrev pub IsPast : ℕ → Option ℕ → Type 0
IsPast count None = ⊥
IsPast count (Some index) = count ≤ index

-- why there are no keys of indices
abbrev pub IsKeyFault : ℕ → List (Option ℕ) → Error → Type 0
IsKeyFault count indices = IsEncodingFault (Any (IsPast count) indices)
