-- Which flaws the members of a union and the fields of a record show, in terms of the lists that code sees, and
-- which kinds of arrays hold intervals. Private contracts alone cite these.
use Rattle.std.specs.Prelude.{◌≡◌, ℕ, ◌<◌, Bool, true, false, ◌||◌, List, [], ◌∷◌, length, if◌then◌else◌}
use Rattle.arrow_core.specs.declared.physical.PhysicalType.{PhysicalType}
use Rattle.arrow_core.specs.declared.physical.PhysicalType.TheVariants as physical
use Rattle.arrow_core.specs.declared.physical.PrimitiveType.TheVariants as primitive
use Rattle.arrow_core.specs.declared.slot.Slot.{Slot}
use Rattle.arrow_array.specs.Slots.{is_held, slot_at}
use Rattle.avro_schema.specs.declared.schema.AvroField.{AvroField}
use Rattle.avro_schema.specs.declared.schema.Schema.{Schema}
use Rattle.avro_schema.specs.Encodes.{is_null}
use Rattle.avro_write.specs.declared.flaws.Flaw.{Flaw}
use Rattle.avro_write.specs.Flaws.{shows}

abbrev pub member_shows_of : Flaw → List Schema → Slot → Bool
member_shows_of f (s ∷ u ∷ []) x = if is_null s then shows f u x else shows f s x
member_shows_of f _ x = false

abbrev pub fields_show_of : Flaw → List AvroField → List Slot → Bool
fields_show_of f [] xs = false
fields_show_of f (a ∷ fields) [] = false
fields_show_of f (a ∷ fields) (x ∷ xs) = shows f a.schema x || fields_show_of f fields xs

abbrev pub IsIntervalKind : PhysicalType → Type 0
IsIntervalKind (physical.Primitive primitive.MonthDayNano) = Unit {0}
IsIntervalKind _ = ⊥

-- each slot has P
abbrev pub EachSlot : List Slot → (Slot → Type 0) → Type 0
EachSlot slots P = (i : ℕ) → i < length slots → P (slot_at slots i)

-- no slot but a null passes a test
abbrev pub NoValueShows : (Slot → Bool) → List Slot → Type 0
NoValueShows p slots = EachSlot slots (λ x. is_held x ≡ true → p x ≡ false)
