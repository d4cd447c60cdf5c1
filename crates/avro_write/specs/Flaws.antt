-- Why a column of a type that pairs with a schema can't be written under it.
use Rattle.std.specs.Prelude.{◌≡◌, ℤ, pos, negsuc, int_rem, int_le, Bool, true, false, not, ◌&&◌, ◌||◌, List, [], ◌∷◌, Option, Some, if◌then◌else◌}
use Rattle.std.specs.List.{list_any}
use Rattle.std.specs.Ordering.{int_eq}
use Rattle.arrow_core.specs.declared.error.Error.{Error}
use Rattle.arrow_core.specs.declared.error.Error.TheVariants.{InvalidArgumentError, NotYetImplemented, OutOfMemory}
use Rattle.arrow_core.specs.declared.error.Reason.TheVariants as reason
use Rattle.arrow_core.specs.declared.slot.Slot.{Slot}
use Rattle.arrow_array.specs.declared.array.Array.{Array}
use Rattle.arrow_array.specs.Arrays.{array_slots, array_type}
use Rattle.arrow_array.specs.Slots.{is_held}
use Rattle.avro_schema.specs.declared.schema.Schema.{Schema, Record, Array', Union', Fixed, Row_of-Schema, end_of-Schema, more_of-Schema}
use Rattle.avro_schema.specs.declared.schema.Record.{Record as TheRecord, Record', Row_of-AvroField, end_of-AvroField, more_of-AvroField}
use Rattle.avro_schema.specs.declared.schema.FixedLogical.{FixedLogical}
use Rattle.avro_schema.specs.declared.schema.FixedLogical.TheVariants as fixed_logical
use Rattle.avro_schema.specs.Encodes.{is_null}
use Rattle.avro_encode.specs.Plain.{integer_of, milliseconds, parts_of}
use Rattle.avro_encode.specs.PairTypes.{PairsType}
use Rattle.avro_write.specs.declared.flaws.Flaw.{Flaw}
use Rattle.avro_write.specs.declared.flaws.Flaw.TheVariants as flaw

-- nanoseconds that are whole milliseconds, which fit 32 bits
abbrev pub is_whole : ℤ → Bool
is_whole ns = int_eq (int_rem ns (pos 1000000)) (pos 0) && (int_le (negsuc 2147483647) (milliseconds ns) && int_le (milliseconds ns) (pos 2147483647))

-- the same of an interval's months, days and nanoseconds
abbrev pub has_whole : List Slot → Bool
has_whole (months ∷ days ∷ nanoseconds ∷ []) = is_whole (integer_of nanoseconds)
has_whole _ = true

-- a null where none may stand
abbrev pub null_flaw : Flaw → Slot → Bool
null_flaw flaw.Null x = not (is_held x)
null_flaw flaw.Interval x = false

-- an interval that a duration can't hold
abbrev pub fixed_flaw : Flaw → Option FixedLogical → Slot → Bool
fixed_flaw flaw.Interval (Some fixed_logical.Duration) x = is_held x && not (has_whole (parts_of x))
fixed_flaw _ _ x = false

-- whether a slot shows this flaw under the schema. `Null`: a null stands under a schema that is no union.
-- `Interval`: an interval stands under a duration that isn't whole milliseconds in 32 bits. What is beneath a
-- null isn't shown.
abbrev mutual
  pub shows : Flaw → Schema → Slot → Bool
  shows f (Union' shape members) x = is_held x && member_shows f members x
  shows f (Array' shape item) x = null_flaw f x || list_any (item_shows f item) (parts_of x)
  shows f (Record r) x = null_flaw f x || record_shows f r (parts_of x)
  shows f (Fixed fixed) x = null_flaw f x || fixed_flaw f fixed.logical x
  shows f _ x = null_flaw f x

  pub record_shows : Flaw → TheRecord → List Slot → Bool
  record_shows f (Record' name namespace doc shape fields) xs = fields_show f fields xs

  -- some field's slot does
  pub fields_show : {m : _} → Flaw → Row_of-AvroField m → List Slot → Bool
  fields_show f end_of-AvroField xs = false
  fields_show f (more_of-AvroField name doc s rest) [] = false
  fields_show f (more_of-AvroField name doc s rest) (x ∷ xs) = shows f s x || fields_show f rest xs

  -- an item does, by the one schema that an array has
  pub item_shows : {m : _} → Flaw → Row_of-Schema m → Slot → Bool
  item_shows f end_of-Schema x = false
  item_shows f (more_of-Schema s rest) x = shows f s x

  -- the member beside null does
  pub member_shows : {m : _} → Flaw → Row_of-Schema m → Slot → Bool
  member_shows f (more_of-Schema s (more_of-Schema u end_of-Schema)) x = if is_null s then shows f u x else shows f s x
  member_shows f _ x = false

-- some slot of the column shows the flaw
abbrev pub column_shows : Flaw → Schema → Array → Bool
column_shows f s array = list_any (shows f s) (array_slots array)

-- a column that can be written under the schema
pub record IsAccepted (s : Schema) (array : Array) : Type 0 where
  pub types : PairsType s (array_type array)
  pub nulls : column_shows flaw.Null s array ≡ false
  pub intervals : column_shows flaw.Interval s array ≡ false

-- why another isn't, the first reason that applies; out of memory may come at any time
abbrev pub IsRefused : Schema → Array → Error → Type 0
IsRefused s array (NotYetImplemented reason.SerializerPair) = PairsType s (array_type array) → ⊥
IsRefused s array (InvalidArgumentError reason.NullUnderRequired) = PairsType s (array_type array) × (column_shows flaw.Null s array ≡ true)
IsRefused s array (InvalidArgumentError reason.Interval) =
    PairsType s (array_type array) × (column_shows flaw.Null s array ≡ false) × (column_shows flaw.Interval s array ≡ true)
IsRefused s array OutOfMemory = Unit {0}
IsRefused s array _ = ⊥
