-- Where null may stand under a schema, and what a slot becomes by that. Private contracts
-- and, through `Columns`, the model of `ColumnEncoder` cite these.
use Rattle.std.specs.Prelude.{◌≡◌, ℕ, Bool, if◌then◌else◌, IsTrue, List, [], ◌∷◌}
use Rattle.arrow_core.specs.declared.slot.Slot.{Slot}
use Rattle.arrow_array.specs.Slots.{is_held}
use Rattle.avro_schema.specs.declared.schema.Schema.{Schema, Union}
use Rattle.avro_encode.specs.Flat.{HasNoParts}
use Rattle.avro_encode.specs.Listed.{IsBesideNull, index_byte}
use Rattle.avro_encode.specs.declared.nulls.Nulls.{Nulls}
use Rattle.avro_encode.specs.declared.nulls.Nulls.TheVariants as nulls

-- null stands in a union of two, first or second, beside a member without schemas in it
pub record IsOptional (members : List Schema) (null_first : Bool) : Type 0 where
  pub member : Schema
  pub beside : IsBesideNull members null_first member
  pub flat : HasNoParts member

pub record IsOptionalOf (s : Schema) (null_first : Bool) : Type 0 where
  pub members : List Schema
  pub is : s ≡ Union members
  pub optional : IsOptional members null_first

-- values of the schema have nothing beneath them, and null stands there
abbrev pub TellsNulls : Schema → Nulls → Type 0
TellsNulls s nulls.Required = HasNoParts s
TellsNulls s (nulls.Optional null_first) = IsOptionalOf s null_first

-- the encoding of a slot by that of a value: in a union after the index of its member
abbrev pub nullable_encoding : Nulls → (Slot → List ℕ) → Slot → List ℕ
nullable_encoding nulls.Required encoding x = encoding x
nullable_encoding (nulls.Optional null_first) encoding x = index_byte null_first (is_held x) ∷ (if is_held x then encoding x else [])

-- a value fits, and a null stands only where it may
abbrev pub FitsNulls : Nulls → (Slot → Type 0) → Slot → Type 0
FitsNulls nulls.Required Fits x = IsTrue (is_held x) × Fits x
FitsNulls (nulls.Optional null_first) Fits x = IsTrue (is_held x) → Fits x
