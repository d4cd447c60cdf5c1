-- Schemas of which one reads what the other encodes (Avro 1.11, "Binary Encoding").
use Rattle.std.specs.Prelude.{◌≡◌, ℕ, List, None}
use Rattle.std.specs.List.{AllZip}
use Rattle.arrow_core.specs.declared.slot.Slot.{Slot}
use Rattle.avro_schema.specs.declared.schema.AvroField.{AvroField}
use Rattle.avro_schema.specs.declared.schema.Fixed.{Fixed}
use Rattle.avro_schema.specs.declared.schema.Schema.{Schema}
use Rattle.avro_schema.specs.Encodes.{Encodes, IsNull}
use Rattle.avro_schema.specs.ValidBlock.{EnumsFit}

-- What encodes a slot under the target may be copied from what was written under the source. Three facts are needed:
-- the same bytes encode the same slot under the source; dictionaries can hold the symbols of each enum in the source, so
-- that reading the slot isn't refused for them; and the target is no null by itself, so that beside null, in a union, the
-- same member encodes it.
pub record MayBeCopied (source target : Schema) : Type 0 where
  pub encodes : (bytes : List ℕ) (x : Slot) → Encodes target bytes x → Encodes source bytes x
  pub symbols : EnumsFit source
  pub some : IsNull target → ⊥

-- as many fields, in order, of whose slots each may be copied
abbrev pub AreAlike : List AvroField → List AvroField → Type 0
AreAlike = AllZip (λ s t. MayBeCopied s.schema t.schema)

-- cited by a private contract alone: binary values of one size, without logical types
pub record IsFixedAlike (source target : Fixed) : Type 0 where
  pub source_logical : source.logical ≡ None
  pub target_logical : target.logical ≡ None
  pub size : source.size ≡ target.size
