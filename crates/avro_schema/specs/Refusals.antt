-- Why a block is refused. Each error has its one cause, and out of memory may come at any time.
use Rattle.std.specs.Prelude.{◌≡◌, ℕ, ◌<◌, ◌≤◌, ◌⊎◌, List, [], length, Bool}
use Rattle.arrow_core.specs.declared.types.Field.{Field}
use Rattle.arrow_core.specs.declared.slot.Slot.{Slot}
use Rattle.arrow_core.specs.declared.error.Error.{Error}
use Rattle.arrow_core.specs.declared.error.Error.TheVariants.{InvalidArgumentError, NotYetImplemented, ExternalFormat, OutOfSpec, Overflow, OutOfMemory}
use Rattle.arrow_core.specs.declared.error.Reason.TheVariants as reason
use Rattle.avro_schema.specs.declared.schema.AvroField.{AvroField}
use Rattle.avro_schema.specs.Carried.{CarriedList}
use Rattle.avro_schema.specs.NegativeSize.{NegativeSize}
use Rattle.avro_schema.specs.Rows.{Rows}
use Rattle.avro_schema.specs.ValidBlock.{HaveSameLength, KeepNoFloat, KeptEnumsFit, OffsetsFit, ValidBlock}
use Rattle.avro_schema.specs.Types.{Fits}

-- ---- Avro fields

-- there is a field, and all are carried
abbrev pub AreCarried : List AvroField → Type 0
AreCarried avro_fields = (0 < length avro_fields) × CarriedList avro_fields

-- why they aren't, in this order
abbrev pub AreNotCarried : List AvroField → Error → Type 0
AreNotCarried avro_fields (NotYetImplemented reason.NoField) = avro_fields ≡ []
AreNotCarried avro_fields (NotYetImplemented reason.NotCarried) = (0 < length avro_fields) × (CarriedList avro_fields → ⊥)
AreNotCarried avro_fields _ = ⊥

-- ---- fields, Avro fields and a projection

-- they belong together: what `CanBeColumns` asks of them
pub record BelongTogether (fields : List Field) (avro_fields : List AvroField) (projection : List Bool) : Type 0 where
  pub lengths : HaveSameLength fields avro_fields projection
  pub some : 0 < length fields
  pub carried : CarriedList avro_fields
  pub fits : Fits fields avro_fields
  pub no_float : KeepNoFloat avro_fields projection
  pub symbols : KeptEnumsFit avro_fields projection

-- the lengths agree, there is a field, and each schema is carried
abbrev pub HaveCarriedFields : List Field → List AvroField → List Bool → Type 0
HaveCarriedFields fields avro_fields projection = HaveSameLength fields avro_fields projection × AreCarried avro_fields

-- why they do not belong together, in this order
abbrev pub FieldsRefused : List Field → List AvroField → List Bool → Error → Type 0
FieldsRefused fields avro_fields projection (InvalidArgumentError reason.Lengths) = HaveSameLength fields avro_fields projection → ⊥
FieldsRefused fields avro_fields projection (NotYetImplemented reason.NoField) = HaveSameLength fields avro_fields projection × (fields ≡ [])
FieldsRefused fields avro_fields projection (NotYetImplemented reason.NotCarried) = HaveSameLength fields avro_fields projection × (0 < length fields) × (CarriedList avro_fields → ⊥)
FieldsRefused fields avro_fields projection (InvalidArgumentError reason.FieldType) = HaveCarriedFields fields avro_fields projection × (Fits fields avro_fields → ⊥)
FieldsRefused fields avro_fields projection (NotYetImplemented reason.Float) = HaveCarriedFields fields avro_fields projection × Fits fields avro_fields × (KeepNoFloat avro_fields projection → ⊥)
FieldsRefused fields avro_fields projection Overflow = HaveCarriedFields fields avro_fields projection × Fits fields avro_fields × KeepNoFloat avro_fields projection × (KeptEnumsFit avro_fields projection → ⊥)
FieldsRefused fields avro_fields projection OutOfMemory = Unit {0}
FieldsRefused fields avro_fields projection _ = ⊥

-- ---- bytes

-- the offsets of the kept fields can count the bytes, and no more rows are stated than bytes
abbrev pub AreCounted : ℕ → List Field → List Bool → List ℕ → Type 0
AreCounted n fields projection bytes = OffsetsFit fields projection bytes × (n ≤ length bytes)

-- why bytes are refused as n rows, in this order
abbrev pub BytesRefused : ℕ → List Field → List AvroField → List Bool → List ℕ → Error → Type 0
BytesRefused n fields avro_fields projection bytes Overflow = OffsetsFit fields projection bytes → ⊥
BytesRefused n fields avro_fields projection bytes (ExternalFormat reason.Rows) = OffsetsFit fields projection bytes × (length bytes < n)
BytesRefused n fields avro_fields projection bytes (ExternalFormat reason.BlockBytes) = AreCounted n fields projection bytes × ((table : List (List Slot)) → Rows n avro_fields projection bytes table → ⊥) × (NegativeSize n avro_fields projection bytes → ⊥)
BytesRefused n fields avro_fields projection bytes (OutOfSpec reason.NegativeSize) = AreCounted n fields projection bytes × NegativeSize n avro_fields projection bytes
BytesRefused n fields avro_fields projection bytes OutOfMemory = Unit {0}
BytesRefused n fields avro_fields projection bytes _ = ⊥

-- why a block is refused, in this order
abbrev pub BlockRefused : List Field → ℕ → List AvroField → List Bool → List ℕ → Error → Type 0
BlockRefused fields n avro_fields projection bytes e =
    FieldsRefused fields avro_fields projection e ⊎ (BelongTogether fields avro_fields projection × BytesRefused n fields avro_fields projection bytes e)

-- ---- valid blocks

-- a valid block is refused for out of memory alone
abbrev pub ValidBlocksAreRead : Type 0
ValidBlocksAreRead = (fields : List Field) (n : ℕ) (avro_fields : List AvroField) (projection : List Bool) (bytes : List ℕ) (e : Error) → ValidBlock n bytes fields avro_fields projection → BlockRefused fields n avro_fields projection bytes e → e ≡ OutOfMemory
