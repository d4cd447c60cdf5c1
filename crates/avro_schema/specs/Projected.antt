-- What a block is read by: fields, Avro fields and a projection, and the tables that bytes then have.
use Rattle.std.specs.Prelude.{◌≡◌, ◌≢◌, ℕ, ◌<◌, List, length, Bool, refl}
use Rattle.std.specs.Coded.{Coded, code_by, coded×, coded_list, coded_bool}
use Rattle.arrow_core.specs.declared.error.Error.{Error}
use Rattle.arrow_core.specs.declared.error.Error.TheVariants.{Overflow, OutOfMemory}
use Rattle.arrow_core.specs.declared.slot.Slot.{Slot}
use Rattle.arrow_core.specs.declared.types.Field.{Field}
use Rattle.arrow_core.specs.contracts.types.Field as the_fields
use Rattle.avro_schema.specs.declared.schema.AvroField.{AvroField}
use Rattle.avro_schema.specs.contracts.schema.AvroField as the_avro_fields
use Rattle.avro_schema.specs.Carried.{CarriedList}
use Rattle.avro_schema.specs.Rows.{Rows}
use Rattle.avro_schema.specs.Types.{Fits}
use Rattle.avro_schema.specs.ValidBlock.{HaveSameLength, KeepNoFloat, KeptEnumsFit}
use Rattle.avro_schema.specs.Refusals.{FieldsRefused, AreCounted}

-- fields, Avro fields, and which of them are kept
pub record Projected : Type 0 where
  pub fields : List Field
  pub avro_fields : List AvroField
  pub projection : List Bool

abbrev pub projected : List Field → List AvroField → List Bool → Projected
projected fields avro_fields projection = record { fields = fields; avro_fields = avro_fields; projection = projection }

abbrev pub projected_code : Coded Projected
projected_code = code_by (List Field × (List AvroField × List Bool)) (coded× (coded_list the_fields.the_row.coded) (coded× (coded_list the_avro_fields.the_row.coded) (coded_list coded_bool))) (λ p. (p.fields, (p.avro_fields, p.projection))) (λ q. record { fields = q.0; avro_fields = q.1.0; projection = q.1.1 }) (λ _. refl)

-- They belong together, as `BelongTogether` has it, but for the symbols of kept enums: these are asked about when a
-- block comes.
pub record CanBeDecoded (p : Projected) : Type 0 where
  pub lengths : HaveSameLength p.fields p.avro_fields p.projection
  pub some : 0 < length p.fields
  pub carried : CarriedList p.avro_fields
  pub fits : Fits p.fields p.avro_fields
  pub no_float : KeepNoFloat p.avro_fields p.projection

-- why no decoder is made for them: as for a block, symbols and memory aside
abbrev pub ProjectionRefused : Projected → Error → Type 0
ProjectionRefused p e = FieldsRefused p.fields p.avro_fields p.projection e × (e ≢ Overflow) × (e ≢ OutOfMemory)

-- The bytes are n rows, whose kept slots are the table. Offsets can count the bytes, and dictionaries the symbols of
-- kept enums.
pub record HasTable (p : Projected) (n : ℕ) (bytes : List ℕ) (table : List (List Slot)) : Type 0 where
  pub rows : Rows n p.avro_fields p.projection bytes table
  pub counted : AreCounted n p.fields p.projection bytes
  pub symbols : KeptEnumsFit p.avro_fields p.projection
