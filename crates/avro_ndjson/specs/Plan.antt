-- How rows are shown without columns. Contracts of private functions alone cite this file.
use Rattle.std.specs.Prelude.{List, Bool}
use Rattle.arrow_core.specs.declared.types.Field.{Field}
use Rattle.json_text.specs.Columns.{AreFields}
use Rattle.avro_schema.specs.declared.schema.AvroField.{AvroField}
use Rattle.avro_schema.specs.ValidBlock.{KeptEnumsFit}
use Rattle.avro_ndjson.specs.declared.plan.RowPlan.{RowPlan}

-- of rows of these Avro fields: it is made of the columns of the kept ones, which hold no enum that a column can't
pub record IsPlan (avro_fields : List AvroField) (projection : List Bool) (kept : List Field) (plan : RowPlan) : Type 0 where
  pub columns : AreFields kept plan.columns.items
  pub symbols : KeptEnumsFit avro_fields projection
