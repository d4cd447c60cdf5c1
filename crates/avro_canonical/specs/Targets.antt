-- What a rewriter is made for.
use Rattle.std.specs.Prelude.{◌≡◌, ℕ, List}
use Rattle.arrow_core.specs.declared.types.Field.{Field}
use Rattle.avro_schema.specs.declared.schema.AvroField.{AvroField}
use Rattle.avro_schema.specs.declared.schema.Record.{Record}
use Rattle.avro_canonical.specs.Canonical.{HasTarget, Rewriting, rewriting}

-- the rows of these Avro fields can be rewritten, under the record of their columns, which has this name
pub record AreMade (avro_fields : List AvroField) (name marker : List ℕ) (rewriter : Rewriting) (target : Record) : Type 0 where
  pub columns : List Field
  pub has_target : HasTarget name avro_fields columns target
  pub made : rewriter ≡ rewriting avro_fields columns target marker
