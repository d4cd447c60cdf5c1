-- Each column so far pairs with its field.
use Rattle.std.proofs.Common.{ℕ, ◌<◌, get_or}
use Rattle.arrow_core.specs.declared.types.Field.{Field}
use Rattle.avro_schema.specs.declared.schema.AvroField.{AvroField}
use Rattle.avro_encode.specs.PairTypes.{PairsType}
use Rattle.avro_write.proofs.pairs.+pairs.Given as goal

abbrev pub invariant-pairs_columns-loop-i : goal.invariant-pairs_columns-loop-i
invariant-pairs_columns-loop-i l = record {
  fit : (k : ℕ) (d : AvroField) (e : Field) → k < l.i → PairsType (get_or l.fields k d).schema (get_or l.columns k e).data_type;
}
