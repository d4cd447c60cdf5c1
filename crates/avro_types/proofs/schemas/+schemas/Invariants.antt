-- The fields so far, and then those of the columns that are left, are the fields of all columns.
use Rattle.std.proofs.Common.{◌≡◌, ◌+◌, ◌++◌, [], drop, Some}
use Rattle.avro_schema.specs.AndThen.{◌>>=◌}
use Rattle.avro_types.specs.Listed.{structs_in_all}
use Rattle.avro_types.specs.Schemas.{columns_fields}
use Rattle.avro_types.proofs.Columns.{continued}
use Rattle.avro_types.proofs.schemas.+schemas.Given as goal

abbrev pub invariant-columns_fields-loop-column : goal.invariant-columns_fields-loop-column
invariant-columns_fields-loop-column l = record {
  fields : continued l.null_first l.structs l.fields.items (drop l.column-index l.columns) ≡ (columns_fields l.null_first l.fn.structs l.columns >>= λ more. Some ([] ++ more));
  structs : l.structs + structs_in_all (drop l.column-index l.columns) ≡ l.fn.structs + structs_in_all l.columns;
}
