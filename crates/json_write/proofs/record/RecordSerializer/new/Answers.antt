-- The rows by their columns are those by the names of the schema.
use Rattle.std.proofs.Common.{subst, map, List, true}
use Rattle.arrow_core.specs.declared.types.Field.{Field}
use Rattle.arrow_array.specs.Arrays.{array_type}
use Rattle.json_text.specs.Columns.{AreNamed}
use Rattle.json_text.proofs.ColumnLemmas.{are_columns}
use Rattle.json_write.specs.Rows.{names_of}
use Rattle.json_write.proofs.RowLemmas.{rows_are, counted}
use Rattle.json_write.proofs.record.RecordSerializer.new.Goals as goal

pub invariant_of-result-clause-prepared : goal.invariant_of-result-clause-prepared
invariant_of-result-clause-prepared c = are_columns true _ _ _ c.in-Ok.ensures.columns

pub returns-in-Ok-clause-rows : goal.returns-in-Ok-clause-rows
returns-in-Ok-clause-rows c =
    let arrays = c.arrays-arrays.result.now in
    let columns = c.in-Ok.columns.items in
    let named = subst (λ (z : List Field). AreNamed (names_of z) (map array_type arrays) columns) c.as_slice.ensures c.in-Ok.ensures.columns in
    rows_are (names_of c.args.schema.fields) arrays c.args.chunk.now columns c.len.result c.arrays-arrays.ensures.arrays named
    (counted c.args.chunk.now c.len.result c.len.ensures.all c.len.ensures.none)
