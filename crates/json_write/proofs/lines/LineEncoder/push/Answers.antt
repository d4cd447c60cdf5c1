-- The lines by the columns are those by the names of the fields.
use Rattle.std.proofs.Common.{subst, sym, map, List, true}
use Rattle.arrow_core.specs.declared.types.Field.{Field}
use Rattle.arrow_array.specs.Arrays.{array_type}
use Rattle.json_text.specs.Columns.{AreColumns, AreNamed}
use Rattle.json_text.proofs.ColumnLemmas.{are_columns}
use Rattle.json_write.specs.Rows.{names_of}
use Rattle.json_write.proofs.LineLemmas.{lines_are}
use Rattle.json_write.proofs.RowLemmas.{counted}
use Rattle.json_write.proofs.lines.LineEncoder.push.Goals as goal

pub push_rows-requires-clause-columns : goal.push_rows-requires-clause-columns
push_rows-requires-clause-columns c =
    subst (AreColumns c.arrays-arrays.result.now) (sym c.as_slice-2.ensures.value) (are_columns true _ _ _ c.in_ok-columns.ensures.columns)

pub returns-clause-ok : goal.returns-clause-ok
returns-clause-ok c =
    let arrays = c.arrays-arrays.result.now in
    let columns = c.in_ok-columns.columns.items in
    let named = subst (λ (z : List Field). AreNamed (names_of z) (map array_type arrays) columns) c.as_slice.ensures c.in_ok-columns.ensures.columns in
    lines_are (names_of c.args.self.now.fields) arrays c.args.chunk.now columns _ c.len.result _ _ c.arrays-arrays.ensures.arrays c.as_slice-2.ensures.value named
    (counted c.args.chunk.now c.len.result c.len.ensures.all c.len.ensures.none) c.in_ok-push_rows.ensures.ok
