-- Each turn adds a column.
use Rattle.std.proofs.Common.{◌∙◌, ap, sym, arith}
use Rattle.arrow_core.specs.declared.types.Field.{Field}
use Rattle.json_text.proofs.ColumnLemmas.{one_more_column}
use Rattle.json_write.proofs.keys.make_columns.Goals as goal

pub loop-k-preserved : goal.loop-k-preserved
loop-k-preserved c =
    one_more_column c.args.fields.now c.args.arrays.now c.loop-k.k c.index-fields-k.result c.index-arrays-k.result _ _ _ _ (omega (arith, c.requires)) c.index-fields-k.is (omega arith) c.index-arrays-k.is
    (c.as_str-name.ensures ∙ ap (λ (f : Field). f.name) (sym c.index-fields-k.is)) c.data_type.ensures.data_type c.loop-k.invariant c.in_ok-push_column.ensures.ok
