use Rattle.std.proofs.Common.{ap, sym, ◌∙◌}
use Rattle.json_tree.specs.declared.value.Value.TheVariants as variant
use Rattle.json_columns.proofs.Refusing.{same_column}
use Rattle.json_columns.proofs.values.deserialize.Goals as goal

pub returns-in-Array-clause-column : goal.returns-in-Array-clause-column
returns-in-Array-clause-column c =
    same_column c.args.json.now c.as_slice.result.now c.args.data_type c.read_items.result (c.in-Array.is ∙ ap variant.Array (sym c.as_slice.ensures)) c.read_items.ensures.column
