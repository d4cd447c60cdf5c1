-- The column is added, and then those within it.
use Rattle.std.proofs.Common.{◌∙◌, ap, length, List}
use Rattle.json_text.specs.declared.columns.Column.{Column}
use Rattle.json_text.specs.Columns.{key_of}
use Rattle.json_text.proofs.ColumnLemmas.{column_added}
use Rattle.std.specs.Prelude.{◌==◌}
use Rattle.json_text.proofs.columns.add_column.Goals as goal

pub returns : goal.returns
returns c =
    let key = c.in_ok-key.ensures ∙ ap (λ b. key_of b c.args.name.now) (c.is_empty.ensures ∙ ap (λ (xs : List Column). length xs == 0) c.as_slice.ensures.value) in
    let within = ap (λ (xs : List Column). length xs) c.as_slice-2.ensures.value in
    record { ok = column_added c.append.result c.args.name.now c.args.data_type.now _ _ _ _ _ c.in_ok-push.ensures.items c.append.ensures.items key within c.integer_form.ensures c.requires }
