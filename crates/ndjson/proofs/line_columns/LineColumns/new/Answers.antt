use Rattle.std.proofs.Common.{◌≡◌, ◌∙◌, true, false, sym, ap, List}
use Rattle.std.proofs.lemmas.Bool.{false≢true}
use Rattle.arrow_core.specs.declared.types.DataType.TheVariants as types
use Rattle.arrow_core.specs.declared.types.Field.{Field}
use Rattle.json_line.specs.Lines.{are_line_fields}
use Rattle.ndjson.specs.LineColumns.{is_readable}
use Rattle.ndjson.proofs.StoredTypes.{stored_readable}
use Rattle.ndjson.proofs.line_columns.LineColumns.new.Goals as goal

pub returns-in-None-clause-ok : goal.returns-in-None-clause-ok
returns-in-None-clause-ok c =
    let kept : (c.in-Some.fields.items ≡ c.args.fields.items) × (is_readable (types.Struct c.args.fields.items) ≡ true) = rw c.in-Some.is at c.in_ok-fields.ensures.ok in
    let readable = ap (λ (fs : List Field). is_readable (types.Struct fs)) (c.as_slice.ensures.value ∙ kept.0) ∙ kept.1 in
    let none : are_line_fields c.in_ok-stored.stored.items ≡ false = rw c.in-None.is at c.in_ok-lines.ensures.ok in
    absurd (false≢true (sym none ∙ stored_readable c.as_slice.result.now c.in_ok-stored.stored.items c.in_ok-stored.ensures.stored readable))
