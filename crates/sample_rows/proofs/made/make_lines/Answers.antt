use Rattle.std.proofs.Common.{◌≡◌, ◌∙◌, ℕ, List, length, map, sum, IfOk, ap, sym, subst}
use Rattle.avro_schema.specs.Rows.{Rows}
use Rattle.avro_write.specs.Laws.{all_kept}
use Rattle.sample_rows.specs.Drawing.{drawn_table}
use Rattle.sample_rows.specs.Fields.{row_fields}
use Rattle.sample_rows.proofs.Making.{made_text}
use Rattle.sample_rows.proofs.Reading.{kept_rows, of_kept}
use Rattle.sample_rows.proofs.made.make_lines.Goals as goal

pub returns-clause-lines : goal.returns-clause-lines
returns-clause-lines c =
    let block = c.in_ok-block.block in
    let table = drawn_table c.args.start c.args.rows in
    let rows : Rows block.number_of_rows row_fields (all_kept row_fields) block.bytes table =
    subst (λ n. Rows n row_fields (all_kept row_fields) block.bytes table) (sym c.in_ok-block.ensures.number) c.in_ok-block.ensures.rows in
    let whole = c.in_ok-totals.ensures.totals table rows in
    let some = c.in_ok-kept.ensures.totals (map of_kept table) (kept_rows block.number_of_rows block.bytes table rows) in
    subst (λ (z : List ℕ). IfOk c.write_lines.result (λ text. text.items ≡ z))
    (made_text c.args.start c.args.rows _ _ _ _ _ _ _ _ block.bytes c.in_ok-block.ensures.bytes (ap length c.as_slice-bytes.ensures) (c.in_ok-sum_of.ensures.sum ∙ ap sum c.as_slice-bytes.ensures) whole some)
    c.write_lines.ensures.lines
