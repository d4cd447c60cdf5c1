-- The lines of what was drawn, encoded and read.
use Rattle.std.proofs.Common.{◌≡◌, ◌∙◌, ℕ, List, ◌++◌, length, map, sum, sym, ap}
use Rattle.arrow_core.specs.declared.slot.Slot.{Slot}
use Rattle.avro_schema.specs.Rows.{column}
use Rattle.avro_write.specs.Laws.{plain_table}
use Rattle.sample_rows.specs.Drawing.{drawn_table}
use Rattle.sample_rows.specs.Fields.{row_fields}
use Rattle.sample_rows.specs.Made.{column_lines, encoding_lines, kept_line, made_lines}
use Rattle.sample_rows.specs.Totals.{total}
use Rattle.sample_rows.specs.declared.totals.Measure.TheVariants as measure
use Rattle.sample_rows.proofs.Reading.{kept_ids, kept_oks, of_kept}

pub made_text : (start n len all ids users tags oks some_ids some_oks : ℕ) (bytes : List ℕ) → bytes ≡ plain_table row_fields (drawn_table start n) → len ≡ length bytes → all ≡ sum bytes
    → (ids ≡ total measure.Number (column (drawn_table start n) 0)) × (users ≡ total measure.Held (column (drawn_table start n) 1)) × (tags ≡ total measure.Items (column (drawn_table start n) 2)) × (oks ≡ total measure.Trues (column (drawn_table start n) 3))
    → (some_ids ≡ total measure.Number (column (map of_kept (drawn_table start n)) 0)) × (some_oks ≡ total measure.Trues (column (map of_kept (drawn_table start n)) 1))
    → encoding_lines n len all ++ (column_lines ids users tags oks ++ kept_line some_ids some_oks) ≡ made_lines start n
unfolding made_lines
made_text start n len all ids users tags oks some_ids some_oks bytes is size adds whole some =
    let l = size ∙ ap length is in
    let a = adds ∙ ap sum is in
    let x = some.0 ∙ ap (total measure.Number) (kept_ids start n) in
    let y = some.1 ∙ ap (total measure.Trues) (kept_oks start n) in
    λ i. encoding_lines n (l i) (a i) ++ (column_lines (whole.0 i) (whole.1 i) (whole.2 i) (whole.3 i) ++ kept_line (x i) (y i))
