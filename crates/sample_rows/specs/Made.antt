-- What `avrocat make` prints: of rows that are drawn, how many they are, the length of their encodings and the sum of
-- its bytes, and what their columns add up to.
use Rattle.std.specs.Prelude.{ℕ, List, ◌++◌, length, sum, codes, decimal}
use Rattle.arrow_core.specs.declared.slot.Slot.{Slot}
use Rattle.avro_schema.specs.Rows.{column}
use Rattle.avro_write.specs.Laws.{plain_table}
use Rattle.sample_rows.specs.Drawing.{drawn_table}
use Rattle.sample_rows.specs.Fields.{row_fields}
use Rattle.sample_rows.specs.Totals.{total}
use Rattle.sample_rows.specs.declared.totals.Measure.TheVariants as measure

-- a name and a number
abbrev pub entry : List ℕ → ℕ → List ℕ
entry name number = name ++ (codes " " ++ decimal number)

abbrev pub line : List ℕ → ℕ → List ℕ
line name number = entry name number ++ codes "\n"

-- how many rows there are, how many bytes, and the sum of these
abbrev pub encoding_lines : ℕ → ℕ → ℕ → List ℕ
encoding_lines rows bytes all = line (codes "rows") rows ++ (line (codes "bytes") bytes ++ line (codes "sum") all)

-- the sum of the ids, how many users aren't null, how many tags there are, and how many booleans are true
abbrev pub column_lines : ℕ → ℕ → ℕ → ℕ → List ℕ
column_lines ids users tags oks = line (codes "id") ids ++ (line (codes "user") users ++ (line (codes "tags") tags ++ line (codes "ok") oks))

-- of the rows read without users and tags, the sum of the ids and how many booleans are true
abbrev pub kept_line : ℕ → ℕ → List ℕ
kept_line ids oks = entry (codes "kept id") ids ++ (codes " " ++ line (codes "ok") oks)

-- the lines of n rows of this table, in this encoding
abbrev pub lines_of : ℕ → List ℕ → List (List Slot) → List ℕ
lines_of n bytes table =
    encoding_lines n (length bytes) (sum bytes)
    ++ (column_lines (total measure.Number (column table 0)) (total measure.Held (column table 1)) (total measure.Items (column table 2)) (total measure.Trues (column table 3))
    ++ kept_line (total measure.Number (column table 0)) (total measure.Trues (column table 3)))

-- the lines of n rows that are drawn from this state on, in their canonical encoding
unfoldable pub made_lines : ℕ → ℕ → List ℕ
made_lines start n = lines_of n (plain_table row_fields (drawn_table start n)) (drawn_table start n)
