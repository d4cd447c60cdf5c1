-- The rows of columns' canonical encodings are those of their table.
use Rattle.std.proofs.Common.{◌≡◌, ◌∙◌, ℕ, zero, suc, ◌+◌, List, [], ◌∷◌, ◌++◌, length, map, flat_map, drop, get_or, slice_index_or, refl, sym, ap, arith, add-one}
use Rattle.std.proofs.Math.Seq.{drop-cons}
use Rattle.std.specs.List.{AllByRecursion, range_with_len}
use Rattle.arrow_core.specs.declared.slot.Slot.{Slot}
use Rattle.arrow_core.specs.declared.slot.Slot.TheVariants as slot
use Rattle.avro_schema.specs.declared.schema.AvroField.{AvroField}
use Rattle.avro_schema.specs.Rows.{column}
use Rattle.avro_encode.specs.Listed.{plain_fields_of}
use Rattle.avro_encode.specs.Plain.{plain}
use Rattle.avro_write.specs.Laws.{plain_table}
use Rattle.avro_write.specs.Rows.{row, rows}
use Rattle.avro_canonical.specs.Columns.{encodings}

-- the columns of a table from one on
abbrev columns_from : ℕ → ℕ → List (List Slot) → List (List Slot)
columns_from k n table = map (column table) (range_with_len k n)

first_row : (fields : List AvroField) (k : ℕ) (xs : List Slot) (table : List (List Slot)) → k + length fields ≡ length xs → row 0 (encodings fields (columns_from k (length fields) (xs ∷ table))) ≡ plain_fields_of fields (drop k xs)
first_row [] k xs table e = refl
first_row (f ∷ fields) k xs table e =
    ap (λ (z : List ℕ). plain f.schema (get_or xs k slot.Null) ++ z) (first_row fields (k + 1) xs table (omega (arith, e)) ∙ ap (λ n. plain_fields_of fields (drop n xs)) (add-one k))
    ∙ sym (ap (plain_fields_of (f ∷ fields)) (drop-cons xs k slot.Null (omega (arith, e))))

-- a later row is a row of the rest of the table
later_row : (fields : List AvroField) (k n i : ℕ) (xs : List Slot) (table : List (List Slot)) → row (suc i) (encodings fields (columns_from k n (xs ∷ table))) ≡ row i (encodings fields (columns_from k n table))
later_row [] k n i xs table = refl
later_row (f ∷ fields) k zero i xs table = refl
later_row (f ∷ fields) k (suc n) i xs table = ap (λ (z : List ℕ). slice_index_or (map (plain f.schema) (column table k)) i [] ++ z) (later_row fields (k + 1) n i xs table)

later_rows : (fields : List AvroField) (n : ℕ) (xs : List Slot) (table : List (List Slot)) (a m : ℕ)
    → flat_map (λ i. row i (encodings fields (columns_from 0 n (xs ∷ table)))) (range_with_len (a + 1) m) ≡ flat_map (λ i. row i (encodings fields (columns_from 0 n table))) (range_with_len a m)
later_rows fields n xs table a zero = refl
later_rows fields n xs table a (suc m) =
    let first : row (a + 1) (encodings fields (columns_from 0 n (xs ∷ table))) ≡ row a (encodings fields (columns_from 0 n table)) = ap (λ j. row j (encodings fields (columns_from 0 n (xs ∷ table)))) (add-one a) ∙ later_row fields 0 n a xs table in
    λ i. first i ++ later_rows fields n xs table (a + 1) m i

pub rows_are : (fields : List AvroField) (table : List (List Slot)) → AllByRecursion (λ xs. length xs ≡ length fields) table → rows (length table) (encodings fields (columns_from 0 (length fields) table)) ≡ plain_table fields table
rows_are fields [] h = refl
rows_are fields (xs ∷ table) h =
    (λ i. first_row fields 0 xs table (omega (arith, h.0)) i ++ later_rows fields (length fields) xs table 0 (length table) i)
    ∙ ap (λ (z : List ℕ). plain_fields_of fields xs ++ z) (rows_are fields table h.1)
