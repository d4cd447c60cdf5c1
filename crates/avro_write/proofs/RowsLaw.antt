-- The rows of serializers of columns are the table of those columns.
use Rattle.std.proofs.Common.{◌≡◌, ◌∙◌, ℕ, zero, suc, ◌+◌, ◌<◌, ◌≤◌, List, [], ◌∷◌, ◌++◌, length, map, flat_map, refl, sym, subst, arith}
use Rattle.std.specs.List.{AllByRecursion, range_with_len}
use Rattle.std.proofs.lemmas.List.{length-map}
use Rattle.std.proofs.lemmas.List.FromFn.{length-range_with_len}
use Rattle.arrow_core.specs.declared.slot.Slot.{Slot}
use Rattle.arrow_core.specs.declared.slot.Slot.TheVariants as slot
use Rattle.arrow_array.specs.Slots.{slot_at}
use Rattle.avro_schema.specs.declared.schema.AvroField.{AvroField}
use Rattle.avro_schema.specs.Rows.{Rows}
use Rattle.avro_encode.specs.Listed.{PairsFieldsOf, plain_fields_of}
use Rattle.avro_encode.specs.Plain.{plain}
use Rattle.avro_write.specs.Laws.{ArePaired, RowsAreTable, RowsEncode, all_kept, plain_columns, plain_table, table_of}
use Rattle.avro_write.specs.Rows.{row}
use Rattle.avro_encode.proofs.ColumnItems.{item_is}
use Rattle.avro_write.proofs.TableLaw.{table_encodes}

-- the slots of a row
abbrev across : List (List Slot) → ℕ → List Slot
across columns i = map (λ slots. slot_at slots i) columns

row_is : (n i : ℕ) (fields : List AvroField) (columns : List (List Slot)) → i < n → ArePaired n fields columns → row i (plain_columns fields columns) ≡ plain_fields_of fields (across columns i)
row_is n i [] [] l h = refl
row_is n i [] (c ∷ columns) l h = absurd h
row_is n i (f ∷ fields) [] l h = absurd h
row_is n i (f ∷ fields) (c ∷ columns) l h = λ j. item_is (plain f.schema) c i (omega (arith, l, h.0.0)) j ++ row_is n i fields columns l h.1 j

row_pairs : (n i : ℕ) (fields : List AvroField) (columns : List (List Slot)) → i < n → ArePaired n fields columns → PairsFieldsOf fields (across columns i)
row_pairs n i [] [] l h = tt
row_pairs n i [] (c ∷ columns) l h = absurd h
row_pairs n i (f ∷ fields) [] l h = absurd h
row_pairs n i (f ∷ fields) (c ∷ columns) l h = (h.0.1 i slot.Null (omega (arith, l, h.0.0)), row_pairs n i fields columns l h.1)

module _ (n : ℕ) (fields : List AvroField) (columns : List (List Slot)) (h : ArePaired n fields columns) where
  rows_over : (a m : ℕ) → a + m ≤ n → flat_map (λ i. row i (plain_columns fields columns)) (range_with_len a m) ≡ plain_table fields (map (across columns) (range_with_len a m))
  rows_over a zero l = refl
  rows_over a (suc m) l = λ j. row_is n a fields columns (omega (arith, l)) h j ++ rows_over (a + 1) m (omega (arith, l)) j

  pairs_over : (a m : ℕ) → a + m ≤ n → AllByRecursion (PairsFieldsOf fields) (map (across columns) (range_with_len a m))
  pairs_over a zero l = tt
  pairs_over a (suc m) l = (row_pairs n a fields columns (omega (arith, l)) h, pairs_over (a + 1) m (omega (arith, l)))

pub rows_are_table : RowsAreTable
rows_are_table n fields columns h = rows_over n fields columns h 0 n (omega arith)

pub rows_encode : RowsEncode
rows_encode n fields columns h =
    let table = table_of n columns in
    let many : length table ≡ n = length-map (range_with_len 0 n) (across columns) ∙ length-range_with_len 0 n in
    let encoded : Rows (length table) fields (all_kept fields) (plain_table fields table) table = table_encodes fields table (pairs_over n fields columns h 0 n (omega arith)) in
    subst (λ (bytes : List ℕ). Rows n fields (all_kept fields) bytes table) (sym (rows_are_table n fields columns h)) (subst (λ k. Rows k fields (all_kept fields) (plain_table fields table) table) many encoded)
