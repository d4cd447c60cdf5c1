-- The columns that are read are those of the table.
use Rattle.std.proofs.Common.{◌≡◌, ◌∙◌, ℕ, zero, suc, ◌+◌, ◌<◌, List, [], ◌∷◌, length, map, get_or, Bool, true, false, Result, Ok, Err, IfOk, MatchResult, refl, sym, ap, subst}
use Rattle.std.specs.List.{range_with_len}
use Rattle.std.proofs.lemmas.List.{get_or-map}
use Rattle.arrow_core.specs.declared.slot.Slot.{Slot}
use Rattle.arrow_core.specs.declared.slot.Slot.TheVariants as slot
use Rattle.arrow_array.specs.declared.array.Array.{Array}
use Rattle.arrow_core.specs.declared.error.Error.{Error}
use Rattle.arrow_core.specs.declared.error.Error.TheVariants.{OutOfMemory}
use Rattle.arrow_array.specs.Arrays.{array_slots}
use Rattle.avro_schema.specs.declared.schema.AvroField.{AvroField}
use Rattle.avro_schema.specs.Laws.{narrowed}
use Rattle.avro_schema.specs.Rows.{Rows, column}
use Rattle.avro_schema.specs.ValidBlock.{kept}
use Rattle.avro_schema.proofs.RowLaws.{same_table, narrower}
use Rattle.avro_schema.specs.Columns.{AreColumns, columns}
use Rattle.avro_write.specs.Laws.{all_kept}
use Rattle.sample_rows.specs.Drawing.{drawn_row, drawn_table}
use Rattle.sample_rows.specs.Fields.{row_fields}

pub columns_are : (n : ℕ) (fields : List AvroField) (keeps : List Bool) (bytes : List ℕ) (cs table : List (List Slot)) → Rows n fields keeps bytes table → AreColumns n fields keeps bytes cs
    → cs ≡ columns (length (kept fields keeps)) table
columns_are n fields keeps bytes cs table given (t, rows, count, is) = is ∙ (λ i. columns (count i) (same_table n fields keeps bytes t table rows given i))

-- the same of an answer of the decoder, where memory doesn't run out
pub chunk_columns : (r q : Result (List Array) Error) (n : ℕ) (fields : List AvroField) (keeps : List Bool) (bytes : List ℕ) → MatchResult r (λ v. q ≡ Ok v) (λ e. q ≡ Err OutOfMemory)
    → IfOk r (λ chunk. AreColumns n fields keeps bytes (map array_slots chunk)) → (table : List (List Slot)) → Rows n fields keeps bytes table
    → IfOk q (λ chunk. map array_slots chunk ≡ columns (length (kept fields keeps)) table)
chunk_columns (Ok v) q n fields keeps bytes m h table rows =
    subst (λ z. IfOk z (λ chunk. map array_slots chunk ≡ columns (length (kept fields keeps)) table)) (sym m) (columns_are n fields keeps bytes (map array_slots v) table rows h)
chunk_columns (Err e) q n fields keeps bytes m h table rows = subst (λ z. IfOk z (λ chunk. map array_slots chunk ≡ columns (length (kept fields keeps)) table)) (sym m) tt

-- ids and booleans alone
abbrev pub some_kept : List Bool
some_kept = true ∷ false ∷ false ∷ true ∷ []

abbrev pub of_kept : List Slot → List Slot
of_kept = narrowed (true ∷ true ∷ true ∷ true ∷ []) some_kept

pub kept_rows : (n : ℕ) (bytes : List ℕ) (table : List (List Slot)) → Rows n row_fields (all_kept row_fields) bytes table → Rows n row_fields some_kept bytes (map of_kept table)
unfolding row_fields
kept_rows n bytes table rows = narrower n row_fields (all_kept row_fields) some_kept bytes table tt rows

ids_over : (start a m : ℕ) → column (map of_kept (map (drawn_row start) (range_with_len a m))) 0 ≡ column (map (drawn_row start) (range_with_len a m)) 0
ids_over start a zero = refl
ids_over start a (suc m) = ap (λ (xs : List Slot). get_or (drawn_row start a) 0 slot.Null ∷ xs) (ids_over start (a + 1) m)

oks_over : (start a m : ℕ) → column (map of_kept (map (drawn_row start) (range_with_len a m))) 1 ≡ column (map (drawn_row start) (range_with_len a m)) 3
oks_over start a zero = refl
oks_over start a (suc m) = ap (λ (xs : List Slot). get_or (drawn_row start a) 3 slot.Null ∷ xs) (oks_over start (a + 1) m)

pub kept_ids : (start n : ℕ) → column (map of_kept (drawn_table start n)) 0 ≡ column (drawn_table start n) 0
kept_ids start n = ids_over start 0 n

pub kept_oks : (start n : ℕ) → column (map of_kept (drawn_table start n)) 1 ≡ column (drawn_table start n) 3
kept_oks start n = oks_over start 0 n

-- ---- the columns, by their indexes

pub part : (arrays : List Array) (cs : List (List Slot)) (k : ℕ) (a : Array) → map array_slots arrays ≡ cs → k < length arrays → a ≡ get_or arrays k a → array_slots a ≡ get_or cs k (array_slots a)
part arrays cs k a e l at = ap array_slots at ∙ sym (get_or-map array_slots arrays k a (array_slots a) l) ∙ ap (λ (z : List (List Slot)). get_or z k (array_slots a)) e

-- with all fields kept, and with ids and booleans alone
pub all_columns : (table : List (List Slot)) → columns (length (kept row_fields (true ∷ true ∷ true ∷ true ∷ []))) table ≡ column table 0 ∷ column table 1 ∷ column table 2 ∷ column table 3 ∷ []
unfolding row_fields
all_columns table = refl

pub some_columns : (table : List (List Slot)) → columns (length (kept row_fields some_kept)) table ≡ column table 0 ∷ column table 1 ∷ []
unfolding row_fields
some_columns table = refl

pub all_are_kept : all_kept row_fields ≡ true ∷ true ∷ true ∷ true ∷ []
unfolding row_fields
all_are_kept = refl
