-- The columns that are drawn are those of the table, and their encodings are its encoding.
use Rattle.std.proofs.Common.{◌≡◌, ◌∙◌, ℕ, zero, suc, ◌+◌, ◌<◌, ◌≤◌, List, [], ◌∷◌, length, map, pos, refl, sym, ap, subst, arith}
use Rattle.std.specs.List.{All, range_with_len}
use Rattle.std.proofs.lemmas.List.FromFn.{get_or-map-range_with_len, length-map-range_with_len}
use Rattle.arrow_core.specs.declared.slot.Slot.{Slot}
use Rattle.arrow_core.specs.declared.slot.Slot.TheVariants as slot
use Rattle.arrow_array.specs.Slots.{slot_at}
use Rattle.avro_schema.specs.declared.schema.Schema.{Schema}
use Rattle.avro_schema.specs.Rows.{Rows}
use Rattle.avro_encode.specs.Pairs.{Pairs}
use Rattle.avro_encode.specs.Plain.{plain}
use Rattle.avro_write.specs.Laws.{ArePaired, all_kept, plain_columns, plain_table, table_of}
use Rattle.avro_write.specs.Rows.{rows}
use Rattle.avro_write.proofs.RowsLaw.{rows_are_table, rows_encode}
use Rattle.sample_rows.specs.Drawing.{before_row, user, tags, is_ok, drawn_row, drawn_table}
use Rattle.sample_rows.specs.Drawn.{ids, users, tag_lists, oks}
use Rattle.sample_rows.specs.Fields.{row_fields, id_field, user_field, tags_field, ok_field}

abbrev pub drawn_columns : ℕ → ℕ → List (List Slot)
drawn_columns start n = ids n ∷ users start n ∷ tag_lists start n ∷ oks start n ∷ []

-- the slot of row i, in a column of n rows
at : (f : ℕ → Slot) (n i : ℕ) → i < n → slot_at (map f (range_with_len 0 n)) i ≡ f i
at f n i l = get_or-map-range_with_len f 0 n i i slot.Null l (omega arith)

row_is : (start n i : ℕ) → i < n → map (λ slots. slot_at slots i) (drawn_columns start n) ≡ drawn_row start i
row_is start n i l =
    λ j. at (λ k. slot.Integer (pos k)) n i l j ∷ at (λ k. user (before_row start k)) n i l j ∷ at (λ k. slot.List (tags (before_row start k))) n i l j ∷ at (λ k. is_ok (before_row start k)) n i l j ∷ []

rows_over : (start n a m : ℕ) → a + m ≤ n → map (λ i. map (λ slots. slot_at slots i) (drawn_columns start n)) (range_with_len a m) ≡ map (drawn_row start) (range_with_len a m)
rows_over start n a zero l = refl
rows_over start n a (suc m) l = λ j. row_is start n a (omega (arith, l)) j ∷ rows_over start n (a + 1) m (omega (arith, l)) j

pub table_is : (start n : ℕ) → table_of n (drawn_columns start n) ≡ drawn_table start n
table_is start n = rows_over start n 0 n (omega arith)

-- what serializers of the columns show is the encoding of the table
module _ (start n : ℕ) (s t u v : Schema) (cs ds es fs : List Slot) (xs ys zs ws : List (List ℕ))
    (s_is : s ≡ id_field.schema) (t_is : t ≡ user_field.schema) (u_is : u ≡ tags_field.schema) (v_is : v ≡ ok_field.schema)
    (cs_are : cs ≡ ids n) (ds_are : ds ≡ users start n) (es_are : es ≡ tag_lists start n) (fs_are : fs ≡ oks start n)
    (xs_are : xs ≡ map (plain s) cs) (ys_are : ys ≡ map (plain t) ds) (zs_are : zs ≡ map (plain u) es) (ws_are : ws ≡ map (plain v) fs)
    (cs_pair : All (Pairs s) cs) (ds_pair : All (Pairs t) ds) (es_pair : All (Pairs u) es) (fs_pair : All (Pairs v) fs) where
  pairs : {a b : Schema} {gs hs : List Slot} → a ≡ b → gs ≡ hs → All (Pairs a) gs → All (Pairs b) hs
  pairs {a} {b} {gs} {hs} e d h = subst (λ (w : Schema × List Slot). All (Pairs w.0) w.1) (λ i. (e i, d i)) h

  paired : ArePaired n row_fields (drawn_columns start n)
  unfolding row_fields
  paired = (
    (length-map-range_with_len (λ k. slot.Integer (pos k)) 0 n, pairs s_is cs_are cs_pair),
    (
      (length-map-range_with_len (λ k. user (before_row start k)) 0 n, pairs t_is ds_are ds_pair),
      (
        (length-map-range_with_len (λ k. slot.List (tags (before_row start k))) 0 n, pairs u_is es_are es_pair),
        (
          (length-map-range_with_len (λ k. is_ok (before_row start k)) 0 n, pairs v_is fs_are fs_pair),
          tt,
        ),
      ),
    ),
  )

  columns_are : xs ∷ ys ∷ zs ∷ ws ∷ [] ≡ plain_columns row_fields (drawn_columns start n)
  unfolding row_fields
  columns_are =
      λ i. (xs_are ∙ (λ j. map (plain (s_is j)) (cs_are j))) i ∷ (ys_are ∙ (λ j. map (plain (t_is j)) (ds_are j))) i
      ∷ (zs_are ∙ (λ j. map (plain (u_is j)) (es_are j))) i ∷ (ws_are ∙ (λ j. map (plain (v_is j)) (fs_are j))) i ∷ []

  pub bytes_are : rows n (xs ∷ ys ∷ zs ∷ ws ∷ []) ≡ plain_table row_fields (drawn_table start n)
  bytes_are =
      ap (rows n) columns_are ∙ rows_are_table n row_fields (drawn_columns start n) paired ∙ ap (plain_table row_fields) (table_is start n)

  pub rows_are : Rows n row_fields (all_kept row_fields) (rows n (xs ∷ ys ∷ zs ∷ ws ∷ [])) (drawn_table start n)
  rows_are =
      subst (λ (cs : List (List (List ℕ))). Rows n row_fields (all_kept row_fields) (rows n cs) (drawn_table start n)) (sym columns_are)
      (subst (λ (t : List (List Slot)). Rows n row_fields (all_kept row_fields) (rows n (plain_columns row_fields (drawn_columns start n))) t) (table_is start n)
      (rows_encode n row_fields (drawn_columns start n) paired))

-- as many are left as there are rows
pub many_left : (n : ℕ) (s : Schema) (f : ℕ → Slot) (cs : List Slot) (xs : List (List ℕ)) → xs ≡ map (plain s) cs → cs ≡ map f (range_with_len 0 n) → length xs ≡ n
many_left n s f cs xs e d = ap length (e ∙ ap (map (plain s)) d) ∙ lengths n 0
  where
    lengths : (m a : ℕ) → length (map (plain s) (map f (range_with_len a m))) ≡ m
    lengths zero a = refl
    lengths (suc m) a = ap suc (lengths m (a + 1))
