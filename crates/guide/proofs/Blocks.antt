-- A block of the rows of columns.
use Rattle.std.proofs.Common.{◌≡◌, ◌∙◌, ℕ, ◌+◌, ◌<◌, ◌≤◌, List, [], ◌∷◌, ◌++◌, length, map, take, get_or, Result, Ok, Err, OnOk, refl, sym, ap, subst, add-one, take-suc, arith}
use Rattle.std.specs.List.{All}
use Rattle.std.proofs.lemmas.List.{length-map, length-take-le, map-append, take_all}
use Rattle.arrow_array.specs.declared.array.Array.{Array}
use Rattle.arrow_array.specs.Arrays.{array_slots}
use Rattle.arrow_core.specs.declared.error.Error.{Error}
use Rattle.arrow_core.specs.declared.slot.Slot.{Slot}
use Rattle.avro_container.specs.Canonical.{canonical_block}
use Rattle.avro_container.specs.File.{the_block}
use Rattle.avro_encode.specs.Pairs.{Pairs}
use Rattle.avro_encode.specs.Plain.{plain}
use Rattle.avro_schema.specs.Rows.{Rows}
use Rattle.avro_schema.specs.declared.schema.AvroField.{AvroField}
use Rattle.avro_write.specs.Laws.{ArePaired, all_kept, plain_columns, table_of}
use Rattle.avro_write.specs.Rows.{rows}
use Rattle.avro_write.specs.Serializing.{Serializing}
use Rattle.avro_write.proofs.RowsLaw.{rows_encode}
use Rattle.guide.specs.Written.{IsBlockOf}
use Rattle.guide.proofs.Slots.{map_take}

abbrev pub left_of : Serializing → List (List ℕ)
left_of s = s.left

abbrev pub slots_so_far : ℕ → List Array → List (List Slot)
slots_so_far k columns = map array_slots (take k columns)

take_more : {X : Type 0} (xs : List X) (k : ℕ) (x : X) → k < length xs → x ≡ get_or xs k x → take k xs ++ x ∷ [] ≡ take (k + 1) xs
take_more xs k x l at = ap (λ y. take k xs ++ y ∷ []) at ∙ sym (take-suc xs k x l) ∙ ap (λ n. take n xs) (sym (add-one k))

columns_push : (fields : List AvroField) (columns : List (List Slot)) (f : AvroField) (slots : List Slot) → length fields ≡ length columns
    → plain_columns (fields ++ f ∷ []) (columns ++ slots ∷ []) ≡ plain_columns fields columns ++ map (plain f.schema) slots ∷ []
columns_push [] [] f slots e = refl
columns_push [] (c ∷ columns) f slots e = absurd (omega (arith, e))
columns_push (g ∷ fields) [] f slots e = absurd (omega (arith, e))
columns_push (g ∷ fields) (c ∷ columns) f slots e = ap (λ (z : List (List (List ℕ))). map (plain g.schema) c ∷ z) (columns_push fields columns f slots (omega (arith, e)))

pair_push : (n : ℕ) (fields : List AvroField) (columns : List (List Slot)) (f : AvroField) (slots : List Slot) → ArePaired n fields columns → (length slots ≡ n) × All (Pairs f.schema) slots
    → ArePaired n (fields ++ f ∷ []) (columns ++ slots ∷ [])
pair_push n [] [] f slots h r = (r, tt)
pair_push n [] (c ∷ columns) f slots h r = absurd h
pair_push n (g ∷ fields) [] f slots h r = absurd h
pair_push n (g ∷ fields) (c ∷ columns) f slots h r = (h.0, pair_push n fields columns f slots h.1 r)

-- ---- one column more

module _ (fields : List AvroField) (columns : List Array) (k : ℕ) (f : AvroField) (a : Array) (same : length fields ≡ length columns) (within : k < length columns) (at : f ≡ get_or fields k f) (is : a ≡ get_or columns k a) where
  fields_more : take k fields ++ f ∷ [] ≡ take (k + 1) fields
  fields_more = take_more fields k f (omega (arith, same, within)) at

  slots_more : slots_so_far k columns ++ array_slots a ∷ [] ≡ slots_so_far (k + 1) columns
  slots_more = map_take array_slots columns k a within is

  as_long : length (take k fields) ≡ length (slots_so_far k columns)
  as_long = length-take-le k fields (omega (arith, same, within)) ∙ sym (length-map (take k columns) array_slots ∙ length-take-le k columns (omega (arith, within)))

  pub items_more : (made : List Serializing) (s : Serializing) → s.left ≡ map (plain f.schema) (array_slots a) → map left_of made ≡ plain_columns (take k fields) (slots_so_far k columns)
      → map left_of (made ++ s ∷ []) ≡ plain_columns (take (k + 1) fields) (slots_so_far (k + 1) columns)
  items_more made s left so =
      map-append left_of made (s ∷ []) ∙ (λ i. so i ++ left i ∷ [])
      ∙ sym (columns_push (take k fields) (slots_so_far k columns) f (array_slots a) as_long) ∙ (λ i. plain_columns (fields_more i) (slots_more i))

  pub paired_more : (n : ℕ) → length (array_slots a) ≡ n → All (Pairs f.schema) (array_slots a) → ArePaired n (take k fields) (slots_so_far k columns) → ArePaired n (take (k + 1) fields) (slots_so_far (k + 1) columns)
  paired_more n long pairs so =
      let pushed = pair_push n (take k fields) (slots_so_far k columns) f (array_slots a) so (long, pairs) in
      subst (λ (z : List (List Slot)). ArePaired n (take (k + 1) fields) z) slots_more
      (subst (λ (z : List AvroField). ArePaired n z (slots_so_far k columns ++ array_slots a ∷ [])) fields_more pushed)

-- ---- all columns

module _ (n : ℕ) (fields : List AvroField) (columns : List Array) (k : ℕ) (same : length fields ≡ length columns) (all : length columns ≤ k) where
  pub all_paired : ArePaired n (take k fields) (slots_so_far k columns) → ArePaired n fields (map array_slots columns)
  all_paired so =
      subst (λ (z : List Array). ArePaired n fields (map array_slots z)) (take_all k columns all)
      (subst (λ (z : List AvroField). ArePaired n z (slots_so_far k columns)) (take_all k fields (omega (arith, same, all))) so)

  pub all_items : (made : List Serializing) → map left_of made ≡ plain_columns (take k fields) (slots_so_far k columns) → map left_of made ≡ plain_columns fields (map array_slots columns)
  all_items made so = so ∙ (λ i. plain_columns (take_all k fields (omega (arith, same, all)) i) (map array_slots (take_all k columns all i)))

-- what was written is a block of the columns
pub block_of : (n : ℕ) (fields : List AvroField) (marker : List ℕ) (columns : List (List Slot)) (lefts : List (List (List ℕ))) (bytes : List ℕ) → ArePaired n fields columns → lefts ≡ plain_columns fields columns → bytes ≡ rows n lefts
    → IsBlockOf fields marker columns (canonical_block marker (the_block n bytes))
block_of n fields marker columns lefts bytes paired items is = record {
  rows = n;
  paired = paired;
  bytes = bytes;
  are_rows = subst (λ (z : List ℕ). Rows n fields (all_kept fields) z (table_of n columns)) (sym (is ∙ ap (rows n) items)) (rows_encode n fields columns paired);
  is_block = refl;
}

-- an answer Ok, after which the sink has it
pub block_written : {T : Type 0} (r : Result T Error) (A : List ℕ → Type 0) (n m : ℕ) (fields whole : List AvroField) (marker : List ℕ) (columns chunk : List Array) (lefts : List (List (List ℕ))) (bytes : List ℕ)
    → fields ≡ whole → columns ≡ chunk → m ≡ n → ArePaired n fields (map array_slots columns) → lefts ≡ plain_columns fields (map array_slots columns) → bytes ≡ rows n lefts
    → OnOk r (A (canonical_block marker (the_block m bytes))) → OnOk r ((block : List ℕ) × IsBlockOf whole marker (map array_slots chunk) block × A block)
block_written (Err e) A n m fields whole marker columns chunk lefts bytes fs cs number paired items is h = tt
block_written (Ok v) A n m fields whole marker columns chunk lefts bytes fs cs number paired items is h =
    let here = block_of n fields marker (map array_slots columns) lefts bytes paired items is in
    let counted = subst (λ (k : ℕ). IsBlockOf fields marker (map array_slots columns) (canonical_block marker (the_block k bytes))) (sym number) here in
    let of_root = subst (λ (z : List AvroField). IsBlockOf z marker (map array_slots columns) (canonical_block marker (the_block m bytes))) fs counted in
    (canonical_block marker (the_block m bytes), subst (λ (z : List Array). IsBlockOf whole marker (map array_slots z) (canonical_block marker (the_block m bytes))) cs of_root, h)

-- an array of a chunk has as many slots as the chunk has rows
pub long_at : (n k : ℕ) (columns chunk : List Array) (a : Array) → columns ≡ chunk → All (λ (x : Array). length (array_slots x) ≡ n) chunk → k < length columns → a ≡ get_or columns k a → length (array_slots a) ≡ n
long_at n k columns chunk a same all within at =
    ap (λ (x : Array). length (array_slots x)) at ∙ subst (λ (xs : List Array). All (λ (x : Array). length (array_slots x) ≡ n) xs) (sym same) all k a within

-- so has its serializer encodings left
pub left_at : (n : ℕ) (f : AvroField) (a : Array) (s : Serializing) → s.left ≡ map (plain f.schema) (array_slots a) → length (array_slots a) ≡ n → length s.left ≡ n
left_at n f a s left long = ap length left ∙ length-map (array_slots a) (plain f.schema) ∙ long
