-- The rows of columns are those of the table that they are the columns of, and so are their lines.
use Rattle.std.proofs.Common.{◌≡◌, ◌∙◌, ℕ, zero, suc, ◌+◌, ◌<◌, ◌≤◌, Bool, true, false, List, [], ◌∷◌, ◌++◌, length, map, get_or, drop, All, codes, refl, sym, ap, add-one, arith}
use Rattle.std.specs.List.{flat_map, range_with_len}
use Rattle.std.proofs.lemmas.List.{length-map, get_or-map}
use Rattle.std.proofs.lemmas.List.Elements.{All-cons}
use Rattle.std.proofs.Math.Seq.{drop-cons}
use Rattle.arrow_core.specs.declared.slot.Slot.{Slot}
use Rattle.arrow_core.specs.declared.slot.Slot.TheVariants as slot
use Rattle.arrow_core.specs.declared.types.DataType.{DataType}
use Rattle.arrow_array.specs.declared.array.Array.{Array}
use Rattle.arrow_array.specs.Arrays.{array_slots}
use Rattle.arrow_array.specs.Slots.{slot_at}
use Rattle.json_write.specs.Rows.{row_object, lines, row_at, table_of, row_count}
use Rattle.avro_schema.specs.declared.schema.AvroField.{AvroField}
use Rattle.avro_schema.specs.Parts.{Many}
use Rattle.avro_schema.specs.Rows.{Pieces, Row, Rows, column}
use Rattle.avro_schema.specs.ValidBlock.{kept}
use Rattle.avro_schema.specs.Columns.{columns}

-- ---- rows of kept slots are as wide as fields are kept

abbrev pub AreWide : ℕ → List (List Slot) → Type 0
AreWide n = All (λ row. length row ≡ n)

row_wide : (fs : List AvroField) (keeps : List Bool) (bytes : List ℕ) (y : Pieces) → Row fs keeps bytes y → length y.slots ≡ length (kept fs keeps)
row_wide [] [] bytes y h = ap (λ (p : Pieces). length p.slots) h.1
row_wide [] (k ∷ keeps) bytes y h = absurd h
row_wide (f ∷ fs) [] bytes y h = absurd h
row_wide (f ∷ fs) (true ∷ keeps) bytes y h =
    ap (λ (p : Pieces). length p.slots) h.second.1 ∙ ap suc (row_wide fs keeps h.back h.second.0 h.second.2)
row_wide (f ∷ fs) (false ∷ keeps) bytes y h =
    ap (λ (p : Pieces). length p.slots) h.second.1 ∙ row_wide fs keeps h.back h.second.0 h.second.2

many_wide : (n : ℕ) (fs : List AvroField) (keeps : List Bool) (bytes : List ℕ) (ys : List Pieces) → Many (Row fs keeps) n bytes ys → AreWide (length (kept fs keeps)) (map (λ y. y.slots) ys)
many_wide zero fs keeps bytes ys h = λ k d lt. absurd (omega (arith, lt, ap (λ (zs : List Pieces). length (map (λ y. y.slots) zs)) h.1))
many_wide (suc n) fs keeps bytes ys h =
    let all = All-cons (λ (row : List Slot). length row ≡ length (kept fs keeps)) h.value.slots (map (λ (y : Pieces). y.slots) h.second.0) (row_wide fs keeps h.prefix h.value h.first) (many_wide n fs keeps h.back h.second.0 h.second.2) in
    rw h.second.1 all

pub rows_wide : (n : ℕ) (fs : List AvroField) (keeps : List Bool) (bytes : List ℕ) (table : List (List Slot)) → Rows n fs keeps bytes table → AreWide (length (kept fs keeps)) table
rows_wide n fs keeps bytes table r = rw r.told (many_wide n fs keeps bytes r.pieces r.encoded)

-- as many as are stated
many_count : (n : ℕ) (fs : List AvroField) (keeps : List Bool) (bytes : List ℕ) (ys : List Pieces) → Many (Row fs keeps) n bytes ys → length ys ≡ n
many_count zero fs keeps bytes ys h = ap length h.1
many_count (suc n) fs keeps bytes ys h = ap length h.second.1 ∙ ap suc (many_count n fs keeps h.back h.second.0 h.second.2)

-- ---- columns back into rows

-- a row is its slots one after another
row_again : (row : List Slot) (k n : ℕ) → k + n ≡ length row → map (λ (j : ℕ). get_or row j slot.Null) (range_with_len k n) ≡ drop k row
row_again row k zero h = none row k (omega (arith, h))
  where
    none : (xs : List Slot) (k : ℕ) → length xs ≤ k → [] ≡ drop k xs
    none [] zero h = refl
    none [] (suc k) h = refl
    none (x ∷ xs) zero h = absurd (omega (arith, h))
    none (x ∷ xs) (suc k) h = none xs k (omega (arith, h))
row_again row k (suc n) h =
    ap (λ (zs : List Slot). get_or row k slot.Null ∷ zs) (row_again row (k + 1) n (omega (arith, h)))
    ∙ ap (λ (j : ℕ). get_or row k slot.Null ∷ drop j row) (add-one k)
    ∙ sym (drop-cons row k slot.Null (omega (arith, h)))

mapped_twice : {A B C : Type 0} (f : A → B) (g : B → C) (xs : List A) → map g (map f xs) ≡ map (λ x. g (f x)) xs
mapped_twice f g [] = refl
mapped_twice f g (x ∷ xs) = ap (λ z. g (f x) ∷ z) (mapped_twice f g xs)

alike : {A B : Type 0} (f g : A → B) (xs : List A) → ((x : A) → f x ≡ g x) → map f xs ≡ map g xs
alike f g [] h = refl
alike f g (x ∷ xs) h = (λ i. h x i ∷ alike f g xs h i)

slot_of_column : (table : List (List Slot)) (i k : ℕ) → i < length table → slot_at (column table k) i ≡ get_or (get_or table i []) k slot.Null
slot_of_column table i k lt = get_or-map (λ (row : List Slot). get_or row k slot.Null) table i [] slot.Null lt

row_of_columns : (table : List (List Slot)) (m i : ℕ) → AreWide m table → i < length table → row_at (columns m table) i ≡ get_or table i []
row_of_columns table m i wide lt =
    mapped_twice (column table) (λ c. slot_at c i) (range_with_len 0 m)
    ∙ alike (λ k. slot_at (column table k) i) (λ k. get_or (get_or table i []) k slot.Null) (range_with_len 0 m) (λ k. slot_of_column table i k lt)
    ∙ row_again (get_or table i []) 0 m (omega (arith, wide i [] lt))

table_again : (table : List (List Slot)) (m i n : ℕ) → AreWide m table → i + n ≡ length table → table_of (columns m table) i n ≡ drop i table
table_again table m i zero wide h = none table i (omega (arith, h))
  where
    none : (xs : List (List Slot)) (k : ℕ) → length xs ≤ k → [] ≡ drop k xs
    none [] zero h = refl
    none [] (suc k) h = refl
    none (x ∷ xs) zero h = absurd (omega (arith, h))
    none (x ∷ xs) (suc k) h = none xs k (omega (arith, h))
table_again table m i (suc n) wide h =
    let lt : i < length table = omega (arith, h) in
    (λ j. row_of_columns table m i wide lt j ∷ table_again table m (suc i) n wide (omega (arith, h)) j)
    ∙ sym (drop-cons table i [] lt)

-- ---- lines

with_line_feeds : (f : List Slot → List ℕ) (table : List (List Slot)) → flat_map (λ row. row ++ codes "\n") (map f table) ≡ flat_map (λ row. f row ++ codes "\n") table
with_line_feeds f [] = refl
with_line_feeds f (row ∷ table) = ap (λ z. (f row ++ codes "\n") ++ z) (with_line_feeds f table)

first_column : (arrays : List Array) (m : ℕ) (table : List (List Slot)) → 0 < length arrays → map array_slots arrays ≡ columns m table → row_count arrays ≡ length table
first_column [] m table some e = absurd (omega (arith, some))
first_column (a ∷ arrays) zero table some e = absurd (omega (arith, ap length e))
first_column (a ∷ arrays) (suc m) table some e = ap length (first e) ∙ length-map table (λ (row : List Slot). get_or row 0 slot.Null)
  where
    first : {x y : List Slot} {xs ys : List (List Slot)} → x ∷ xs ≡ y ∷ ys → x ≡ y
    first q = cc

-- the objects of columns' rows, with a line feed after each, are the lines of their table
pub objects_are_lines : (names : List (List ℕ)) (types : List DataType) (arrays : List Array) (m : ℕ) (table : List (List Slot)) → 0 < length arrays → AreWide m table → map array_slots arrays ≡ columns m table
    → flat_map (λ row. row ++ codes "\n") (map (row_object names types) (table_of (map array_slots arrays) 0 (row_count arrays))) ≡ lines names types table
objects_are_lines names types arrays m table some wide e =
    let n = first_column arrays m table some e in
    ap (λ (cs : List (List Slot)). flat_map (λ row. row ++ codes "\n") (map (row_object names types) (table_of cs 0 (row_count arrays)))) e
    ∙ ap (λ (k : ℕ). flat_map (λ row. row ++ codes "\n") (map (row_object names types) (table_of (columns m table) 0 k))) n
    ∙ ap (λ (t : List (List Slot)). flat_map (λ row. row ++ codes "\n") (map (row_object names types) t)) (table_again table m 0 (length table) wide (omega arith))
    ∙ with_line_feeds (row_object names types) table
