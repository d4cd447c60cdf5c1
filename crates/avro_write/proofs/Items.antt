-- The items of columns, one by one and row by row.
use Rattle.std.proofs.Common.{◌≡◌, ℕ, zero, suc, ◌+◌, ◌<◌, ◌≤◌, List, [], ◌∷◌, ◌++◌, length, take, drop, map, set, flat_map, slice_index_or, refl, sym, ap, ◌∙◌, arith, add-one, append_assoc, get_or-drop, length-drop}
use Rattle.std.specs.List.{concat, range_with_len}
use Rattle.std.proofs.lemmas.Grind.{flat_map-append}
use Rattle.std.proofs.lemmas.List.{append-nil}
use Rattle.std.proofs.lemmas.List.Concat.{concat_is}
use Rattle.avro_write.specs.Rows.{row, rows}
use Rattle.avro_write.specs.Serializing.{Serializing}

-- what a serializer has still to append
abbrev pub left_of : Serializing → List (List ℕ)
left_of s = s.left

-- ---- one column

items_none : (xs : List (List ℕ)) (n : ℕ) → length xs ≤ n → drop n xs ≡ []
items_none [] zero l = refl
items_none [] (suc n) l = refl
items_none (x ∷ xs) zero l = absurd (omega (arith, l))
items_none (x ∷ xs) (suc n) l = items_none xs n (omega (arith, l))

items_more : (xs : List (List ℕ)) (n : ℕ) → n < length xs → drop n xs ≡ slice_index_or xs n [] ∷ drop (suc n) xs
items_more [] n l = absurd (omega (arith, l))
items_more (x ∷ xs) zero l = refl
items_more (x ∷ xs) (suc n) l = items_more xs n (omega (arith, l))

-- the index of an item lies within the column
pub item_within : (xs : List (List ℕ)) (n k : ℕ) → k < length (drop n xs) → n + k < length xs
item_within xs n k l = omega (arith, l, length-drop n xs)

pub item_at : (xs : List (List ℕ)) (n k : ℕ) → k < length (drop n xs) → slice_index_or xs (n + k) [] ≡ slice_index_or (drop n xs) k []
item_at xs n k l = sym (get_or-drop n xs k [])

-- ---- several

more : {S : Type 0} (g : S → List ℕ) (xs : List S) (k : ℕ) (d : S) → k < length xs → flat_map g (take (suc k) xs) ≡ flat_map g (take k xs) ++ g (slice_index_or xs k d)
more g [] k d l = absurd (omega (arith, l))
more g (x ∷ xs) zero d l = append-nil (g x)
more g (x ∷ xs) (suc k) d l = ap (λ (z : List ℕ). g x ++ z) (more g xs k d (omega (arith, l))) ∙ sym (append_assoc (g x) (flat_map g (take k xs)) (g (slice_index_or xs k d)))

-- one more item of a row was appended
pub row_step : {S : Type 0} (g : S → List ℕ) (xs : List S) (k : ℕ) (d : S) (old now next : List ℕ) → k < length xs → d ≡ slice_index_or xs k d → now ≡ old ++ flat_map g (take k xs) → next ≡ now ++ g d
    → next ≡ old ++ flat_map g (take (k + 1) xs)
row_step g xs k d old now next l e f h =
    h ∙ (λ j. f j ++ g (e j)) ∙ append_assoc old (flat_map g (take k xs)) (g (slice_index_or xs k d))
    ∙ ap (λ (z : List ℕ). old ++ z) (sym (more g xs k d l) ∙ ap (λ j. flat_map g (take j xs)) (sym (add-one k)))

whole : {S : Type 0} (xs : List S) (k : ℕ) → length xs ≤ k → take k xs ≡ xs
whole [] zero l = refl
whole [] (suc k) l = refl
whole (x ∷ xs) zero l = absurd (omega (arith, l))
whole (x ∷ xs) (suc k) l = ap (λ ys. x ∷ ys) (whole xs k (omega (arith, l)))

over_map : {S : Type 0} (f : S → List (List ℕ)) (g : List (List ℕ) → List ℕ) (xs : List S) → flat_map g (map f xs) ≡ flat_map (λ s. g (f s)) xs
over_map f g [] = refl
over_map f g (x ∷ xs) = ap (λ (z : List ℕ). g (f x) ++ z) (over_map f g xs)

-- the whole row was
pub row_whole : {S : Type 0} (f : S → List (List ℕ)) (xs : List S) (i k : ℕ) (old now : List ℕ) → length xs ≤ k → now ≡ old ++ flat_map (λ s. slice_index_or (f s) i []) (take k xs) → now ≡ old ++ row i (map f xs)
row_whole f xs i k old now l e =
    e ∙ ap (λ (z : List ℕ). old ++ z) (ap (flat_map (λ s. slice_index_or (f s) i [])) (whole xs k l) ∙ sym (over_map f (λ column. slice_index_or column i []) xs))

counting : (a n : ℕ) → range_with_len a (suc n) ≡ range_with_len a n ++ (a + n) ∷ []
counting a zero = let same : a ≡ a + 0 = omega arith in ap (λ k. k ∷ []) same
counting a (suc n) = let same : (a + 1) + n ≡ a + suc n = omega arith in ap (λ ks. a ∷ ks) (counting (a + 1) n ∙ ap (λ k. range_with_len (a + 1) n ++ k ∷ []) same)

rows_more : (i : ℕ) (columns : List (List (List ℕ))) → rows (i + 1) columns ≡ rows i columns ++ row i columns
rows_more i columns =
    let same : 0 + i ≡ i = omega arith in
    ap (λ n. rows n columns) (add-one i) ∙ ap (flat_map (λ k. row k columns)) (counting 0 i) ∙ flat_map-append (λ k. row k columns) (range_with_len 0 i) ((0 + i) ∷ [])
    ∙ ap (λ (z : List ℕ). rows i columns ++ z) (append-nil (row (0 + i) columns) ∙ ap (λ k. row k columns) same)

-- one more row was
pub rows_step : (columns : List (List (List ℕ))) (i : ℕ) (old now next : List ℕ) → now ≡ old ++ rows i columns → next ≡ now ++ row i columns → next ≡ old ++ rows (i + 1) columns
rows_step columns i old now next e f =
    f ∙ ap (λ (z : List ℕ). z ++ row i columns) e ∙ append_assoc old (rows i columns) (row i columns) ∙ ap (λ (z : List ℕ). old ++ z) (sym (rows_more i columns))

rows_of_one : (xs : List (List ℕ)) (n : ℕ) → n ≤ length xs → rows n (xs ∷ []) ≡ flat_map (λ z. z) (take n xs)
rows_of_one [] zero l = refl
rows_of_one (x ∷ xs) zero l = refl
rows_of_one xs (suc n) l =
    ap (λ k. rows k (xs ∷ [])) (sym (add-one n)) ∙ rows_more n (xs ∷ [])
    ∙ (λ j. rows_of_one xs n (omega (arith, l)) j ++ append-nil (slice_index_or xs n []) j) ∙ sym (more (λ z. z) xs n [] (omega (arith, l)))

sole : {S : Type 0} (xs : List S) (s : S) → s ≡ slice_index_or xs 0 s → 1 ≤ length xs → length xs < 2 → xs ≡ s ∷ []
sole [] s e l m = absurd (omega (arith, l))
sole (x ∷ []) s e l m = ap (λ y. y ∷ []) (sym e)
sole (x ∷ y ∷ xs) s e l m = absurd (omega (arith, m))

-- the rows of one column are its items
pub one_column : {S : Type 0} (f : S → List (List ℕ)) (xs : List S) (s : S) (count : ℕ) (old now : List ℕ) → s ≡ slice_index_or xs 0 s → 1 ≤ length xs → length xs < 2 → length (f s) ≡ count → now ≡ old ++ concat (f s)
    → now ≡ old ++ rows count (map f xs)
one_column f xs s count old now is l m n e =
    let all : rows (length (f s)) (f s ∷ []) ≡ concat (f s) =
    rows_of_one (f s) (length (f s)) (omega arith) ∙ ap (flat_map (λ z. z)) (whole (f s) (length (f s)) (omega arith)) ∙ sym (concat_is (f s)) in
    e ∙ ap (λ (z : List ℕ). old ++ z) (sym all ∙ ap (λ k. rows k (f s ∷ [])) n ∙ ap (λ ys. rows count (map f ys)) (sym (sole xs s is l m)))

-- one more column has no item left
pub ended_more : {S : Type 0} (f : S → List (List ℕ)) (xs : List S) (k : ℕ) (s : S) → k < length xs → f s ≡ [] → ((j : ℕ) (d : S) → j < k → f (slice_index_or xs j d) ≡ [])
    → (j : ℕ) (d : S) → j < suc k → f (slice_index_or (set xs k s) j d) ≡ []
ended_more f [] k s l e h j d m = absurd (omega (arith, l))
ended_more f (x ∷ xs) zero s l e h zero d m = e
ended_more f (x ∷ xs) zero s l e h (suc j) d m = absurd (omega (arith, m))
ended_more f (x ∷ xs) (suc k) s l e h zero d m = h 0 d (omega arith)
ended_more f (x ∷ xs) (suc k) s l e h (suc j) d m = ended_more f xs k s (omega (arith, l)) e (λ i b n. h (suc i) b (omega (arith, n))) j d (omega (arith, m))
