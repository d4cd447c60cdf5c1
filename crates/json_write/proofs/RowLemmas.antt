-- The objects of columns under their names are the rows, one more at a time and all of them.
use Rattle.std.proofs.Common.{◌≡◌, ℕ, zero, suc, ◌+◌, ◌-◌, ◌<◌, List, [], ◌∷◌, ◌++◌, map, length, take, get_or, sym, ap, ◌∙◌, refl, add-one, arith, Option, Some, None, All}
use Rattle.arrow_array.specs.Slots.{slot_at}
use Rattle.arrow_core.specs.declared.error.Error.{Error}
use Rattle.arrow_array.specs.declared.array.Array.{Array}
use Rattle.arrow_array.specs.Arrays.{array_type, array_slots}
use Rattle.json_text.specs.declared.columns.Column.{Column}
use Rattle.json_text.specs.Columns.{AreNamed, columns_object}
use Rattle.json_text.specs.JsonText.{member, object, text}
use Rattle.json_text.specs.Refusals.{refusal}
use Rattle.json_write.specs.Rows.{texts, members, row_object, row_at, table_of, row_count, objects, first_refusal, first_of}
use Rattle.json_write.specs.Serializing.{column_rows}
use Rattle.json_text.proofs.ColumnLemmas.{named_members, object_is}

named_is : (names : List (List ℕ)) (arrays : List Array) (i : ℕ) → named_members names arrays i ≡ members names (texts (map array_type arrays) (row_at (map array_slots arrays) i))
named_is [] [] i = refl
named_is [] (a ∷ arrays) i = refl
named_is (n ∷ names) [] i = refl
named_is (n ∷ names) (a ∷ arrays) i = ap (λ z. member n (text (array_type a) (slot_at (array_slots a) i)) ∷ z) (named_is names arrays i)

-- a row by its columns is the row by its names
row_is : (names : List (List ℕ)) (arrays : List Array) (cs : List Column) (i : ℕ) → AreNamed names (map array_type arrays) cs → columns_object arrays cs i ≡ row_object names (map array_type arrays) (row_at (map array_slots arrays) i)
row_is names arrays cs i h = object_is names arrays cs i h ∙ ap object (named_is names arrays i)

rows_from : (names : List (List ℕ)) (arrays : List Array) (cs : List Column) (i n : ℕ) → AreNamed names (map array_type arrays) cs → column_rows arrays cs i n ≡ map (row_object names (map array_type arrays)) (table_of (map array_slots arrays) i n)
rows_from names arrays cs i zero h = refl
rows_from names arrays cs i (suc n) h = ap (λ z. z ∷ column_rows arrays cs (suc i) n) (row_is names arrays cs i h) ∙ ap (λ z. row_object names (map array_type arrays) (row_at (map array_slots arrays) i) ∷ z) (rows_from names arrays cs (suc i) n h)

-- all rows by their columns are those by their names
pub rows_are : (names : List (List ℕ)) (given arrays : List Array) (cs : List Column) (n : ℕ) → given ≡ arrays → AreNamed names (map array_type given) cs → n ≡ row_count arrays → column_rows given cs 0 (n - 0) ≡ objects names arrays
rows_are names given arrays cs n e h d =
    let whole : n - 0 ≡ n = omega arith in
    ap (λ m. column_rows given cs 0 m) (whole ∙ d) ∙ rows_from names given cs 0 (row_count arrays) h
    ∙ ap (λ z. map (row_object names (map array_type z)) (table_of (map array_slots z) 0 (row_count arrays))) e

-- as many rows as each column has slots
pub counted : (arrays : List Array) (n : ℕ) → All (λ a. length (array_slots a) ≡ n) arrays → (arrays ≡ [] → n ≡ 0) → n ≡ row_count arrays
counted [] n h k = k refl
counted (a ∷ arrays) n h k = sym (h 0 a (omega arith))

-- what was added to nothing is the row
pub row_made : (arrays : List Array) (given columns : List Column) (i : ℕ) (before now : List ℕ) → given ≡ columns → before ≡ []
    → now ≡ before ++ columns_object arrays given i → now ≡ columns_object arrays columns i
row_made arrays given columns i before now e b d = d ∙ ap (λ z. z ++ columns_object arrays given i) b ∙ ap (λ z. columns_object arrays z i) e

pub one_fewer : (at count : ℕ) → at < count → count - at ≡ suc (count - (at + 1))
one_fewer at count h = omega (arith, h)

-- the rows to come begin with the row
pub rows_begin : (arrays : List Array) (columns : List Column) (at count : ℕ) → at < count
    → column_rows arrays columns at (count - at) ≡ columns_object arrays columns at ∷ column_rows arrays columns (at + 1) (count - (at + 1))
rows_begin arrays columns at count h =
    ap (λ n. column_rows arrays columns at n) (one_fewer at count h) ∙ ap (λ k. columns_object arrays columns at ∷ column_rows arrays columns k (count - (at + 1))) (sym (add-one at))

-- while the row is to come, the rows to come aren't none
pub row_left : (arrays : List Array) (columns : List Column) (at count : ℕ) → at < count → column_rows arrays columns at (count - at) ≡ [] → ⊥
row_left arrays columns at count h none =
    let e : [] ≡ columns_object arrays columns at ∷ column_rows arrays columns (at + 1) (count - (at + 1)) = sym none ∙ rows_begin arrays columns at count h in
    cc

-- after the last row there is none to come
pub rows_none : (arrays : List Array) (columns : List Column) (at n : ℕ) → n ≡ 0 → column_rows arrays columns at n ≡ []
rows_none arrays columns at n e = ap (λ m. column_rows arrays columns at m) e

-- ---- refusals of several arrays

first_none : (a b : Option Error) → first_of a b ≡ None → a ≡ None
first_none None b h = refl
first_none (Some e) b h = h

rest_none : (a b : Option Error) → first_of a b ≡ None → b ≡ None
rest_none None b h = h
rest_none (Some e) b h = absurd (cc)

both_none : (a b : Option Error) → a ≡ None → b ≡ None → first_of a b ≡ None
both_none a b h k = rw h k

pub refusal_at : (arrays : List Array) (k : ℕ) (a : Array) (e : Error) → k < length arrays → a ≡ get_or arrays k a → first_refusal (take k arrays) ≡ None
    → refusal (array_type a) (array_slots a) ≡ Some e → first_refusal arrays ≡ Some e
refusal_at [] k a e h is none r = absurd (omega (arith, h))
refusal_at (b ∷ arrays) zero a e h is none r = ap (λ z. first_of z (first_refusal arrays)) (ap (λ z. refusal (array_type z) (array_slots z)) (sym is) ∙ r)
refusal_at (b ∷ arrays) (suc k) a e h is none r =
    let none_here = first_none _ _ none in
    ap (λ z. first_of z (first_refusal arrays)) none_here ∙ refusal_at arrays k a e (omega (arith, h)) is (rest_none _ _ none) r

none_more : (arrays : List Array) (k : ℕ) (a : Array) → k < length arrays → a ≡ get_or arrays k a → first_refusal (take k arrays) ≡ None
    → refusal (array_type a) (array_slots a) ≡ None → first_refusal (take (suc k) arrays) ≡ None
none_more [] k a h is none r = absurd (omega (arith, h))
none_more (b ∷ arrays) zero a h is none r = both_none _ _ (ap (λ z. refusal (array_type z) (array_slots z)) (sym is) ∙ r) refl
none_more (b ∷ arrays) (suc k) a h is none r = both_none _ _ (first_none _ _ none) (none_more arrays k a (omega (arith, h)) is (rest_none _ _ none) r)

pub one_more_none : (arrays : List Array) (k : ℕ) (a : Array) → k < length arrays → a ≡ get_or arrays k a → first_refusal (take k arrays) ≡ None
    → refusal (array_type a) (array_slots a) ≡ None → first_refusal (take (k + 1) arrays) ≡ None
one_more_none arrays k a h is none r = rw add-one (none_more arrays k a h is none r)
