-- Of arrays whose types have a JSON text, a date out of range is all that can be refused; and the dates of columns are
-- those of the rows.
use Rattle.std.proofs.Common.{◌≡◌, ◌∙◌, ℕ, suc, ◌+◌, ◌<◌, Bool, true, false, List, [], ◌∷◌, length, map, get_or, drop, All, Option, Some, None, refl, sym, ap, add-one, arith}
use Rattle.std.specs.Prelude.{◌&&◌, if◌then◌else◌}
use Rattle.std.specs.List.{list_all, range_with_len}
use Rattle.std.proofs.Math.Seq.{drop-cons}
use Rattle.arrow_core.specs.declared.error.Error.{Error}
use Rattle.arrow_core.specs.declared.error.Error.TheVariants.{InvalidArgumentError}
use Rattle.arrow_core.specs.declared.error.Reason.TheVariants.{DateRange}
use Rattle.arrow_core.specs.declared.slot.Slot.{Slot}
use Rattle.arrow_core.specs.declared.slot.Slot.TheVariants as slot
use Rattle.arrow_core.specs.declared.types.DataType.{DataType}
use Rattle.arrow_core.specs.declared.types.Field.{Field}
use Rattle.arrow_array.specs.declared.array.Array.{Array}
use Rattle.arrow_array.specs.Arrays.{array_type, array_slots}
use Rattle.json_text.specs.Refusals.{has_text, has_offsets, in_range, all_in_range, refusal}
use Rattle.json_write.specs.Rows.{first_of, first_refusal}
use Rattle.avro_schema.specs.Rows.{column}
use Rattle.avro_schema.specs.Columns.{columns}
use Rattle.avro_ndjson.proofs.Tables.{AreWide}

-- the dates of a row are in range
abbrev pub row_in_range : List DataType → List Slot → Bool
row_in_range (t ∷ types) (slot ∷ row) = in_range t slot && row_in_range types row
row_in_range _ _ = true

-- the dates of columns are in range
abbrev pub columns_in_range : List DataType → List (List Slot) → Bool
columns_in_range (t ∷ types) (c ∷ cs) = list_all (in_range t) c && columns_in_range types cs
columns_in_range _ _ = true

abbrev late : Option Error
late = Some (InvalidArgumentError DateRange)

one_refusal : (t : DataType) (slots : List Slot) (b : Bool) → has_text t ≡ true → has_offsets t ≡ true → list_all (in_range t) slots ≡ b → refusal t slots ≡ (if b then None else late)
one_refusal t slots true h k e = rw (h, k, e) refl
one_refusal t slots false h k e = rw (h, k, e) refl

first_late : (b : Bool) (next : Option Error) (c : Bool) → next ≡ (if c then None else late) → first_of (if b then None else late) next ≡ (if (b && c) then None else late)
first_late true next c e = e
first_late false next c e = refl

-- whether a chunk is refused
pub refused_late : (arrays : List Array) → All (λ t. has_text t ≡ true) (map array_type arrays) → All (λ t. has_offsets t ≡ true) (map array_type arrays)
    → first_refusal arrays ≡ (if columns_in_range (map array_type arrays) (map array_slots arrays) then None else late)
refused_late [] h k = refl
refused_late (a ∷ arrays) h k =
    let t = array_type a in
    let b = list_all (in_range t) (array_slots a) in
    let rest = refused_late arrays (λ i d lt. h (suc i) d (omega (arith, lt))) (λ i d lt. k (suc i) d (omega (arith, lt))) in
    ap (λ (o : Option Error). first_of o (first_refusal arrays)) (one_refusal t (array_slots a) b (h 0 t (omega arith)) (k 0 t (omega arith)) refl)
    ∙ first_late b (first_refusal arrays) (columns_in_range (map array_type arrays) (map array_slots arrays)) rest

-- ---- columns and rows

swapped : (a b c d : Bool) → ((a && b) && (c && d)) ≡ ((a && c) && (b && d))
swapped false b c d = refl
swapped true false false d = refl
swapped true true false d = refl
swapped true false true d = refl
swapped true true true d = refl

all_true : {X : Type 0} (xs : List X) → list_all (λ x. true) xs ≡ true
all_true [] = refl
all_true (x ∷ xs) = all_true xs

-- one more column before the others
more_columns : (t : DataType) (types : List DataType) (k : ℕ) (table : List (List Slot)) → All (λ row. k < length row) table
    → (list_all (in_range t) (column table k) && list_all (λ row. row_in_range types (drop (suc k) row)) table) ≡ list_all (λ row. row_in_range (t ∷ types) (drop k row)) table
more_columns t types k [] wide = refl
more_columns t types k (row ∷ table) wide =
    let here : drop k row ≡ get_or row k slot.Null ∷ drop (suc k) row = drop-cons row k slot.Null (wide 0 row (omega arith)) in
    let rest = more_columns t types k table (λ i d lt. wide (suc i) d (omega (arith, lt))) in
    swapped (in_range t (get_or row k slot.Null)) (list_all (in_range t) (column table k)) (row_in_range types (drop (suc k) row)) (list_all (λ row. row_in_range types (drop (suc k) row)) table)
    ∙ ap (λ (b : Bool). (in_range t (get_or row k slot.Null) && row_in_range types (drop (suc k) row)) && b) rest
    ∙ ap (λ (r : List Slot). row_in_range (t ∷ types) r && list_all (λ row. row_in_range (t ∷ types) (drop k row)) table) (sym here)

from_column : (types : List DataType) (k : ℕ) (table : List (List Slot)) → All (λ row. k + length types ≡ length row) table
    → columns_in_range types (map (column table) (range_with_len k (length types))) ≡ list_all (λ row. row_in_range types (drop k row)) table
from_column [] k table wide = sym (all_true table)
from_column (t ∷ types) k table wide =
    ap (λ (b : Bool). list_all (in_range t) (column table k) && b)
    (ap (λ (j : ℕ). columns_in_range types (map (column table) (range_with_len j (length types)))) (add-one k)
    ∙ from_column types (suc k) table (λ i d lt. omega (arith, wide i d lt)))
    ∙ more_columns t types k table (λ i d lt. omega (arith, wide i d lt))

-- the dates of a table's columns are those of its rows
pub rows_in_range : (types : List DataType) (m : ℕ) (table : List (List Slot)) → m ≡ length types → AreWide m table → columns_in_range types (columns m table) ≡ list_all (row_in_range types) table
rows_in_range types m table e wide =
    ap (λ (n : ℕ). columns_in_range types (columns n table)) e
    ∙ from_column types 0 table (λ i d lt. omega (arith, wide i d lt, e))

-- ---- by fields

by_fields : (fs : List Field) (row : List Slot) → row_in_range (map (λ f. f.data_type) fs) row ≡ all_in_range fs row
by_fields [] row = refl
by_fields (f ∷ fs) [] = refl
by_fields (f ∷ fs) (slot ∷ row) = ap (λ (b : Bool). in_range f.data_type slot && b) (by_fields fs row)

pub tables_by_fields : (fs : List Field) (table : List (List Slot)) → list_all (row_in_range (map (λ f. f.data_type) fs)) table ≡ list_all (all_in_range fs) table
tables_by_fields fs [] = refl
tables_by_fields fs (row ∷ table) = (λ i. by_fields fs row i && tables_by_fields fs table i)
