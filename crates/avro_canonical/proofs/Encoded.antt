-- The slots of columns that serializers take have canonical encodings, and so have those of their rows.
use Rattle.std.proofs.Common.{◌≡◌, ◌∙◌, ◌⊎◌, inl, inr, ℕ, zero, suc, ◌+◌, ◌<◌, ◌≤◌, List, [], ◌∷◌, length, map, drop, get_or, All, sym, ap, add-one, subst, arith}
use Rattle.std.specs.List.{AllByRecursion, range_with_len}
use Rattle.std.proofs.lemmas.Bool.{cases_lt}
use Rattle.std.proofs.lemmas.List.{get_or_read, get_or-map, length-map}
use Rattle.std.proofs.Math.Seq.{drop-cons}
use Rattle.arrow_core.specs.declared.slot.Slot.{Slot}
use Rattle.arrow_core.specs.declared.slot.Slot.TheVariants as slot
use Rattle.arrow_array.specs.declared.array.Array.{Array}
use Rattle.arrow_array.specs.Arrays.{array_slots}
use Rattle.avro_schema.specs.declared.schema.AvroField.{AvroField}
use Rattle.avro_schema.specs.Rows.{column}
use Rattle.avro_encode.specs.Listed.{PairsFieldsOf}
use Rattle.avro_encode.specs.Pairs.{Pairs}
use Rattle.avro_canonical.specs.Canonical.{HasEncodings}
use Rattle.avro_canonical.specs.Columns.{AreAccepted, HaveEncodings}
use Rattle.avro_canonical.proofs.Serializers.{accepted_length, field_within, none_left}

-- ---- columns

-- the slots of one column under one field
abbrev pub IsEncoded : AvroField → Array → Type 0
IsEncoded f a = All (Pairs f.schema) (array_slots a)

pub more_encoded : (fields : List AvroField) (columns : List Array) (k : ℕ) (field : AvroField) (array : Array) → AreAccepted fields columns → k < length columns → field ≡ get_or fields k field → array ≡ get_or columns k array → IsEncoded field array
    → ((j : ℕ) (f : AvroField) (a : Array) → j < k → j < length columns → IsEncoded (get_or fields j f) (get_or columns j a))
    → (j : ℕ) (f : AvroField) (a : Array) → j < k + 1 → j < length columns → IsEncoded (get_or fields j f) (get_or columns j a)
more_encoded fields columns k field array h l is at here before j f a less within = from (cases_lt j k)
  where
    from : (j < k) ⊎ (k ≤ j) → IsEncoded (get_or fields j f) (get_or columns j a)
    from (inl lt) = before j f a lt within
    from (inr ge) =
        let same : k ≡ j = omega (arith, ge, less) in
        let first : field ≡ get_or fields k f = get_or_read fields _ _ (field_within fields columns k h l) is f in
        let second : array ≡ get_or columns k a = get_or_read columns _ _ l at a in
        subst (λ (i : ℕ). IsEncoded (get_or fields i f) (get_or columns i a)) same (subst (λ (b : Array). IsEncoded (get_or fields k f) b) second (subst (λ (g : AvroField). IsEncoded g array) first here))

all_from : (fields : List AvroField) (columns : List Array) → length fields ≡ length columns → ((j : ℕ) (f : AvroField) (a : Array) → j < length columns → IsEncoded (get_or fields j f) (get_or columns j a)) → HaveEncodings fields columns
all_from [] [] e h = tt
all_from [] (a ∷ columns) e h = absurd (omega (arith, e))
all_from (f ∷ fields) [] e h = absurd (omega (arith, e))
all_from (f ∷ fields) (a ∷ columns) e h = (h 0 f a (omega arith), all_from fields columns (omega (arith, e)) (λ j g b l. h (suc j) g b (omega (arith, l))))

pub all_encoded : (fields : List AvroField) (columns : List Array) → AreAccepted fields columns → ((j : ℕ) (f : AvroField) (a : Array) → j < length columns → IsEncoded (get_or fields j f) (get_or columns j a)) → HaveEncodings fields columns
all_encoded fields columns h = all_from fields columns (accepted_length fields columns h)

-- ---- rows

head_is : {X : Type 0} {x y : X} {xs ys : List X} → x ∷ xs ≡ y ∷ ys → x ≡ y
head_is q = cc

tail_is : {X : Type 0} {x y : X} {xs ys : List X} → x ∷ xs ≡ y ∷ ys → xs ≡ ys
tail_is q = cc

-- a row, from a column on
row_encoded : (fields : List AvroField) (arrays : List Array) (table : List (List Slot)) (k i : ℕ) → HaveEncodings fields arrays → map array_slots arrays ≡ map (column table) (range_with_len k (length arrays)) → i < length table → k + length fields ≡ length (get_or table i []) → PairsFieldsOf fields (drop k (get_or table i []))
row_encoded [] [] table k i h slots l e = subst (PairsFieldsOf []) (sym (none_left (get_or table i []) k (omega (arith, e)))) tt
row_encoded [] (a ∷ arrays) table k i h slots l e = absurd h
row_encoded (f ∷ fields) [] table k i h slots l e = absurd h
row_encoded (f ∷ fields) (a ∷ arrays) table k i h slots l e =
    let row = get_or table i [] in
    let are : array_slots a ≡ column table k = head_is slots in
    let within : i < length (array_slots a) = omega (arith, l, ap length are, length-map table (λ (r : List Slot). get_or r k slot.Null)) in
    let here : Pairs f.schema (get_or (array_slots a) i slot.Null) = h.0 i slot.Null within in
    let same : get_or (array_slots a) i slot.Null ≡ get_or row k slot.Null = ap (λ (xs : List Slot). get_or xs i slot.Null) are ∙ get_or-map (λ (r : List Slot). get_or r k slot.Null) table i [] slot.Null l in
    let more = row_encoded fields arrays table (k + 1) i h.1 (tail_is slots) l (omega (arith, e)) in
    subst (PairsFieldsOf (f ∷ fields)) (sym (drop-cons row k slot.Null (omega (arith, e)))) (subst (Pairs f.schema) same here, subst (λ n. PairsFieldsOf fields (drop n row)) (add-one k) more)

all_rows : (P : List Slot → Type 0) (table : List (List Slot)) → ((i : ℕ) → i < length table → P (get_or table i [])) → AllByRecursion P table
all_rows P [] h = tt
all_rows P (row ∷ table) h = (h 0 (omega arith), all_rows P table (λ i l. h (suc i) (omega (arith, l))))

at_row : (P : List Slot → Type 0) (table : List (List Slot)) (i : ℕ) → AllByRecursion P table → i < length table → P (get_or table i [])
at_row P [] i h l = absurd (omega (arith, l))
at_row P (row ∷ table) zero h l = h.0
at_row P (row ∷ table) (suc i) h l = at_row P table i h.1 (omega (arith, l))

pub rows_encoded : (fields : List AvroField) (arrays : List Array) (table : List (List Slot)) → AllByRecursion (λ xs. length xs ≡ length fields) table → HaveEncodings fields arrays → map array_slots arrays ≡ map (column table) (range_with_len 0 (length arrays)) → HasEncodings fields table
rows_encoded fields arrays table widths h slots =
    all_rows (PairsFieldsOf fields) table (λ i l. row_encoded fields arrays table 0 i h slots l (omega (arith, at_row (λ xs. length xs ≡ length fields) table i widths l)))
