-- The lines of rows, one more at a time, and those of all rows.
use Rattle.std.proofs.Common.{◌≡◌, ℕ, zero, suc, ◌+◌, ◌-◌, List, [], ◌∷◌, ◌++◌, map, codes, flat_map, sym, ap, ◌∙◌, refl, append_assoc, add-one, arith}
use Rattle.std.proofs.lemmas.List.{flat_map_more}
use Rattle.arrow_array.specs.declared.array.Array.{Array}
use Rattle.arrow_array.specs.Arrays.{array_type}
use Rattle.json_text.specs.declared.columns.Column.{Column}
use Rattle.json_text.specs.Columns.{AreNamed, columns_object}
use Rattle.json_write.specs.Rows.{row_count, objects}
use Rattle.json_write.specs.Serializing.{column_rows}
use Rattle.json_write.proofs.RowLemmas.{rows_are}

rows_more : (arrays : List Array) (cs : List Column) (i n : ℕ) → column_rows arrays cs i (suc n) ≡ column_rows arrays cs i n ++ (columns_object arrays cs (i + n) ∷ [])
rows_more arrays cs i zero = let e : i + 0 ≡ i = omega arith in rw e refl
rows_more arrays cs i (suc n) =
    let e : suc i + n ≡ i + suc n = omega arith in
    ap (λ z. columns_object arrays cs i ∷ z) (rows_more arrays cs (suc i) n ∙ ap (λ m. column_rows arrays cs (suc i) n ++ (columns_object arrays cs m ∷ [])) e)

abbrev line : List ℕ → List ℕ
line row = row ++ codes "\n"

-- a row and a line feed more
pub line_more : (arrays : List Array) (cs : List Column) (i : ℕ) (old before with_row now : List ℕ) → before ≡ old ++ flat_map line (column_rows arrays cs 0 i)
    → with_row ≡ before ++ columns_object arrays cs i → now ≡ with_row ++ codes "\n" → now ≡ old ++ flat_map line (column_rows arrays cs 0 (i + 1))
line_more arrays cs i old before with_row now e d f =
    let row = columns_object arrays cs i in
    let rows = column_rows arrays cs 0 i in
    let here : 0 + i ≡ i = omega arith in
    let more = rows_more arrays cs 0 i ∙ ap (λ m. rows ++ (columns_object arrays cs m ∷ [])) here in
    f ∙ ap (λ z. z ++ codes "\n") d ∙ append_assoc before row (codes "\n") ∙ ap (λ z. z ++ line row) e
    ∙ flat_map_more line old rows row ∙ ap (λ z. old ++ flat_map line z) (sym more ∙ ap (λ m. column_rows arrays cs 0 m) (sym (add-one i)))

-- the lines of all rows by their columns are those by their names
pub lines_are : (names : List (List ℕ)) (given arrays : List Array) (cs all : List Column) (n : ℕ) (old now : List ℕ) → given ≡ arrays → all ≡ cs → AreNamed names (map array_type given) cs → n ≡ row_count arrays
    → now ≡ old ++ flat_map line (column_rows given all 0 n) → now ≡ old ++ flat_map line (objects names arrays)
lines_are names given arrays cs all n old now e a k d h =
    let whole : n ≡ n - 0 = omega arith in
    h ∙ ap (λ z. old ++ flat_map line z) (ap (λ z. column_rows given z 0 n) a ∙ ap (λ m. column_rows given cs 0 m) whole ∙ rows_are names given arrays cs n e k d)
