-- Lists of lines: their size, and how far they are needed.
use Rattle.std.proofs.Common.{◌≡◌, ℕ, zero, suc, ◌+◌, ◌-◌, ◌<◌, ◌≤◌, inl, inr, true, false, List, [], ◌∷◌, ◌++◌, length, take, Option, Some, None, refl, sym, ap, ◌∙◌, append_assoc, append-nil, arith}
use Rattle.std.proofs.lemmas.Bool.{cases_Bool}
use Rattle.std.proofs.lemmas.List.{length-append}
use Rattle.std.proofs.lemmas.List.Elements.{filter-append}
use Rattle.std.specs.Prelude.{filter}
use Rattle.ndjson_read.specs.Lines.{onto_first, lines, is_line_feed, is_row}
use Rattle.ndjson_read.specs.Needed.{EachNeeded, Fewer, through_rows, needed_lines, size_of_lines}

-- ---- lines, put together again

abbrev pub join : List (List ℕ) → List ℕ
join [] = []
join (line ∷ all) = line ++ join all

joined_onto : (byte : ℕ) (all : List (List ℕ)) → join (onto_first byte all) ≡ byte ∷ join all
unfolding onto_first
joined_onto byte [] = refl
joined_onto byte (line ∷ all) = refl

pub joined : (bytes : List ℕ) → join (lines bytes) ≡ bytes
unfolding lines
joined [] = refl
joined (byte ∷ bytes) =
    elim (cases_Bool (is_line_feed byte)) [
      | inl is_feed ↦ rw is_feed (ap (λ (z : List ℕ). byte ∷ z) (joined bytes))
      | inr other ↦ rw other (joined_onto byte (lines bytes) ∙ ap (λ (z : List ℕ). byte ∷ z) (joined bytes))
    ]

join-append : (xs ys : List (List ℕ)) → join (xs ++ ys) ≡ join xs ++ join ys
join-append [] ys = refl
join-append (x ∷ xs) ys = ap (λ (z : List ℕ). x ++ z) (join-append xs ys) ∙ sym (append_assoc x (join xs) (join ys))

-- the bytes are those of the last line, after those of the others
pub joined_last : (bytes : List ℕ) (prefix : List (List ℕ)) (last : List ℕ) → lines bytes ≡ prefix ++ last ∷ [] → bytes ≡ join prefix ++ last
joined_last bytes prefix last split =
    sym (joined bytes) ∙ ap join split ∙ join-append prefix (last ∷ []) ∙ ap (λ (z : List ℕ). join prefix ++ z) (append-nil last)

pub size_joined : (all : List (List ℕ)) → length (join all) ≡ size_of_lines all
size_joined [] = refl
size_joined (line ∷ all) = length-append line (join all) ∙ ap (λ (z : ℕ). length line + z) (size_joined all)

pub size_of_lines-append : (xs ys : List (List ℕ)) → size_of_lines (xs ++ ys) ≡ size_of_lines xs + size_of_lines ys
size_of_lines-append [] ys = omega arith
size_of_lines-append (x ∷ xs) ys = let rest = size_of_lines-append xs ys in omega (arith, rest)

-- ---- the lines through some rows

-- how many rows there are
abbrev pub rows_in : List (List ℕ) → ℕ
rows_in all = length (filter is_row all)

pub rows_in-append : (xs ys : List (List ℕ)) → rows_in (xs ++ ys) ≡ rows_in xs + rows_in ys
rows_in-append xs ys = ap length (filter-append is_row xs ys) ∙ length-append (filter is_row xs) (filter is_row ys)

rows_in-row : (line : List ℕ) (all : List (List ℕ)) → is_row line ≡ true → rows_in (line ∷ all) ≡ 1 + rows_in all
rows_in-row line all row = let split = rows_in-append (line ∷ []) all in let one : rows_in (line ∷ []) ≡ 1 = rw row refl in omega (arith, split, one)

rows_in-blank : (line : List ℕ) (all : List (List ℕ)) → is_row line ≡ false → rows_in (line ∷ all) ≡ rows_in all
rows_in-blank line all blank = let split = rows_in-append (line ∷ []) all in let none : rows_in (line ∷ []) ≡ 0 = rw blank refl in omega (arith, split, none)

-- before each of the lines there are fewer rows
abbrev pub EachBefore : ℕ → List (List ℕ) → Type 0
EachBefore number all = (k : ℕ) → k < length all → rows_in (take k all) < number

before_row : (number : ℕ) (line : List ℕ) (all : List (List ℕ)) → is_row line ≡ true → EachBefore (suc number) (line ∷ all) → EachBefore number all
before_row number line all row each k below =
    let next = each (suc k) (omega (arith, below)) in
    let split = rows_in-row line (take k all) row in
    omega (arith, next, split)

pub before_blank : (number : ℕ) (line : List ℕ) (all : List (List ℕ)) → is_row line ≡ false → EachBefore number (line ∷ all) → EachBefore number all
before_blank number line all blank each k below =
    let next = each (suc k) (omega (arith, below)) in
    let split = rows_in-blank line (take k all) blank in
    omega (arith, next, split)

-- lines before each of which another row is due are all among those that are read
pub through_more : (number : ℕ) (prefix rest : List (List ℕ)) → EachBefore number prefix → through_rows number (prefix ++ rest) ≡ prefix ++ through_rows (number - rows_in prefix) rest
through_more number [] rest each = let same : number ≡ number - 0 = omega arith in ap (λ (z : ℕ). through_rows z rest) same
through_more zero (line ∷ prefix) rest each = absurd (omega (arith, each 0 (omega arith)))
through_more (suc number) (line ∷ prefix) rest each =
    elim (cases_Bool (is_row line)) [
      | inl row ↦
          let due : number - rows_in prefix ≡ suc number - rows_in (line ∷ prefix) = omega (arith, rows_in-row line prefix row) in
          let step : through_rows (suc number) (line ∷ (prefix ++ rest)) ≡ line ∷ through_rows number (prefix ++ rest) = rw row refl in
          step ∙ ap (λ (z : List (List ℕ)). line ∷ z) (through_more number prefix rest (before_row number line prefix row each))
          ∙ ap (λ (z : ℕ). line ∷ (prefix ++ through_rows z rest)) due
      | inr blank ↦
          let due : suc number - rows_in prefix ≡ suc number - rows_in (line ∷ prefix) = omega (arith, rows_in-blank line prefix blank) in
          let step : through_rows (suc number) (line ∷ (prefix ++ rest)) ≡ line ∷ through_rows (suc number) (prefix ++ rest) = rw blank refl in
          step ∙ ap (λ (z : List (List ℕ)). line ∷ z) (through_more (suc number) prefix rest (before_blank (suc number) line prefix blank each))
          ∙ ap (λ (z : ℕ). line ∷ (prefix ++ through_rows z rest)) due
    ]

-- such lines have no more rows than are due
pub rows_within : (number : ℕ) (all : List (List ℕ)) → EachBefore number all → rows_in all ≤ number
rows_within number [] each = omega arith
rows_within zero (line ∷ all) each = absurd (omega (arith, each 0 (omega arith)))
rows_within (suc number) (line ∷ all) each =
    elim (cases_Bool (is_row line)) [
      | inl row ↦ omega (arith, rows_in-row line all row, rows_within number all (before_row number line all row each))
      | inr blank ↦ omega (arith, rows_in-blank line all blank, rows_within (suc number) all (before_blank (suc number) line all blank each))
    ]

-- ---- the lines that are needed

-- so many rows are still due
abbrev pub due_after : Option ℕ → ℕ → Option ℕ
due_after None rows = None
due_after (Some number) rows = Some (number - rows)

pub needed_more : (number : Option ℕ) (prefix rest : List (List ℕ)) → EachNeeded number prefix → needed_lines number (prefix ++ rest) ≡ prefix ++ needed_lines (due_after number (rows_in prefix)) rest
needed_more None prefix rest each = refl
needed_more (Some number) prefix rest each = through_more number prefix rest (λ k below. (each k below).fewer)

pub needed_none : (number : Option ℕ) → needed_lines number [] ≡ []
needed_none None = refl
needed_none (Some zero) = refl
needed_none (Some (suc number)) = refl

-- lines of which each was needed are all needed
pub all_needed : (number : Option ℕ) (all : List (List ℕ)) → EachNeeded number all → needed_lines number all ≡ all
all_needed number all each =
    ap (needed_lines number) (sym (append-nil all)) ∙ needed_more number all [] each ∙ ap (λ (z : List (List ℕ)). all ++ z) (needed_none (due_after number (rows_in all))) ∙ append-nil all

-- one more line is needed
pub needed_next : (number : Option ℕ) (line : List ℕ) (rest : List (List ℕ)) → Fewer 0 number → needed_lines number (line ∷ rest) ≡ line ∷ (needed_lines (due_after number (rows_in (line ∷ []))) rest)
needed_next None line rest due = refl
needed_next (Some zero) line rest due = absurd (omega (arith, due))
needed_next (Some (suc number)) line rest due =
    elim (cases_Bool (is_row line)) [
      | inl row ↦ let same : number ≡ suc number - 1 = omega arith in rw row (ap (λ (z : ℕ). line ∷ through_rows z rest) same)
      | inr blank ↦ let same : suc number ≡ suc number - 0 = omega arith in rw blank (ap (λ (z : ℕ). line ∷ through_rows z rest) same)
    ]
