-- The values of rows, row by row.
use Rattle.std.proofs.Common.{◌≡◌, ℕ, zero, suc, ◌+◌, ◌<◌, List, [], ◌∷◌, ◌++◌, length, get_or, take, drop, sym, ap, ◌∙◌, subst, arith, inr, map, Option, Some, None, IfSome, Result, Ok, Err, IfErr}
use Rattle.std.proofs.lemmas.List.{take_more}
use Rattle.std.specs.Borrow.{Bor}
use Rattle.arrow_array.specs.Arrays.{array_slots, array_type}
use Rattle.arrow_array.specs.declared.array.Array.{Array}
use Rattle.arrow_core.specs.declared.error.Error.{Error}
use Rattle.arrow_core.specs.declared.types.DataType.{DataType}
use Rattle.json_columns.specs.Refusals.{IsRefusal}
use Rattle.json_line.specs.Lines.{AreObjects}
use Rattle.ndjson.specs.LineColumns.{AreRowsOf}
use Rattle.json_tree.specs.Tree.{Json, object}
use Rattle.json_tree.specs.Meaning.{IsJson}
use Rattle.ndjson_read.specs.Inference.{NoValue}
use Rattle.ndjson_read.specs.Needed.{StandFor}
use Rattle.ndjson_read.proofs.Values.{stand_for-append}
use Rattle.ndjson.specs.Columns.{IsColumnOf, IsNoColumn, IteratorRefused}
use Rattle.ndjson.specs.Rows.{AllStandFor, FailsAtRow}

-- one more row stands for a value
pub stand_more : (rows : List (List ℕ)) (i : ℕ) (row : List ℕ) (old new : List Json) → i < length rows → row ≡ get_or rows i row → StandFor (take i rows) old
    → (v : Json) × IsJson v row × (new ≡ old ++ v ∷ []) → StandFor (take (i + 1) rows) new
stand_more rows i row old new lt is stand (v, json, more) =
    let split : take (i + 1) rows ≡ take i rows ++ row ∷ [] = take_more rows i row lt ∙ ap (λ (z : List ℕ). take i rows ++ z ∷ []) (sym is) in
    subst (λ (z : List Json). StandFor (take (i + 1) rows) z) (sym more)
    (subst (λ (z : List (List ℕ)). StandFor z (old ++ v ∷ [])) (sym split) (stand_for-append (take i rows) (row ∷ []) old (v ∷ []) stand (json, tt)))

row_between : (rows : List (List ℕ)) (i : ℕ) (row : List ℕ) → i < length rows → row ≡ get_or rows i row → rows ≡ take i rows ++ row ∷ drop (suc i) rows
row_between [] i row lt is = absurd (omega (arith, lt))
row_between (first ∷ rows) zero row lt is = ap (λ (z : List ℕ). z ∷ rows) (sym is)
row_between (first ∷ rows) (suc i) row lt is = ap (λ (z : List (List ℕ)). first ∷ z) (row_between rows i row (omega (arith, lt)) is)

-- a row stands for none
pub fails_at : (rows : List (List ℕ)) (i : ℕ) (row : List ℕ) (values : List Json) (e : Error) → i < length rows → row ≡ get_or rows i row → StandFor (take i rows) values → NoValue row e → FailsAtRow rows e
fails_at rows i row values e lt is stand fault =
    record { before = take i rows; row = row; others = drop (suc i) rows; split = row_between rows i row lt is; values = values; stand = stand; fault = fault }

-- what is refused of the values is why there is no column
pub no_column : (rows : List (List ℕ)) (t : DataType) (values : List Json) (answer : Result Array Error) → StandFor rows values → IfErr answer (IsRefusal t values) → IfErr answer (IsNoColumn rows t)
no_column rows t values (Ok array) stand h = tt
no_column rows t values (Err e) stand h = inr (values, stand, h)

pub no_column_of_all : {I : Type 0} (next_gives : I → Option (Bor (List ℕ)) → I → Type 0) (rows : I) (t : DataType) (values : List Json) (answer : Result Array Error) → AllStandFor next_gives rows values
    → IfErr answer (IsRefusal t values) → IfErr answer (IteratorRefused next_gives rows t)
no_column_of_all next_gives rows t values (Ok array) stand h = tt
no_column_of_all next_gives rows t values (Err e) stand h = inr (values, stand, h)

-- the objects of lines are what they stand for
lines_stand : (rows : List (List (List ℕ × Json))) (lines : List (List ℕ)) → AreObjects rows lines → StandFor lines (map object rows)
lines_stand [] [] h = tt
lines_stand [] (line ∷ lines) h = absurd h
lines_stand (members ∷ rows) [] h = absurd h
lines_stand (members ∷ rows) (line ∷ lines) h = (h.0, lines_stand rows lines h.1)

pub lines_column : (rows : List (List ℕ)) (t : DataType) (o : Option Array) → IfSome o (λ a. AreRowsOf rows t (array_type a) (array_slots a)) → IfSome o (λ a. IsColumnOf rows t (array_type a) (array_slots a))
lines_column rows t None h = tt
lines_column rows t (Some a) h = (map object h.rows, lines_stand h.rows rows h.objects, h.column)
