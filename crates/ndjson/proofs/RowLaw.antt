-- The object of a row stands for the object of the row's values.
use Rattle.std.proofs.Common.{◌≡◌, ℕ, zero, suc, ◌≤◌, true, List, [], ◌∷◌, ◌++◌, codes, refl, arith}
use Rattle.std.proofs.lemmas.List.Elements.{All-head, All-tail}
use Rattle.std.specs.Str.{IsUtf8}
use Rattle.arrow_core.specs.declared.slot.Slot.{Slot}
use Rattle.arrow_core.specs.declared.types.DataType.{DataType}
use Rattle.json_text.specs.JsonText.{text}
use Rattle.json_text.specs.Refusals.{has_text}
use Rattle.json_write.specs.Rows.{members, row_object, texts}
use Rattle.json_tree.specs.Grammar.{Encodes, IsText, Member, is_space}
use Rattle.json_tree.specs.Tree.{Json}
use Rattle.ndjson.specs.Depth.{deepest_of, row_depth}
use Rattle.ndjson.specs.Laws.{HasTexts, HasUtf8Names, RowsAreJson, RowsAreShallow}
use Rattle.ndjson.specs.Values.{gathered, row_members, row_value, value}
use Rattle.std.proofs.lemmas.Str.{IsUtf8-append}
use Rattle.ndjson.proofs.Clean.{utf8-byte}
use Rattle.ndjson.proofs.Gathered.{gathered-gathers}
use Rattle.ndjson.proofs.TextLaw.{text-of, written}
use Rattle.ndjson.proofs.Written.{AllBy, Good, member-good, object-good}

row_written : (names : List (List ℕ)) (data_types : List DataType) (row : List Slot) (d : ℕ) → deepest_of data_types ≤ d → HasTexts names data_types row
    → AllBy (Member (Encodes d)) (row_members names data_types row) (members names (texts data_types row))
row_written [] data_types row d l h = tt
row_written (name ∷ names) [] row d l h = tt
row_written (name ∷ names) (t ∷ data_types) [] d l h = absurd h.typed
row_written (name ∷ names) (t ∷ data_types) (x ∷ row) d l h =
    let first = written t d x (omega (arith, l)) (All-head (λ u. has_text u ≡ true) t data_types h.text) (All-head HasUtf8Names t data_types h.utf8) h.typed.0 h.in_range.0 in
    let rest : HasTexts names data_types row = record {
      names_utf8 = All-tail IsUtf8 name names h.names_utf8;
      text = All-tail (λ u. has_text u ≡ true) t data_types h.text;
      utf8 = All-tail HasUtf8Names t data_types h.utf8;
      typed = h.typed.1;
      in_range = h.in_range.1;
    } in
    (member-good d name (value t x) (text t x) (All-head IsUtf8 name names h.names_utf8) first, row_written names data_types row d (omega (arith, l)) rest)

-- with a line feed after it
line-of : (d : ℕ) (v : Json) (bytes : List ℕ) → Good d v bytes → IsUtf8 (bytes ++ codes "\n") × IsText d v (bytes ++ codes "\n")
unfolding is_space
line-of d v bytes h = (IsUtf8-append bytes (10 ∷ []) h.0.utf8 (utf8-byte 10 (omega arith)), (bytes, 10 ∷ [], ([], bytes, tt, h.1, refl), (refl, tt), refl))

-- the object of a row, with at most so many brackets open at once
pub row-good : (names : List (List ℕ)) (data_types : List DataType) (row : List Slot) (d : ℕ) → row_depth data_types ≤ d → HasTexts names data_types row
    → Good d (row_value names data_types row) (row_object names data_types row)
row-good names data_types row zero l h = absurd (omega (arith, l))
row-good names data_types row (suc d) l h =
    let all = row_members names data_types row in
    object-good d all (gathered all) (members names (texts data_types row)) (row_written names data_types row d (omega (arith, l)) h) (gathered-gathers all)

pub rows_are_json : RowsAreJson
rows_are_json names data_types row h =
    let d = row_depth data_types in
    let good = row-good names data_types row d (omega arith) h in
    let object = text-of d (row_value names data_types row) (row_object names data_types row) good in
    let line = line-of d (row_value names data_types row) (row_object names data_types row) good in
    ((object.0, (d, object.1)), (line.0, (d, line.1)))

pub rows_are_shallow : RowsAreShallow
rows_are_shallow names data_types row h l =
    let good = row-good names data_types row 128 l h in
    (text-of 128 (row_value names data_types row) (row_object names data_types row) good, line-of 128 (row_value names data_types row) (row_object names data_types row) good)
