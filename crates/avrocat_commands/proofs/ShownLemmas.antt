-- The lines of columns, one after another.
use Rattle.std.proofs.Common.{◌≡◌, ℕ, zero, suc, ◌+◌, ◌<◌, List, [], ◌∷◌, ◌++◌, length, take, map, get_or, sym, ap, ◌∙◌, append_assoc, add-one, arith}
use Rattle.std.proofs.lemmas.List.{append-nil}
use Rattle.arrow_array.specs.declared.array.Array.{Array}
use Rattle.arrow_array.specs.Arrays.{array_slots}
use Rattle.avrocat_commands.specs.Shown.{line_of, shown}

next : (names : List (List ℕ)) (columns : List Array) (i : ℕ) (n : List ℕ) (a : Array) → i < length names → length names ≡ length columns
    → shown (take i names) (map array_slots (take i columns)) ++ line_of (get_or names i n) (array_slots (get_or columns i a)) ≡ shown (take (suc i) names) (map array_slots (take (suc i) columns))
next [] columns i n a lt same = absurd (omega arith)
next (m ∷ names) [] i n a lt same = absurd (omega arith)
next (m ∷ names) (c ∷ columns) zero n a lt same = sym (append-nil (line_of m (array_slots c)))
next (m ∷ names) (c ∷ columns) (suc i) n a lt same =
    append_assoc (line_of m (array_slots c)) (shown (take i names) (map array_slots (take i columns))) (line_of (get_or names i n) (array_slots (get_or columns i a)))
    ∙ ap (λ z. line_of m (array_slots c) ++ z) (next names columns i n a (omega arith) (omega arith))

-- What follows a text and the lines before index i: line i.
pub lines_more : (text before now : List ℕ) (names : List (List ℕ)) (columns : List Array) (i : ℕ) (n : List ℕ) (a : Array) → i < length names → length names ≡ length columns
    → before ≡ text ++ shown (take i names) (map array_slots (take i columns))
    → now ≡ before ++ line_of (get_or names i n) (array_slots (get_or columns i a))
    → now ≡ text ++ shown (take (i + 1) names) (map array_slots (take (i + 1) columns))
lines_more text before now names columns i n a lt same so line =
    let B : List ℕ = shown (take i names) (map array_slots (take i columns)) in
    let L : List ℕ = line_of (get_or names i n) (array_slots (get_or columns i a)) in
    line ∙ ap (λ z. z ++ L) so ∙ append_assoc text B L ∙ ap (λ z. text ++ z) (rw add-one (next names columns i n a lt same))
