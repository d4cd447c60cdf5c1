-- Where the rows can be read within the limits, their type is answered, or there is no memory.
use Rattle.std.proofs.Common.{◌≡◌, ℕ, zero, suc, ◌-◌, ◌<◌, ◌≤◌, inl, inr, true, List, [], ◌∷◌, ◌++◌, length, Option, Some, None, Result, Ok, Err, IfOk, IfErr, refl, sym, ap, ◌∙◌, subst, append_assoc, append-nil, take_all, arith}
use Rattle.std.specs.Prelude.{filter, All, IsUtf8, ◌⊎◌}
use Rattle.std.specs.Io.KnownBytes.{Consumes, IsAtEnd}
use Rattle.std.proofs.lemmas.List.{length-append, take-append-le}
use Rattle.std.proofs.lemmas.List.Elements.{All-take, filter-append}
use Rattle.std.proofs.Math.Seq.{take-append_seam}
use Rattle.arrow_base.specs.Outside.{RoseOrFull, last_count}
use Rattle.arrow_core.specs.declared.error.Error.{Error}
use Rattle.arrow_core.specs.declared.error.Error.TheVariants.{ExternalFormat, LimitExceeded, ReadFault, OutOfMemory}
use Rattle.arrow_core.specs.declared.error.Reason.TheVariants as reason
use Rattle.arrow_core.specs.declared.types.DataType.{DataType}
use Rattle.json_tree.specs.declared.value.Value.{Value}
use Rattle.json_tree.specs.Meaning.{HoldsTooMany, IsJson}
use Rattle.json_tree.proofs.Answering.{within}
use Rattle.json_infer.specs.Inferred.{type_of_rows}
use Rattle.ndjson_read.specs.Lines.{lines, is_row, rows_of, EndsLine}
use Rattle.ndjson_read.proofs.LineLemmas.{lines-append}
use Rattle.ndjson_read.specs.Needed.{first_rows, StandFor, Fewer, IsNeeded, EachNeeded, NoMore, needed_lines, through_rows, size_of_lines}
use Rattle.ndjson_read.specs.Inference.{Told, AreWhole, InfersType, PassesLimit, LineNotUtf8, EndsAtRow, HasNoByte, NoType, IsComplete}
use Rattle.ndjson_read.proofs.LineLists.{joined, size_joined, size_of_lines-append, rows_in, rows_within, due_after, needed_more, needed_none, needed_next}
use Rattle.ndjson_read.proofs.Continuing.{Continues, continues}
use Rattle.ndjson_read.proofs.Values.{as_text, same_values, stand_for-length, stands_for}

-- what is left of bytes that were told
pub left_of : (old new : Option (List ℕ)) (bytes taken : List ℕ) → old ≡ Some bytes → Consumes old new taken → (rest : List ℕ) × (new ≡ Some rest) × (bytes ≡ taken ++ rest)
left_of old None bytes taken told c = absurd (subst (λ (z : Option (List ℕ)). Consumes z None taken) told c)
left_of old (Some rest) bytes taken told c = (rest, refl, subst (λ (z : Option (List ℕ)). Consumes z (Some rest) taken) told c)

no_lines : lines [] ≡ []
unfolding lines
no_lines = refl

-- the lines that were taken whole, and then the others
whole_lines : (taken rest : List ℕ) (left : Option (List ℕ)) → left ≡ Some rest → EndsLine taken ⊎ IsAtEnd left → lines (taken ++ rest) ≡ lines taken ++ lines rest
whole_lines taken rest left is (inl ends) = lines-append taken rest ends
whole_lines taken rest left is (inr ends) =
    let none : rest ≡ [] = subst IsAtEnd is ends in
    ap (λ (z : List ℕ). lines (taken ++ z)) none ∙ ap lines (append-nil taken) ∙ sym (append-nil (lines taken)) ∙ ap (λ (z : List (List ℕ)). lines taken ++ z) (sym (ap lines none ∙ no_lines))

-- the rows with one among them
filter_row : (before more : List (List ℕ)) (row : List ℕ) → is_row row ≡ true → filter is_row ((before ++ row ∷ []) ++ more) ≡ filter is_row before ++ row ∷ filter is_row more
filter_row before more row shown =
    let one : filter is_row (row ∷ more) ≡ row ∷ filter is_row more = rw shown refl in
    ap (filter is_row) (append_assoc before (row ∷ []) more) ∙ filter-append is_row before (row ∷ more) ∙ ap (λ (z : List (List ℕ)). filter is_row before ++ z) one

prefix_all : (P : List ℕ → Type 0) (prefix rest : List (List ℕ)) → All P (prefix ++ rest) → All P prefix
prefix_all P prefix rest all = subst (All P) (take-append_seam prefix rest) (All-take P (length prefix) (prefix ++ rest) all)

-- so many rows tell the type, no more than there are lines for
pub first_of_needed : (number : Option ℕ) (all : List (List ℕ)) → EachNeeded number all → first_rows number (filter is_row all) ≡ filter is_row all
first_of_needed None all each = refl
first_of_needed (Some number) all each = take_all number (filter is_row all) (rows_within number all (λ k below. (each k below).fewer))

-- bytes of which each line was needed, unless no row tells the type
no_more_each : (number : Option ℕ) (taken : List ℕ) → NoMore number taken → ((number ≡ Some 0) × (length taken ≤ 1)) ⊎ EachNeeded number (lines taken)
no_more_each None taken h = inr h
no_more_each (Some zero) taken h = inl (refl, h)
no_more_each (Some (suc number)) taken h = inr h

no_rows : (number : Option ℕ) (some all : List (List ℕ)) → number ≡ Some 0 → first_rows number some ≡ filter is_row (needed_lines number all)
no_rows number some all none = rw none refl

continues_any : (some more : List ℕ) → 0 < length some → Continues some more
continues_any [] more h = absurd (omega (arith, h))
continues_any (byte ∷ some) more h = continues byte some more

prefix_needed : (number : Option ℕ) (prefix : List (List ℕ)) (last : List ℕ) → EachNeeded number (prefix ++ last ∷ []) → EachNeeded number prefix
prefix_needed number prefix last each k below =
    subst (IsNeeded number) (take-append-le k prefix (last ∷ []) (omega (arith, below))) (each k (omega (arith, below, length-append prefix (last ∷ []))))

pub next_needed : (number : Option ℕ) (prefix : List (List ℕ)) (last : List ℕ) → EachNeeded number (prefix ++ last ∷ []) → IsNeeded number prefix
next_needed number prefix last each = subst (IsNeeded number) (take-append_seam prefix (last ∷ [])) (each (length prefix) (omega (arith, length-append prefix (last ∷ []))))

still_due : (number : Option ℕ) (rows : ℕ) → Fewer rows number → Fewer 0 (due_after number rows)
still_due None rows h = tt
still_due (Some number) rows h = omega (arith, h)

none_due : (number : Option ℕ) (rows : ℕ) (all : List (List ℕ)) → number ≡ Some rows → needed_lines (due_after number rows) all ≡ []
none_due number rows all is =
    let zero : rows - rows ≡ 0 = omega arith in
    ap (λ (z : Option ℕ). needed_lines (due_after z rows) all) is ∙ ap (λ (z : ℕ). through_rows z all) zero

not_risen : (before now : ℕ) → now ≡ before → now < last_count → RoseOrFull before now → ⊥
not_risen before now same below (inl rose) = omega (arith, same, rose)
not_risen before now same below (inr full) = omega (arith, below, full)

module _ (number : Option ℕ) (byte_limit : ℕ) (old new : Told) (bytes : List ℕ) (values : List Value) (told : old.left ≡ Some bytes)
    (utf8 : All IsUtf8 (needed_lines number (lines bytes))) (rows : StandFor (filter is_row (needed_lines number (lines bytes))) values) where
  -- the lines that are read, where each of those that were taken was needed
  read_lines : (taken : List ℕ) → Consumes old.left new.left taken → AreWhole taken new → EachNeeded number (lines taken)
      → (more : List (List ℕ)) × (needed_lines number (lines bytes) ≡ lines taken ++ more)
  read_lines taken consumed whole each =
      let l = left_of old.left new.left bytes taken told consumed in (
        needed_lines (due_after number (rows_in (lines taken))) (lines l.0),
        ap (λ (z : List ℕ). needed_lines number (lines z)) l.2 ∙ ap (needed_lines number) (whole_lines taken l.0 new.left l.1 whole) ∙ needed_more number (lines taken) (lines l.0) each,
      )

  never_utf8 : LineNotUtf8 number byte_limit old new → ⊥
  never_utf8 h = let r = read_lines h.taken h.takes.consumed h.whole h.each in h.wrong (prefix_all IsUtf8 (lines h.taken) r.0 (subst (All IsUtf8) r.1 utf8))

  row_stands : (Holds : List ℕ → Type 0) (h : EndsAtRow number byte_limit old new Holds) → (value : Value) × IsJson value h.row
  row_stands Holds h =
      let r = read_lines h.taken h.takes.consumed h.whole h.each in
      let split = r.1 ∙ ap (λ (z : List (List ℕ)). z ++ r.0) h.last in
      let all = ap (filter is_row) split ∙ filter_row h.before r.0 h.row h.shown in
      stands_for (filter is_row h.before) h.row (filter is_row r.0) values (subst (λ (z : List (List ℕ)). StandFor z values) all rows)

  -- more bytes than the limit are no more than the lines that are read have
  past_by : 0 < byte_limit → (h : PassesLimit number byte_limit old new)
      → ((number ≡ Some 0) × (length (h.taken ++ h.byte ∷ []) ≤ 1)) ⊎ EachNeeded number (lines (h.taken ++ h.byte ∷ [])) → byte_limit < size_of_lines (needed_lines number (lines bytes))
  past_by may_take h (inl none) = absurd (omega (arith, may_take, h.limit, none.1, length-append h.taken (h.byte ∷ [])))
  past_by may_take h (inr each) =
      let some = h.taken ++ h.byte ∷ [] in
      let size = length-append h.taken (h.byte ∷ []) in
      let l = left_of old.left new.left bytes some told h.consumed in
      let k = continues_any some l.0 (omega (arith, size)) in
      let needed = subst (EachNeeded number) k.before each in
      let line = k.last ++ k.added in
      let next = needed_next (due_after number (rows_in k.prefix)) line k.rest (still_due number (rows_in k.prefix) (next_needed number k.prefix k.last needed).fewer) in
      let more = needed_lines (due_after (due_after number (rows_in k.prefix)) (rows_in (line ∷ []))) k.rest in
      let read : needed_lines number (lines bytes) ≡ k.prefix ++ line ∷ more =
      ap (λ (z : List ℕ). needed_lines number (lines z)) l.2 ∙ ap (needed_lines number) k.after
      ∙ needed_more number k.prefix (line ∷ k.rest) (prefix_needed number k.prefix k.last needed) ∙ ap (λ (z : List (List ℕ)). k.prefix ++ z) next in
      let whole = ap size_of_lines read ∙ size_of_lines-append k.prefix (line ∷ more) in
      let taken = sym (size_joined (lines some)) ∙ ap length (joined some) in
      let split = ap size_of_lines k.before ∙ size_of_lines-append k.prefix (k.last ∷ []) in
      omega (arith, whole, taken, split, size, h.limit, length-append k.last k.added)

  -- the rows that tell the type are those of the lines that are read
  as_read : (taken : List ℕ) (end : List (List ℕ)) → EachNeeded number (lines taken) → needed_lines number (lines bytes) ≡ lines taken ++ end → end ≡ []
      → first_rows number (rows_of taken) ≡ filter is_row (needed_lines number (lines bytes))
  as_read taken end each read none =
      first_of_needed number (lines taken) each ∙ ap (filter is_row) (sym (append-nil (lines taken)) ∙ ap (λ (z : List (List ℕ)). lines taken ++ z) (sym none) ∙ sym read)

  same_rows : (data_type : DataType) (h : InfersType number byte_limit old new data_type) → ((number ≡ Some 0) × (length h.taken ≤ 1)) ⊎ EachNeeded number (lines h.taken)
      → ((number ≡ Some (length h.values)) × (EndsLine h.taken ⊎ (number ≡ Some 0))) ⊎ IsAtEnd new.left → first_rows number (rows_of h.taken) ≡ filter is_row (needed_lines number (lines bytes))
  unfolding read_lines
  same_rows data_type h (inl none) enough = no_rows number (rows_of h.taken) (lines bytes) none.0
  same_rows data_type h (inr each) (inl (is, inr none)) = no_rows number (rows_of h.taken) (lines bytes) none
  same_rows data_type h (inr each) (inl (is, inl ends)) =
      let r = read_lines h.taken h.takes.consumed (inl ends) each in
      let count : rows_in (lines h.taken) ≡ length h.values = ap length (sym (first_of_needed number (lines h.taken) each)) ∙ stand_for-length (first_rows number (rows_of h.taken)) h.values h.rows in
      as_read h.taken r.0 each r.1 (none_due number (rows_in (lines h.taken)) _ (is ∙ ap Some (sym count)))
  same_rows data_type h (inr each) (inr end) =
      let l = left_of old.left new.left bytes h.taken told h.takes.consumed in
      let r = read_lines h.taken h.takes.consumed (inr end) each in
      let none : l.0 ≡ [] = subst IsAtEnd l.1 end in
      as_read h.taken r.0 each r.1 (ap (λ (z : List ℕ). needed_lines (due_after number (rows_in (lines h.taken))) (lines z)) none ∙ ap (needed_lines (due_after number (rows_in (lines h.taken)))) no_lines
      ∙ needed_none (due_after number (rows_in (lines h.taken))))

  same_type : (data_type : DataType) → InfersType number byte_limit old new data_type → data_type ≡ type_of_rows values
  same_type data_type h =
      let all = same_rows data_type h (no_more_each number h.taken h.no_more) h.enough in
      h.inferred ∙ ap type_of_rows (same_values (filter is_row (needed_lines number (lines bytes))) h.values values (subst (λ (z : List (List ℕ)). StandFor z h.values) all h.rows) rows)

  -- the source has a byte
  not_empty : 0 < length bytes → HasNoByte number byte_limit old new → ⊥
  not_empty some h =
      let l = left_of old.left new.left bytes [] told h.takes.consumed in
      let none : l.0 ≡ [] = subst IsAtEnd l.1 h.end in
      omega (arith, some, ap length (l.2 ∙ none))

  module _ (some : 0 < length bytes) (may_take : 0 < byte_limit) (same : new.faults ≡ old.faults) (below : new.faults < last_count)
      (fits : size_of_lines (needed_lines number (lines bytes)) ≤ byte_limit) where
    only_memory : (e : Error) → NoType number byte_limit old new e → e ≡ OutOfMemory
    only_memory (ReadFault (Some line)) h = absurd (not_risen old.faults new.faults same below h.cause)
    only_memory LimitExceeded (inl h) = absurd (omega (arith, fits, past_by may_take h (no_more_each number (h.taken ++ h.byte ∷ []) h.no_more)))
    only_memory LimitExceeded (inr h) = let v = row_stands HoldsTooMany h in absurd (within h.row v.0 v.1 h.holds)
    only_memory (ExternalFormat reason.Utf8Line) h = absurd (never_utf8 h)
    only_memory (ExternalFormat reason.Json) h = let v = row_stands _ h in absurd (h.holds.1 v.0 (as_text v.0 h.row v.1))
    only_memory (ExternalFormat reason.EmptyInput) h = absurd (not_empty some h)
    only_memory OutOfMemory h = refl
    only_memory e h = absurd h

    answers : (result : Result DataType Error) → IfOk result (InfersType number byte_limit old new) → IfErr result (NoType number byte_limit old new)
        → (result ≡ Ok (type_of_rows values)) ⊎ (result ≡ Err OutOfMemory)
    answers (Ok data_type) ok err = inl (ap Ok (same_type data_type ok))
    answers (Err e) ok err = inr (ap Err (only_memory e err))

pub complete : (number : Option ℕ) (byte_limit : ℕ) (old new : Told) (result : Result DataType Error) → IfOk result (InfersType number byte_limit old new)
    → IfErr result (NoType number byte_limit old new) → IsComplete number byte_limit old new result
complete number byte_limit old new result ok err bytes values told some may_take same below fits utf8 rows =
    answers number byte_limit old new bytes values told utf8 rows some may_take same below fits result ok err

-- the count of faults never falls
type_rises : (number : Option ℕ) (byte_limit : ℕ) (old new : Told) (e : Error) → NoType number byte_limit old new e → old.faults ≤ new.faults
type_rises number byte_limit old new (ReadFault (Some line)) h = h.takes.faults
type_rises number byte_limit old new LimitExceeded (inl h) = h.faults
type_rises number byte_limit old new LimitExceeded (inr h) = h.takes.faults
type_rises number byte_limit old new (ExternalFormat reason.Utf8Line) h = h.takes.faults
type_rises number byte_limit old new (ExternalFormat reason.Json) h = h.takes.faults
type_rises number byte_limit old new (ExternalFormat reason.EmptyInput) h = h.takes.faults
type_rises number byte_limit old new OutOfMemory h = h.takes.faults
type_rises number byte_limit old new e h = absurd h

pub rises : (number : Option ℕ) (byte_limit : ℕ) (old new : Told) (result : Result DataType Error) → IfOk result (InfersType number byte_limit old new)
    → IfErr result (NoType number byte_limit old new) → old.faults ≤ new.faults
rises number byte_limit old new (Ok data_type) ok err = ok.takes.faults
rises number byte_limit old new (Err e) ok err = type_rises number byte_limit old new e err
