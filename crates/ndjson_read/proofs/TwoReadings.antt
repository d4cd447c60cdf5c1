-- Two readings of the same bytes end alike.
use Rattle.std.proofs.Common.{◌≡◌, ◌≢◌, ℕ, zero, suc, ◌+◌, ◌<◌, ◌≤◌, inl, inr, true, List, [], ◌∷◌, ◌++◌, length, take, drop, get_or, Option, Some, None, refl, sym, ap, ◌∙◌, subst, append-nil, arith}
use Rattle.std.specs.Prelude.{filter, All, IsUtf8, ◌⊎◌}
use Rattle.std.specs.Io.KnownBytes.{Consumes, IsAtEnd}
use Rattle.std.proofs.lemmas.Bool.{cases_lt}
use Rattle.std.proofs.lemmas.List.{length-append}
use Rattle.std.proofs.lemmas.List.Elements.{All-append, All-cons, All-nil, filter-append}
use Rattle.std.proofs.lemmas.Option.{same_Some}
use Rattle.std.proofs.Math.Seq.{take-append_seam}
use Rattle.arrow_base.specs.Outside.{RoseOrFull}
use Rattle.arrow_core.specs.declared.error.Error.{Error}
use Rattle.arrow_core.specs.declared.error.Error.TheVariants.{ExternalFormat, LimitExceeded, ReadFault, OutOfMemory}
use Rattle.arrow_core.specs.declared.error.Reason.TheVariants as reason
use Rattle.arrow_core.specs.declared.types.DataType.{DataType}
use Rattle.json_tree.specs.declared.value.Value.{Value}
use Rattle.json_tree.specs.Meaning.{IsJson}
use Rattle.json_tree.proofs.Answering.{within}
use Rattle.json_infer.specs.Inferred.{type_of_rows}
use Rattle.ndjson_read.specs.Lines.{lines, is_row, rows_of, EndsLine}
use Rattle.ndjson_read.proofs.LineLemmas.{lines-append}
use Rattle.ndjson_read.specs.Needed.{first_rows, StandFor, Fewer, IsNeeded, EachNeeded, NoMore}
use Rattle.ndjson_read.specs.Inference.{Told, NoValue, AreWhole, InfersType, PassesLimit, EndsAtRow, NoType}
use Rattle.ndjson_read.specs.Laws.{IsTold, OneErrorComes, OneTypeComes, TypeOrError}
use Rattle.ndjson_read.proofs.Complete.{first_of_needed, left_of, next_needed}
use Rattle.ndjson_read.proofs.LineLists.{all_needed, join, joined, rows_in}
use Rattle.ndjson_read.proofs.RowTypeLemmas.{no_lines}
use Rattle.ndjson_read.proofs.Values.{as_text, same_values, stand_for-length, stands_for}

-- ---- beginnings of the same bytes

nothing_in : (xs : List ℕ) → length xs ≡ 0 → xs ≡ []
nothing_in [] none = refl
nothing_in (x ∷ xs) none = absurd (omega (arith, none))

-- the longer one goes on from the shorter
further : (one rest other left : List ℕ) → one ++ rest ≡ other ++ left → length one ≤ length other → (more : List ℕ) × (other ≡ one ++ more)
further [] rest other left is short = (other, refl)
further (x ∷ one) rest [] left is short = absurd (omega (arith, short))
further (x ∷ one) rest (y ∷ other) left is short =
    let m = further one rest other left (ap (drop 1) is) (omega (arith, short)) in
    let same : x ≡ y = ap (λ (z : List ℕ). get_or z 0 0) is in
    (m.0, ap (λ (z : List ℕ). y ∷ z) m.1 ∙ ap (λ (z : ℕ). z ∷ (one ++ m.0)) (sym same))

some_lines : (byte : ℕ) (bytes : List ℕ) → 0 < length (lines (byte ∷ bytes))
some_lines byte bytes = from (lines (byte ∷ bytes)) refl
  where
    from : (all : List (List ℕ)) → lines (byte ∷ bytes) ≡ all → 0 < length all
    from [] is = let none : byte ∷ bytes ≡ [] = sym (joined (byte ∷ bytes)) ∙ ap join is in absurd (omega (arith, ap length none))
    from (line ∷ all) is = omega arith

-- ---- readings that end at whole lines

-- These bytes were taken of all, within the limit: whole lines, or all of the bytes. Each line was needed, and another one isn't, unless
-- there is none.
record Stops (number : Option ℕ) (byte_limit : ℕ) (bytes taken : List ℕ) : Type 0 where
  rest : List ℕ
  parts : bytes ≡ taken ++ rest
  limit : length taken ≤ byte_limit
  whole : EndsLine taken ⊎ (rest ≡ [])
  each : EachNeeded number (lines taken)
  last : IsNeeded number (lines taken) → rest ≡ []

-- one byte more than the limit was taken, and each line was needed
record Passes (number : Option ℕ) (byte_limit : ℕ) (bytes taken : List ℕ) : Type 0 where
  rest : List ℕ
  parts : bytes ≡ taken ++ rest
  past : length taken ≡ byte_limit + 1
  each : EachNeeded number (lines taken)

module _ (number : Option ℕ) (byte_limit : ℕ) (bytes : List ℕ) where
  -- where another line was begun, it was needed
  begun : (taken : List ℕ) (byte : ℕ) (more : List ℕ) → EndsLine taken → EachNeeded number (lines (taken ++ byte ∷ more)) → IsNeeded number (lines taken)
  begun taken byte more ends each =
      let split = lines-append taken (byte ∷ more) ends in
      subst (IsNeeded number) (ap (take (length (lines taken))) split ∙ take-append_seam (lines taken) (lines (byte ∷ more)))
      (each (length (lines taken)) (omega (arith, ap length split, length-append (lines taken) (lines (byte ∷ more)), some_lines byte more)))

  no_rest : (taken more : List ℕ) (s : Stops number byte_limit bytes taken) → EachNeeded number (lines (taken ++ more)) → EndsLine taken ⊎ (s.rest ≡ []) → (more ≡ []) ⊎ (s.rest ≡ [])
  no_rest taken more s each (inr none) = inr none
  no_rest taken [] s each (inl ends) = inl refl
  no_rest taken (byte ∷ more) s each (inl ends) = inr (s.last (begun taken byte more ends each))

  -- so nothing goes on from there
  none_further : (taken more left : List ℕ) (s : Stops number byte_limit bytes taken) → bytes ≡ (taken ++ more) ++ left → EachNeeded number (lines (taken ++ more)) → more ≡ []
  none_further taken more left s parts each = from (no_rest taken more s each s.whole)
    where
      from : (more ≡ []) ⊎ (s.rest ≡ []) → more ≡ []
      from (inl none) = none
      from (inr none) =
          nothing_in more (omega (arith, ap length none, ap length s.parts, ap length parts, length-append taken s.rest, length-append (taken ++ more) left, length-append taken more))

  longer : (one other : List ℕ) (s : Stops number byte_limit bytes one) (left : List ℕ) → bytes ≡ other ++ left → length one ≤ length other → EachNeeded number (lines other) → other ≡ one
  longer one other s left parts short each =
      let m = further one s.rest other left (sym s.parts ∙ parts) short in
      let none = none_further one m.0 left s (parts ∙ ap (λ (z : List ℕ). z ++ left) m.1) (subst (λ (z : List ℕ). EachNeeded number (lines z)) m.1 each) in
      m.1 ∙ ap (λ (z : List ℕ). one ++ z) none ∙ append-nil one

  one_stop : (one other : List ℕ) → Stops number byte_limit bytes one → Stops number byte_limit bytes other → one ≡ other
  one_stop one other s t = from (cases_lt (length one) (length other))
    where
      from : (length one < length other) ⊎ (length other ≤ length one) → one ≡ other
      from (inl less) = sym (longer one other s t.rest t.parts (omega (arith, less)) t.each)
      from (inr most) = longer other one t s.rest s.parts most s.each

  stops_or_passes : (one other : List ℕ) → Stops number byte_limit bytes one → Passes number byte_limit bytes other → ⊥
  stops_or_passes one other s p =
      let same = longer one other s p.rest p.parts (omega (arith, s.limit, p.past)) p.each in
      omega (arith, s.limit, p.past, ap length same)

-- ---- what is wrong with bytes that were taken, and their type

-- the last line is a row that has no value, by the error that says so
record FaultyRow (taken : List ℕ) (e : Error) : Type 0 where
  before : List (List ℕ)
  row : List ℕ
  last : lines taken ≡ before ++ row ∷ []
  shown : is_row row ≡ true
  utf8 : IsUtf8 row
  fault : NoValue row e
  other : e ≢ OutOfMemory

abbrev Wrong : List ℕ → Error → Type 0
Wrong taken e = ((e ≡ ExternalFormat reason.EmptyInput) × (taken ≡ [])) ⊎ ((e ≡ ExternalFormat reason.Utf8Line) × (All IsUtf8 (lines taken) → ⊥)) ⊎ FaultyRow taken e

record Typed (taken : List ℕ) (t : DataType) : Type 0 where
  some : 0 < length taken
  utf8 : All IsUtf8 (lines taken)
  values : List Value
  rows : StandFor (rows_of taken) values
  is : t ≡ type_of_rows values

all_utf8 : (taken : List ℕ) → taken ≡ [] → All IsUtf8 (lines taken)
all_utf8 taken none = subst (All IsUtf8) (sym (ap lines none ∙ no_lines)) (All-nil IsUtf8)

no_row_in : (taken : List ℕ) (e : Error) → taken ≡ [] → FaultyRow taken e → ⊥
no_row_in taken e none r = omega (arith, ap length (sym (ap lines none ∙ no_lines) ∙ r.last), length-append r.before (r.row ∷ []))

last_of : List (List ℕ) → List ℕ
last_of [] = []
last_of (line ∷ []) = line
last_of (line ∷ next ∷ all) = last_of (next ∷ all)

last_is : (prefix : List (List ℕ)) (last : List ℕ) → last_of (prefix ++ last ∷ []) ≡ last
unfolding last_of
last_is [] last = refl
last_is (line ∷ []) last = refl
last_is (line ∷ next ∷ prefix) last = last_is (next ∷ prefix) last

one_fault : (row : List ℕ) (e d : Error) → NoValue row e → NoValue row d → e ≢ OutOfMemory → d ≢ OutOfMemory → e ≡ d
one_fault row LimitExceeded LimitExceeded h k other also = refl
one_fault row LimitExceeded (ExternalFormat reason.Json) h k other also = absurd (k.0 h)
one_fault row LimitExceeded OutOfMemory h k other also = absurd (also refl)
one_fault row LimitExceeded _ h k other also = absurd k
one_fault row (ExternalFormat reason.Json) LimitExceeded h k other also = absurd (h.0 k)
one_fault row (ExternalFormat reason.Json) (ExternalFormat reason.Json) h k other also = refl
one_fault row (ExternalFormat reason.Json) OutOfMemory h k other also = absurd (also refl)
one_fault row (ExternalFormat reason.Json) _ h k other also = absurd k
one_fault row OutOfMemory d h k other also = absurd (other refl)
one_fault row _ d h k other also = absurd h

faultless : (row : List ℕ) (value : Value) (e : Error) → IsJson value row → NoValue row e → e ≢ OutOfMemory → ⊥
faultless row value LimitExceeded json h other = within row value json h
faultless row value (ExternalFormat reason.Json) json h other = h.1 value (as_text value row json)
faultless row value OutOfMemory json h other = other refl
faultless row value _ json h other = h

-- rows with a faulty one at their end don't all stand for values
no_values : (taken : List ℕ) (e : Error) (values : List Value) → FaultyRow taken e → StandFor (rows_of taken) values → ⊥
no_values taken e values r rows =
    let one : filter is_row (r.row ∷ []) ≡ r.row ∷ [] = rw r.shown refl in
    let all = ap (filter is_row) r.last ∙ filter-append is_row r.before (r.row ∷ []) ∙ ap (λ (z : List (List ℕ)). filter is_row r.before ++ z) one in
    let v = stands_for (filter is_row r.before) r.row [] values (subst (λ (z : List (List ℕ)). StandFor z values) all rows) in
    faultless r.row v.0 e v.1 r.fault r.other

typed_or_wrong : (taken : List ℕ) (t : DataType) (e : Error) → Typed taken t → Wrong taken e → ⊥
typed_or_wrong taken t e h (inl k) = omega (arith, h.some, ap length k.1)
typed_or_wrong taken t e h (inr (inl k)) = k.1 h.utf8
typed_or_wrong taken t e h (inr (inr r)) = no_values taken e h.values r h.rows

one_type : (taken : List ℕ) (t u : DataType) → Typed taken t → Typed taken u → t ≡ u
one_type taken t u h k = h.is ∙ ap type_of_rows (same_values (rows_of taken) h.values k.values h.rows k.rows) ∙ sym k.is

module _ (number : Option ℕ) (taken : List ℕ) (each : EachNeeded number (lines taken)) where
  -- the lines before a faulty row are UTF-8, as it is
  utf8_in : (e : Error) → FaultyRow taken e → All IsUtf8 (lines taken)
  utf8_in e r =
      let prefix = next_needed number r.before r.row (subst (EachNeeded number) r.last each) in
      subst (All IsUtf8) (sym r.last) (All-append IsUtf8 r.before (r.row ∷ []) prefix.utf8 (All-cons IsUtf8 r.row [] r.utf8 (All-nil IsUtf8)))

  one_wrong : (e d : Error) → Wrong taken e → Wrong taken d → e ≡ d
  one_wrong e d (inl h) (inl k) = h.0 ∙ sym k.0
  one_wrong e d (inl h) (inr (inl k)) = absurd (k.1 (all_utf8 taken h.1))
  one_wrong e d (inl h) (inr (inr r)) = absurd (no_row_in taken d h.1 r)
  one_wrong e d (inr (inl h)) (inl k) = absurd (h.1 (all_utf8 taken k.1))
  one_wrong e d (inr (inl h)) (inr (inl k)) = h.0 ∙ sym k.0
  one_wrong e d (inr (inl h)) (inr (inr r)) = absurd (h.1 (utf8_in d r))
  one_wrong e d (inr (inr r)) (inl k) = absurd (no_row_in taken e k.1 r)
  one_wrong e d (inr (inr r)) (inr (inl k)) = absurd (k.1 (utf8_in e r))
  one_wrong e d (inr (inr r)) (inr (inr q)) =
      let same : r.row ≡ q.row = sym (last_is r.before r.row) ∙ ap last_of (sym r.last ∙ q.last) ∙ last_is q.before q.row in
      one_fault q.row e d (subst (λ (z : List ℕ). NoValue z e) same r.fault) q.fault r.other q.other

-- ---- lines that were needed

each_of : (number : Option ℕ) (taken : List ℕ) → number ≢ Some 0 → NoMore number taken → EachNeeded number (lines taken)
each_of None taken some h = h
each_of (Some zero) taken some h = absurd (some refl)
each_of (Some (suc number)) taken some h = h

not_fewer : (number : Option ℕ) (rows : ℕ) → number ≡ Some rows → Fewer rows number → ⊥
not_fewer None rows is few = cc
not_fewer (Some number) rows is few = omega (arith, same_Some number rows is, few)

-- ---- what each answer says of the told bytes

-- the reading of these bytes ended so
abbrev Ends : Option ℕ → ℕ → List ℕ → Error → Type 0
Ends number byte_limit bytes e =
    (e ≡ OutOfMemory) ⊎ ((e ≡ LimitExceeded) × ((taken : List ℕ) × Passes number byte_limit bytes taken)) ⊎ ((taken : List ℕ) × Stops number byte_limit bytes taken × Wrong taken e)

module _ (number : Option ℕ) (byte_limit : ℕ) (bytes : List ℕ) (old new : Told) (told : old.left ≡ Some bytes) where
  stopped : (taken : List ℕ) → Consumes old.left new.left taken → length taken ≤ byte_limit → AreWhole taken new → EachNeeded number (lines taken) → (IsNeeded number (lines taken) → ⊥) ⊎ IsAtEnd new.left
      → Stops number byte_limit bytes taken
  stopped taken consumed limit whole each ended =
      let l = left_of old.left new.left bytes taken told consumed in
      record { rest = l.0; parts = l.2; limit = limit; whole = in_whole l.0 l.1 whole; each = each; last = at_last l.0 l.1 ended }
    where
      in_whole : (rest : List ℕ) → new.left ≡ Some rest → AreWhole taken new → EndsLine taken ⊎ (rest ≡ [])
      in_whole rest is (inl ends) = inl ends
      in_whole rest is (inr end) = inr (subst IsAtEnd is end)

      at_last : (rest : List ℕ) → new.left ≡ Some rest → (IsNeeded number (lines taken) → ⊥) ⊎ IsAtEnd new.left → IsNeeded number (lines taken) → rest ≡ []
      at_last rest is (inl none) needed = absurd (none needed)
      at_last rest is (inr end) needed = subst IsAtEnd is end

  at_row : (e : Error) → e ≢ OutOfMemory → EndsAtRow number byte_limit old new (λ row. NoValue row e) → Ends number byte_limit bytes e
  at_row e other h =
      let r : FaultyRow h.taken e = record { before = h.before; row = h.row; last = h.last; shown = h.shown; utf8 = h.utf8; fault = h.holds; other = other } in
      inr (inr (h.taken, stopped h.taken h.takes.consumed h.takes.limit h.whole h.each (inl (λ needed. no_values h.taken e needed.json.0 r needed.json.1)), inr (inr r)))

  module _ (some : number ≢ Some 0) where
    past : (h : PassesLimit number byte_limit old new) → Passes number byte_limit bytes (h.taken ++ h.byte ∷ [])
    past h =
        let l = left_of old.left new.left bytes (h.taken ++ h.byte ∷ []) told h.consumed in
        record { rest = l.0; parts = l.2; past = omega (arith, length-append h.taken (h.byte ∷ []), h.limit); each = each_of number (h.taken ++ h.byte ∷ []) some h.no_more }

    ends_so : (e : Error) → (RoseOrFull old.faults new.faults → ⊥) → NoType number byte_limit old new e → Ends number byte_limit bytes e
    ends_so (ReadFault (Some line)) steady h = absurd (steady h.cause)
    ends_so LimitExceeded steady (inl h) = inr (inl (refl, (h.taken ++ h.byte ∷ [], past h)))
    ends_so LimitExceeded steady (inr h) = at_row LimitExceeded (λ is. cc) h
    ends_so (ExternalFormat reason.Utf8Line) steady h =
        inr (inr (h.taken, stopped h.taken h.takes.consumed h.takes.limit h.whole h.each (inl (λ needed. h.wrong needed.utf8)), inr (inl (refl, h.wrong))))
    ends_so (ExternalFormat reason.Json) steady h = at_row (ExternalFormat reason.Json) (λ is. cc) h
    ends_so (ExternalFormat reason.EmptyInput) steady h =
        inr (inr ([], stopped [] h.takes.consumed h.takes.limit (inr h.end) (λ k below. absurd (omega (arith, below, ap length no_lines))) (inr h.end), inl (refl, refl)))
    ends_so OutOfMemory steady h = inl refl
    ends_so e steady h = absurd h

    stops_typed : (t : DataType) → InfersType number byte_limit old new t → (taken : List ℕ) × Stops number byte_limit bytes taken × Typed taken t
    stops_typed t h =
        let each = each_of number h.taken some h.no_more in
        let first = first_of_needed number (lines h.taken) each in
        let count : rows_in (lines h.taken) ≡ length h.values = ap length (sym first) ∙ stand_for-length (first_rows number (rows_of h.taken)) h.values h.rows in (
          h.taken,
          stopped h.taken h.takes.consumed h.takes.limit (in_whole h.enough) each (at_last count h.enough),
          record {
            some = h.some;
            utf8 = subst (All IsUtf8) (all_needed number (lines h.taken) each) h.utf8;
            values = h.values;
            rows = subst (λ (z : List (List ℕ)). StandFor z h.values) first h.rows;
            is = h.inferred;
          },
        )
      where
        in_whole : ((number ≡ Some (length h.values)) × (EndsLine h.taken ⊎ (number ≡ Some 0))) ⊎ IsAtEnd new.left → AreWhole h.taken new
        in_whole (inl (is, inl ends)) = inl ends
        in_whole (inl (is, inr none)) = absurd (some none)
        in_whole (inr end) = inr end

        at_last : rows_in (lines h.taken) ≡ length h.values → ((number ≡ Some (length h.values)) × (EndsLine h.taken ⊎ (number ≡ Some 0))) ⊎ IsAtEnd new.left
            → (IsNeeded number (lines h.taken) → ⊥) ⊎ IsAtEnd new.left
        at_last count (inl (is, ends)) = inl (λ needed. not_fewer number (rows_in (lines h.taken)) (is ∙ ap Some (sym count)) needed.fewer)
        at_last count (inr end) = inr end

-- ---- where no rows are asked for

-- no line is needed then
no_line : (all : List (List ℕ)) → EachNeeded (Some 0) all → length all ≡ 0
no_line [] each = refl
no_line (line ∷ all) each = absurd (omega (arith, (each 0 (omega arith)).fewer))

-- the reading of these bytes for no rows ended so
abbrev EndsAtOnce : ℕ → List ℕ → Error → Type 0
EndsAtOnce byte_limit bytes e =
    (e ≡ OutOfMemory) ⊎ ((e ≡ LimitExceeded) × (byte_limit ≡ 0) × (0 < length bytes)) ⊎ ((e ≡ ExternalFormat reason.EmptyInput) × (length bytes ≡ 0))

none_stand : (values : List Value) → StandFor [] values → values ≡ []
none_stand [] h = refl
none_stand (value ∷ values) h = absurd h

module _ (byte_limit : ℕ) (bytes : List ℕ) (old new : Told) (told : old.left ≡ Some bytes) where
  no_row_at : (Holds : List ℕ → Type 0) → EndsAtRow (Some 0) byte_limit old new Holds → ⊥
  no_row_at Holds h = omega (arith, no_line (lines h.taken) h.each, ap length h.last, length-append h.before (h.row ∷ []))

  ends_at_once : (e : Error) → (RoseOrFull old.faults new.faults → ⊥) → NoType (Some 0) byte_limit old new e → EndsAtOnce byte_limit bytes e
  ends_at_once (ReadFault (Some line)) steady h = absurd (steady h.cause)
  ends_at_once LimitExceeded steady (inl h) =
      let l = left_of old.left new.left bytes (h.taken ++ h.byte ∷ []) told h.consumed in
      let size = length-append h.taken (h.byte ∷ []) in
      inr (inl (refl, omega (arith, size, h.limit, h.no_more), omega (arith, size, ap length l.2, length-append (h.taken ++ h.byte ∷ []) l.0)))
  ends_at_once LimitExceeded steady (inr h) = absurd (no_row_at _ h)
  ends_at_once (ExternalFormat reason.Utf8Line) steady h = absurd (h.wrong (λ k d below. absurd (omega (arith, no_line (lines h.taken) h.each, below))))
  ends_at_once (ExternalFormat reason.Json) steady h = absurd (no_row_at _ h)
  ends_at_once (ExternalFormat reason.EmptyInput) steady h =
      let l = left_of old.left new.left bytes [] told h.takes.consumed in
      let none : l.0 ≡ [] = subst IsAtEnd l.1 h.end in
      inr (inr (refl, omega (arith, ap length l.2, ap length none)))
  ends_at_once OutOfMemory steady h = inl refl
  ends_at_once e steady h = absurd h

  typed_at_once : (t : DataType) → InfersType (Some 0) byte_limit old new t → (0 < byte_limit) × (0 < length bytes) × (t ≡ type_of_rows [])
  typed_at_once t h =
      let l = left_of old.left new.left bytes h.taken told h.takes.consumed in (
        omega (arith, h.some, h.takes.limit),
        omega (arith, h.some, ap length l.2, length-append h.taken l.0),
        h.inferred ∙ ap type_of_rows (none_stand h.values h.rows),
      )

-- ---- two readings

-- whether rows are asked for
some_asked : (number : ℕ) → Some (suc number) ≢ Some 0
some_asked number is = omega (arith, same_Some (suc number) 0 is)

all_asked : ◌≡◌ {A = Option ℕ} None (Some 0) → ⊥
all_asked is = cc

module _ (byte_limit : ℕ) (bytes : List ℕ) (old new other another : Told) (one : IsTold bytes old new) (two : IsTold bytes other another) where
  abbrev AreOne : Error → Error → Type 0
  AreOne e d = (e ≡ d) ⊎ (e ≡ OutOfMemory) ⊎ (d ≡ OutOfMemory)

  module _ (number : Option ℕ) (some : number ≢ Some 0) where
    both : (e d : Error) → Ends number byte_limit bytes e → Ends number byte_limit bytes d → AreOne e d
    both e d (inl memory) k = inr (inl memory)
    both e d (inr h) (inl memory) = inr (inr memory)
    both e d (inr (inl p)) (inr (inl q)) = inl (p.0 ∙ sym q.0)
    both e d (inr (inl p)) (inr (inr k)) = absurd (stops_or_passes number byte_limit bytes k.0 p.1.0 k.1 p.1.1)
    both e d (inr (inr h)) (inr (inl q)) = absurd (stops_or_passes number byte_limit bytes h.0 q.1.0 h.1 q.1.1)
    both e d (inr (inr h)) (inr (inr k)) =
        let same = one_stop number byte_limit bytes h.0 k.0 h.1 k.1 in
        let stop = k.1 in
        inl (one_wrong number k.0 stop.each e d (subst (λ (z : List ℕ). Wrong z e) same h.2) k.2)

    errors : (e d : Error) → NoType number byte_limit old new e → NoType number byte_limit other another d → AreOne e d
    errors e d h k =
        both e d (ends_so number byte_limit bytes old new one.told some e one.steady h) (ends_so number byte_limit bytes other another two.told some d two.steady k)

    type_or : (t : DataType) (d : Error) → InfersType number byte_limit old new t → Ends number byte_limit bytes d → d ≡ OutOfMemory
    type_or t d h (inl memory) = memory
    type_or t d h (inr (inl q)) =
        let s = stops_typed number byte_limit bytes old new one.told some t h in
        absurd (stops_or_passes number byte_limit bytes s.0 q.1.0 s.1 q.1.1)
    type_or t d h (inr (inr k)) =
        let s = stops_typed number byte_limit bytes old new one.told some t h in
        let same = one_stop number byte_limit bytes s.0 k.0 s.1 k.1 in
        absurd (typed_or_wrong k.0 t d (subst (λ (z : List ℕ). Typed z t) same s.2) k.2)

    type_or_error : (t : DataType) (d : Error) → InfersType number byte_limit old new t → NoType number byte_limit other another d → d ≡ OutOfMemory
    type_or_error t d h k = type_or t d h (ends_so number byte_limit bytes other another two.told some d two.steady k)

    types : (t u : DataType) → InfersType number byte_limit old new t → InfersType number byte_limit other another u → t ≡ u
    types t u h k =
        let s = stops_typed number byte_limit bytes old new one.told some t h in
        let r = stops_typed number byte_limit bytes other another two.told some u k in
        let same = one_stop number byte_limit bytes s.0 r.0 s.1 r.1 in
        one_type r.0 t u (subst (λ (z : List ℕ). Typed z t) same s.2) r.2

  both_at_once : (e d : Error) → EndsAtOnce byte_limit bytes e → EndsAtOnce byte_limit bytes d → AreOne e d
  both_at_once e d (inl memory) k = inr (inl memory)
  both_at_once e d (inr h) (inl memory) = inr (inr memory)
  both_at_once e d (inr (inl p)) (inr (inl q)) = inl (p.0 ∙ sym q.0)
  both_at_once e d (inr (inl p)) (inr (inr q)) = absurd (omega (arith, p.2, q.1))
  both_at_once e d (inr (inr p)) (inr (inl q)) = absurd (omega (arith, q.2, p.1))
  both_at_once e d (inr (inr p)) (inr (inr q)) = inl (p.0 ∙ sym q.0)

  type_or_at_once : (d : Error) → (0 < byte_limit) × (0 < length bytes) → EndsAtOnce byte_limit bytes d → d ≡ OutOfMemory
  type_or_at_once d some (inl memory) = memory
  type_or_at_once d some (inr (inl q)) = absurd (omega (arith, some.0, q.1))
  type_or_at_once d some (inr (inr q)) = absurd (omega (arith, some.1, q.1))

pub one_error_comes : OneErrorComes
one_error_comes None byte_limit bytes old new other another e d one two h k = errors byte_limit bytes old new other another one two None all_asked e d h k
one_error_comes (Some zero) byte_limit bytes old new other another e d one two h k =
    both_at_once byte_limit bytes old new other another one two e d (ends_at_once byte_limit bytes old new one.told e one.steady h) (ends_at_once byte_limit bytes other another two.told d two.steady k)
one_error_comes (Some (suc number)) byte_limit bytes old new other another e d one two h k =
    errors byte_limit bytes old new other another one two (Some (suc number)) (some_asked number) e d h k

pub type_or_error_comes : TypeOrError
type_or_error_comes None byte_limit bytes old new other another t d one two h k = type_or_error byte_limit bytes old new other another one two None all_asked t d h k
type_or_error_comes (Some zero) byte_limit bytes old new other another t d one two h k =
    let some = typed_at_once byte_limit bytes old new one.told t h in
    type_or_at_once byte_limit bytes old new other another one two d (some.0, some.1) (ends_at_once byte_limit bytes other another two.told d two.steady k)
type_or_error_comes (Some (suc number)) byte_limit bytes old new other another t d one two h k =
    type_or_error byte_limit bytes old new other another one two (Some (suc number)) (some_asked number) t d h k

pub one_type_comes : OneTypeComes
one_type_comes None byte_limit bytes old new other another t u one two h k = types byte_limit bytes old new other another one two None all_asked t u h k
one_type_comes (Some zero) byte_limit bytes old new other another t u one two h k =
    let some = typed_at_once byte_limit bytes old new one.told t h in
    let also = typed_at_once byte_limit bytes other another two.told u k in
    some.2 ∙ sym also.2
one_type_comes (Some (suc number)) byte_limit bytes old new other another t u one two h k =
    types byte_limit bytes old new other another one two (Some (suc number)) (some_asked number) t u h k
