-- Rows that are added one after another, and what ends them.
use Rattle.std.proofs.Common.{◌≡◌, ◌≢◌, ℕ, zero, suc, ◌+◌, ◌-◌, ◌<◌, ◌≤◌, min, inl, inr, true, false, Bool, cond, List, [], ◌∷◌, ◌++◌, length, take, Option, Some, None, Result, Ok, Err, IfOk, IfErr, refl, sym, ap, ap₂, ◌∙◌, subst, append_assoc, append-nil, drop_at, arith}
use Rattle.std.specs.Prelude.{filter, All, IsUtf8, ◌⊎◌}
use Rattle.std.specs.Option.{option_map}
use Rattle.std.specs.Io.KnownBytes.{IsAtEnd}
use Rattle.std.proofs.KnownBytes.{Consumes-nil}
use Rattle.std.proofs.lemmas.Bool.{cases_lt}
use Rattle.std.proofs.lemmas.List.{length-append, take-append-le}
use Rattle.std.proofs.Math.Seq.{take-append-add}
use Rattle.std.proofs.lemmas.List.Elements.{All-append, All-drop, All-nil, filter-append}
use Rattle.std.proofs.lemmas.List.Sums.{sum_by-append}
use Rattle.arrow_base.specs.Outside.{last_count}
use Rattle.arrow_core.specs.declared.error.Error.{Error}
use Rattle.arrow_core.specs.declared.error.Error.TheVariants.{ExternalFormat, LimitExceeded, ReadFault, OutOfMemory}
use Rattle.arrow_core.specs.declared.error.Reason.TheVariants as reason
use Rattle.arrow_core.specs.declared.types.DataType.{DataType}
use Rattle.json_tree.specs.declared.value.Value.{Value}
use Rattle.json_infer.specs.Inferred.{type_of_rows}
use Rattle.ndjson_read.specs.FileReader.{fewer_of}
use Rattle.ndjson_read.specs.Lines.{lines, line_feeds, is_line_feed, is_row, rows_of, EndsLine, IsWanted, EachWanted}
use Rattle.ndjson_read.specs.Reading as reading
use Rattle.ndjson_read.specs.Reading.{State, Takes, n_more}
use Rattle.ndjson_read.proofs.LineLemmas.{lines-append, line_feeds-part, EndsLine-append}
use Rattle.ndjson_read.proofs.RowLemmas.{takes_nothing, takes_more, past_more, rose_after}
use Rattle.ndjson_read.specs.Needed.{StandFor, Fewer, IsNeeded, EachNeeded, NoMore}
use Rattle.ndjson_read.specs.Inference.{Told, TakesBytes, InfersType, ReadFails, PassesLimit, LineNotUtf8, EndsAtRow, HasNoByte, NoMemory, NoType}
use Rattle.ndjson_read.specs.SoFar.{AddsRow, ShowsFaulty, NoRow, RowsSoFar, told, AddedSoFar}
use Rattle.ndjson_read.proofs.LineLists.{all_needed, joined, join, rows_in, rows_in-append, rows_within}
use Rattle.ndjson_read.proofs.RowTypeLemmas.{no_lines, shown_last, last_utf8}
use Rattle.ndjson_read.proofs.Complete.{first_of_needed}
use Rattle.ndjson_read.proofs.Values.{stand_for-length, stand_for-append}

pub no_rows_yet : (number : Option ℕ) (s : State) → RowsSoFar number s s []
no_rows_yet number s = record {
  taken = [];
  takes = takes_nothing s;
  whole = inl refl;
  utf8 = subst (All IsUtf8) (sym no_lines) (All-nil IsUtf8);
  each = λ k below. absurd (omega (arith, below, ap length no_lines));
  rows = subst (λ (z : List (List ℕ)). StandFor (filter is_row z) []) (sym no_lines) tt;
  counted = grind (arith, ap length no_lines);
}

each_no_more : (number : Option ℕ) (taken : List ℕ) → number ≢ Some 0 → EachNeeded number (lines taken) → NoMore number taken
each_no_more None taken some each = each
each_no_more (Some zero) taken some each = absurd (some refl)
each_no_more (Some (suc number)) taken some each = each

-- so many rows are wanted of the next batch, after these
abbrev pub wanted_after : Option ℕ → ℕ → ℕ
wanted_after number rows = fewer_of (option_map (λ n. n - rows) number) 1

pub wanted_few : (number : Option ℕ) (rows : ℕ) → wanted_after number rows ≤ 1
wanted_few None rows = omega arith
wanted_few (Some n) rows = grind arith

wanted_due : (number : Option ℕ) (rows : ℕ) → 0 < wanted_after number rows → Fewer rows number
wanted_due None rows h = tt
wanted_due (Some n) rows h = grind (arith, h)

none_wanted : (number : Option ℕ) (rows : ℕ) (all : List (List ℕ)) → wanted_after number rows ≡ 0 → EachNeeded number all → rows_in all ≡ rows → number ≡ Some rows
none_wanted None rows all none each count = absurd (omega (arith, none))
none_wanted (Some n) rows all none each count =
    let most = rows_within n all (λ k below. (each k below).fewer) in
    let past : n - rows ≡ 0 = grind (arith, none) in
    ap Some (omega (arith, most, count, past))

no_line_of : (wanted : ℕ) (all : List (List ℕ)) → wanted ≡ 0 → EachWanted wanted all → all ≡ []
no_line_of wanted [] none each = refl
no_line_of wanted (line ∷ all) none each = absurd (omega (arith, none, (each 0 (omega arith)).fewer))

no_bytes_of : (bytes : List ℕ) → lines bytes ≡ [] → bytes ≡ []
no_bytes_of bytes none = sym (joined bytes) ∙ ap join none

fewer_still : (number : Option ℕ) (rows more : ℕ) → Fewer rows number → more ≡ 0 → Fewer (rows + more) number
fewer_still None rows more h none = tt
fewer_still (Some n) rows more h none = omega (arith, h, none)

no_row_in : (all : List (List ℕ)) → rows_in all ≡ 0 → filter is_row all ≡ []
no_row_in all none = nothing (filter is_row all) none
  where
    nothing : (rows : List (List ℕ)) → length rows ≡ 0 → rows ≡ []
    nothing [] e = refl
    nothing (row ∷ rows) e = absurd (omega (arith, e))

-- the next lines are needed, as they were wanted
module _ (number : Option ℕ) (before : List (List ℕ)) (values : List Value) (utf8 : All IsUtf8 before) (rows : StandFor (filter is_row before) values) (each : EachNeeded number before) where
  count : rows_in before ≡ length values
  count = stand_for-length (filter is_row before) values rows

  needed_after : (part : List (List ℕ)) → IsWanted (wanted_after number (length values)) part → IsNeeded number (before ++ part)
  needed_after part w =
      let few = wanted_few number (length values) in
      let none : rows_in part ≡ 0 = omega (arith, few, w.fewer) in
      let due = wanted_due number (length values) (omega (arith, w.fewer)) in
      record {
        fewer = subst (λ (z : ℕ). Fewer z number) (ap (λ (z : ℕ). z + rows_in part) (sym count) ∙ sym (rows_in-append before part)) (fewer_still number (length values) (rows_in part) due none);
        utf8 = All-append IsUtf8 before part utf8 w.utf8;
        json = (
          values,
          subst (λ (z : List (List ℕ)). StandFor z values)
              (sym (append-nil (filter is_row before)) ∙ ap (λ (z : List (List ℕ)). filter is_row before ++ z) (sym (no_row_in part none)) ∙ sym (filter-append is_row before part)) rows,
        );
      }

  pub each_after : (more : List (List ℕ)) → EachWanted (wanted_after number (length values)) more → EachNeeded number (before ++ more)
  each_after more wanted k below =
      elim (cases_lt k (length before)) [
        | inl early ↦ subst (IsNeeded number) (sym (take-append-le k before more (omega (arith, early)))) (each k early)
        | inr late ↦
            let j = k - length before in
            let at : k ≡ length before + j = omega (arith, late) in
            let inside : j < length more = omega (arith, below, late, length-append before more) in
            subst (IsNeeded number) (sym (ap (λ (n : ℕ). take n (before ++ more)) at ∙ take-append-add before more j)) (needed_after (take j more) (wanted j inside))
      ]

-- rows so far, and then what the next batch takes
module _ (number : Option ℕ) (a b c : State) (values : List Value) (so : RowsSoFar number a b values) where
  more_lines : (taken : List ℕ) → lines (so.taken ++ taken) ≡ lines so.taken ++ lines taken
  more_lines taken = lines-append so.taken taken so.whole

  more_each : (taken : List ℕ) → EachWanted (wanted_after number (length values)) (lines taken) → EachNeeded number (lines (so.taken ++ taken))
  more_each taken wanted = subst (EachNeeded number) (sym (more_lines taken)) (each_after number (lines so.taken) values so.utf8 so.rows so.each (lines taken) wanted)

  more_rows : (taken : List ℕ) → rows_of (so.taken ++ taken) ≡ rows_of so.taken ++ rows_of taken
  more_rows taken = ap (filter is_row) (more_lines taken) ∙ filter-append is_row (lines so.taken) (lines taken)

  more_counted : (taken : List ℕ) → c.lines ≡ n_more b.lines (length (lines taken)) → c.lines ≡ n_more a.lines (length (lines (so.taken ++ taken)))
  more_counted taken counted =
      let size = ap length (more_lines taken) ∙ length-append (lines so.taken) (lines taken) in
      counted ∙ ap (λ (z : ℕ). n_more z (length (lines taken))) so.counted ∙ both a.lines (length (lines so.taken)) (length (lines taken)) ∙ ap (n_more a.lines) (sym size)
    where
      both : (count n m : ℕ) → n_more (n_more count n) m ≡ n_more count (n + m)
      both count n m = grind arith

  pub one_more : (more : List Value) → AddsRow (wanted_after number (length values)) b c more true → RowsSoFar number a c (values ++ more)
  one_more more s = record {
    taken = so.taken ++ s.taken;
    takes = takes_more a b c so.taken s.taken so.takes s.takes;
    whole = EndsLine-append so.taken s.taken so.whole s.whole.0;
    utf8 = subst (All IsUtf8) (sym (more_lines s.taken)) (All-append IsUtf8 (lines so.taken) (lines s.taken) so.utf8 s.utf8);
    each = more_each s.taken s.each;
    rows = subst (λ (z : List (List ℕ)). StandFor z (values ++ more)) (sym (more_rows s.taken)) (stand_for-append (rows_of so.taken) (rows_of s.taken) values more so.rows s.rows);
    counted = more_counted s.taken s.counted;
  }

  -- the bytes that were taken in all
  all_bytes : (taken : List ℕ) → Takes b c taken → TakesBytes a.limit (told a) (told c) (so.taken ++ taken)
  all_bytes taken t = let all = takes_more a b c so.taken taken so.takes t in record { consumed = all.consumed; limit = omega (arith, all.limit); faults = all.faults }

  -- ---- the end

  module _ (more : List Value) (s : AddsRow (wanted_after number (length values)) b c more false) (some : number ≢ Some 0) (fresh : a.lines ≡ 0) where
    abbrev all_taken : List ℕ
    all_taken = so.taken ++ s.taken

    nothing_more : wanted_after number (length values) ≡ 0 → s.taken ≡ []
    nothing_more none = no_bytes_of s.taken (no_line_of (wanted_after number (length values)) (lines s.taken) none s.each)

    enough : IsAtEnd c.left ⊎ (wanted_after number (length values) ≡ 0) → ((number ≡ Some (length (values ++ more))) × (EndsLine all_taken ⊎ (number ≡ Some 0))) ⊎ IsAtEnd c.left
    enough (inl end) = inr end
    enough (inr none) =
        let no_bytes = nothing_more none in
        let count = stand_for-length (rows_of so.taken) values so.rows in
        let added : length more ≡ 0 = sym (stand_for-length (rows_of s.taken) more s.rows) ∙ ap (λ (z : List ℕ). length (rows_of z)) no_bytes ∙ ap (λ (z : List (List ℕ)). length (filter is_row z)) no_lines in
        let all : length values ≡ length (values ++ more) = omega (arith, length-append values more, added) in
        inl (
          none_wanted number (length values) (lines so.taken) none so.each count ∙ ap Some all,
          inl (subst EndsLine (sym (append-nil so.taken) ∙ ap (λ (z : List ℕ). so.taken ++ z) (sym no_bytes)) so.whole),
        )

    counted_all : c.lines ≡ n_more 0 (length (lines all_taken))
    counted_all = more_counted s.taken s.counted ∙ ap (λ (z : ℕ). n_more z (length (lines all_taken))) fresh

    pub infers : c.lines ≢ 0 → InfersType number a.limit (told a) (told c) (type_of_rows (values ++ more))
    infers read =
        let each = more_each s.taken s.each in
        record {
          taken = all_taken;
          values = values ++ more;
          takes = all_bytes s.taken s.takes;
          some = some_bytes all_taken counted_all;
          no_more = each_no_more number all_taken some each;
          utf8 = subst (All IsUtf8) (sym (all_needed number (lines all_taken) each)) all_utf8;
          rows = subst (λ (z : List (List ℕ)). StandFor z (values ++ more)) (sym (first_of_needed number (lines all_taken) each ∙ more_rows s.taken))
              (stand_for-append (rows_of so.taken) (rows_of s.taken) values more so.rows s.rows);
          enough = enough s.whole;
          inferred = refl;
        }
      where
        all_utf8 : All IsUtf8 (lines all_taken)
        all_utf8 = subst (All IsUtf8) (sym (more_lines s.taken)) (All-append IsUtf8 (lines so.taken) (lines s.taken) so.utf8 s.utf8)

        some_bytes : (bytes : List ℕ) → c.lines ≡ n_more 0 (length (lines bytes)) → 0 < length bytes
        some_bytes [] is = let none : c.lines ≡ 0 = grind (arith, is, ap length no_lines) in absurd (read none)
        some_bytes (byte ∷ bytes) is = omega arith

    pub empty : c.lines ≡ 0 → HasNoByte number a.limit (told a) (told c)
    empty read =
        let none : length (lines all_taken) ≡ 0 = grind (arith, counted_all, read) in
        let no_bytes : all_taken ≡ [] = no_bytes_of all_taken (no_items (lines all_taken) none) in
        record { takes = subst (TakesBytes a.limit (told a) (told c)) no_bytes (all_bytes s.taken s.takes); end = ended no_bytes s.whole }
      where
        no_items : (all : List (List ℕ)) → length all ≡ 0 → all ≡ []
        no_items [] e = refl
        no_items (line ∷ all) e = absurd (omega (arith, e))

        ended : all_taken ≡ [] → IsAtEnd c.left ⊎ (wanted_after number (length values) ≡ 0) → IsAtEnd c.left
        ended no_bytes (inl end) = end
        ended no_bytes (inr none) =
            let nothing_taken : so.taken ≡ [] = sym (append-nil so.taken) ∙ ap (λ (z : List ℕ). so.taken ++ z) (sym (nothing_more none)) ∙ no_bytes in
            let count = stand_for-length (rows_of so.taken) values so.rows in
            let zero_rows : length values ≡ 0 = sym count ∙ ap (λ (z : List ℕ). length (rows_of z)) nothing_taken ∙ ap (λ (z : List (List ℕ)). length (filter is_row z)) no_lines in
            absurd (some (none_wanted number (length values) (lines so.taken) none so.each count ∙ ap Some zero_rows))

  -- ---- errors

  module _ (some : number ≢ Some 0) (fresh : a.lines ≡ 0) where
    feeds : (part : List ℕ) → line_feeds (so.taken ++ part) ≡ length (lines so.taken) + line_feeds part
    feeds part =
        let feeds_taken = ap line_feeds (sym (append-nil so.taken)) ∙ line_feeds-part so.taken [] so.whole refl in
        sum_by-append (λ byte. cond (is_line_feed byte) 1 0) so.taken part ∙ ap (λ (z : ℕ). z + line_feeds part) feeds_taken

    read_fails : (line : ℕ) → reading.ReadFails (wanted_after number (length values)) b c line → ReadFails number a.limit (told a) (told c) line
    read_fails line h = record {
      taken = so.taken ++ h.taken;
      takes = all_bytes h.taken h.takes;
      no_more = λ byte. each_no_more number ((so.taken ++ h.taken) ++ byte ∷ []) some
          (subst (λ (z : List ℕ). EachNeeded number (lines z)) (sym (append_assoc so.taken h.taken (byte ∷ []))) (more_each (h.taken ++ byte ∷ []) (h.each byte)));
      cause = rose_after a.faults b.faults c.faults so.takes.faults h.cause;
      counted =
          h.counted ∙ ap (λ (z : ℕ). n_more z (line_feeds h.taken + 1)) (so.counted ∙ ap (λ (z : ℕ). n_more z (length (lines so.taken))) fresh)
          ∙ number_of (length (lines so.taken)) (line_feeds h.taken) ∙ ap (λ (z : ℕ). min (z + 1) last_count) (sym (feeds h.taken));
    }
      where
        number_of : (whole part : ℕ) → n_more (n_more 0 whole) (part + 1) ≡ min (whole + part + 1) last_count
        number_of whole part = grind arith

    passes : reading.PassesLimit (wanted_after number (length values)) b c → PassesLimit number a.limit (told a) (told c)
    passes h =
        let all = past_more a b c so.taken h.taken h.byte so.takes h.takes in
        record {
          taken = so.taken ++ h.taken;
          byte = h.byte;
          consumed = all.consumed;
          limit = sym all.limit;
          faults = all.faults;
          no_more = each_no_more number ((so.taken ++ h.taken) ++ h.byte ∷ []) some
              (subst (λ (z : List ℕ). EachNeeded number (lines z)) (sym (append_assoc so.taken h.taken (h.byte ∷ []))) (more_each (h.taken ++ h.byte ∷ []) h.each));
        }

    whole_all : (part : List ℕ) → EndsLine part ⊎ IsAtEnd c.left → EndsLine (so.taken ++ part) ⊎ IsAtEnd c.left
    whole_all part (inl ends) = inl (EndsLine-append so.taken part so.whole ends)
    whole_all part (inr end) = inr end

    wrong_line : reading.LineNotUtf8 (wanted_after number (length values)) b c → LineNotUtf8 number a.limit (told a) (told c)
    wrong_line h = record {
      taken = so.taken ++ h.taken;
      takes = all_bytes h.taken h.takes;
      whole = whole_all h.taken h.whole;
      each = more_each h.taken h.each;
      wrong = λ all. h.wrong (part_of (subst (All IsUtf8) (more_lines h.taken) all));
    }
      where
        part_of : All IsUtf8 (lines so.taken ++ lines h.taken) → All IsUtf8 (lines h.taken)
        part_of all = subst (All IsUtf8) (drop_at (lines so.taken) (lines h.taken) (length (lines so.taken)) refl) (All-drop IsUtf8 (length (lines so.taken)) (lines so.taken ++ lines h.taken) all)

    ends_at : (Holds : List ℕ → Type 0) → ShowsFaulty (wanted_after number (length values)) b c Holds → EndsAtRow number a.limit (told a) (told c) Holds
    ends_at Holds h =
        let last = shown_last (wanted_after number (length values)) b c h.row (wanted_few number (length values)) h.shows in
        record {
          taken = so.taken ++ h.shows.taken;
          takes = all_bytes h.shows.taken h.shows.takes;
          whole = whole_all h.shows.taken h.shows.whole;
          each = more_each h.shows.taken h.shows.each;
          before = lines so.taken ++ last.before;
          row = h.row;
          last = more_lines h.shows.taken ∙ ap (λ (z : List (List ℕ)). lines so.taken ++ z) last.split ∙ sym (append_assoc (lines so.taken) last.before (h.row ∷ []));
          shown = last.shown;
          utf8 = last_utf8 (lines h.shows.taken) h.row last h.shows.utf8;
          holds = h.holds;
        }

    memory : (part : List ℕ) → Takes b c part → EachWanted (wanted_after number (length values)) (lines part) → NoMemory number a.limit (told a) (told c)
    memory part takes each = record { taken = so.taken ++ part; takes = all_bytes part takes; no_more = each_no_more number (so.taken ++ part) some (more_each part each) }

    pub fails : (e : Error) → NoRow (wanted_after number (length values)) b c e → NoType number a.limit (told a) (told c) e
    fails (ReadFault (Some line)) h = read_fails line h
    fails LimitExceeded (inl h) = inl (passes h)
    fails LimitExceeded (inr h) = inr (ends_at _ h)
    fails (ExternalFormat reason.Utf8Line) h = wrong_line h
    fails (ExternalFormat reason.Json) h = ends_at _ h
    fails OutOfMemory h = memory h.taken h.takes h.each
    fails e h = absurd h

    -- there was no memory for the type
    pub no_type : (more : List Value) → AddsRow (wanted_after number (length values)) b c more false → NoMemory number a.limit (told a) (told c)
    no_type more s = memory s.taken s.takes s.each

-- ---- what the calls say, in these words

-- what the next batch wants
pub wanted_is : (number : Option ℕ) (values : List Value) (limit : Option ℕ) (batch : ℕ) → limit ≡ option_map (λ n. n - length values) number → batch ≡ 1
    → fewer_of limit batch ≡ wanted_after number (length values)
wanted_is number values limit batch is one = ap₂ fewer_of is one

-- how many may still be shown
pub limit_is : (number limit after : Option ℕ) (values more : List Value) → limit ≡ option_map (λ n. n - length values) number → after ≡ option_map (λ n. n - length more) limit
    → after ≡ option_map (λ n. n - length (values ++ more)) number
limit_is None limit after values more before now = now ∙ ap (option_map (λ n. n - length more)) before
limit_is (Some n) limit after values more before now =
    let all : n - length values - length more ≡ n - length (values ++ more) = omega (arith, length-append values more) in
    now ∙ ap (option_map (λ n. n - length more)) before ∙ ap Some all

pub typed : (number : Option ℕ) (limit : ℕ) (old new : Told) (Stands : List Value → Type 0) (all : List Value) (r : Result DataType Error) → InfersType number limit old new (type_of_rows all)
    → IfOk r (λ t. (rows : List Value) → Stands rows → t ≡ type_of_rows rows) → Stands all → IfOk r (InfersType number limit old new)
typed number limit old new Stands all (Ok t) h is stands = subst (InfersType number limit old new) (sym (is all stands)) h
typed number limit old new Stands all (Err e) h is stands = tt

pub untyped : (number : Option ℕ) (limit : ℕ) (old new : Told) (r : Result DataType Error) → NoMemory number limit old new → IfErr r (λ e. e ≡ OutOfMemory) → IfErr r (NoType number limit old new)
untyped number limit old new (Ok t) h is = tt
untyped number limit old new (Err e) h is = subst (NoType number limit old new) (sym is) h

-- one row after those so far, or the end
pub added_so_far : (number : Option ℕ) (a b c : State) (limit after : Option ℕ) (batch : ℕ) (values more : List Value) (goes_on : Bool) → number ≢ Some 0 → a.lines ≡ 0
    → AddedSoFar number a b limit values true → batch ≡ 1 → AddsRow (fewer_of limit batch) b c more goes_on → after ≡ option_map (λ n. n - length more) limit
    → AddedSoFar number a c after (values ++ more) goes_on
added_so_far number a b c limit after batch values more true some fresh so one s now =
    (one_more number a b c values so.0 more (subst (λ (z : ℕ). AddsRow z b c more true) (wanted_is number values limit batch so.1 one) s), limit_is number limit after values more so.1 now)
added_so_far number a b c limit after batch values more false some fresh so one s now =
    let last = subst (λ (z : ℕ). AddsRow z b c more false) (wanted_is number values limit batch so.1 one) s in
    record {
      infers = infers number a b c values so.0 more last some fresh;
      empty = empty number a b c values so.0 more last some fresh;
      memory = no_type number a b c values so.0 some fresh more last;
    }

-- no row is added
pub fails_so_far : (number : Option ℕ) (a b c : State) (limit : Option ℕ) (batch : ℕ) (values : List Value) (e : Error) → number ≢ Some 0 → a.lines ≡ 0 → AddedSoFar number a b limit values true → batch ≡ 1
    → NoRow (fewer_of limit batch) b c e → NoType number a.limit (told a) (told c) e
fails_so_far number a b c limit batch values e some fresh so one h =
    fails number a b c values so.0 some fresh e (subst (λ (z : ℕ). NoRow z b c e) (wanted_is number values limit batch so.1 one) h)

-- none were shown yet
pub limit_of_none : (number : Option ℕ) → number ≡ option_map (λ n. n - length {A = Value} []) number
limit_of_none None = refl
limit_of_none (Some n) = let same : n ≡ n - 0 = omega arith in ap Some same

-- nothing was taken yet
pub no_memory_first : (number : Option ℕ) (limit : ℕ) (s : Told) → number ≢ Some 0 → NoMemory number limit s s
no_memory_first number limit s some = record {
  taken = [];
  takes = record { consumed = Consumes-nil s.left; limit = omega arith; faults = omega arith };
  no_more = each_no_more number [] some (λ k below. absurd (omega (arith, below, ap length no_lines)));
}

-- the same of what is the same
pub moved : {S : Type 0} (P : Option ℕ → ℕ → S → S → Type 0) (n m : Option ℕ) (l k : ℕ) (x y v w : S) → n ≡ m → l ≡ k → x ≡ y → v ≡ w → P n l x v → P m k y w
moved P n m l k x y v w en el ex ev h = subst (P m k y) ev (subst (λ z. P m k z v) ex (subst (λ z. P m z x v) el (subst (λ z. P z l x v) en h)))
