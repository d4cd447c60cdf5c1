-- What is taken line after line.
use Rattle.std.proofs.Common.{◌≡◌, ℕ, zero, suc, ◌+◌, ◌-◌, ◌<◌, ◌≤◌, inl, inr, true, false, Bool, cond, List, [], ◌∷◌, ◌++◌, length, take, get_or, slice_get, Option, Some, None, IfSome, Result, Ok, Err, IfErr, refl, sym, ap, ◌∙◌, subst, append_assoc, arith}
use Rattle.std.specs.Prelude.{All, IsUtf8, filter, ◌⊎◌}
use Rattle.std.proofs.lemmas.Bool.{cases_lt}
use Rattle.std.proofs.lemmas.Grind.{common_steps}
use Rattle.std.proofs.lemmas.List.{append-nil, length-append, take-append-le}
use Rattle.std.specs.Result.{IsErrAnd}
use Rattle.std.proofs.Math.Seq.{take-append_seam}
use Rattle.std.proofs.lemmas.List.Elements.{All-append, All-cons, All-nil, All-pop, filter-append}
use Rattle.std.proofs.lemmas.Str.{IsUtf8-nil}
use Rattle.std.proofs.lemmas.List.Sums.{sum_by-append}
use Rattle.std.proofs.KnownBytes.{Consumes-nil, Consumes-kept, Consumes-trans}
use Rattle.std.specs.Io.{StopsAt}
use Rattle.std.specs.Io.KnownBytes.{Consumes, Keeps, IsAtEnd}
use Rattle.arrow_base.specs.Outside.{RoseOrFull, NoneGiven}
use Rattle.arrow_core.specs.declared.error.Error.{Error}
use Rattle.arrow_core.specs.declared.error.Error.TheVariants.{ExternalFormat, LimitExceeded, ReadFault, OutOfMemory}
use Rattle.arrow_core.specs.declared.error.Reason.TheVariants as reason
use Rattle.ndjson_read.specs.Lines.{lines, line_feeds, is_line_feed, rows_of, is_row, EndsLine, IsWanted, EachWanted}
use Rattle.ndjson_read.specs.OneLine.{one_or_none, within_line, IsPart, NoBytes, PushesBytes, TakesLine, TakesWrong, FailsWithin, PassesWithin, NoMemoryWithin, NoLine, RowsSoFar}
use Rattle.ndjson_read.specs.Reading.{State, n_more, Takes, TakesPast, ShowsRows, ReadFails, PassesLimit, LineNotUtf8, NoMemory, NoRows}
use Rattle.ndjson_read.proofs.LineLemmas.{lines-append, lines_part, lines_one, lines_after_part, part_more, parted, one_or_none-push, line_feeds-part, EndsLine-append, rows_of_one}

pub takes_nothing : (s : State) → Takes s s []
takes_nothing s = record { consumed = Consumes-nil s.left; limit = omega arith; faults = omega arith }

pub takes_more : (a b c : State) (t u : List ℕ) → Takes a b t → Takes b c u → Takes a c (t ++ u)
takes_more a b c t u p q =
    let l : length (t ++ u) ≡ length t + length u = length-append t u in
    record {
      consumed = Consumes-trans a.left b.left c.left t u p.consumed q.consumed;
      limit = omega (arith, l, p.limit, q.limit);
      faults = omega (arith, p.faults, q.faults);
    }

pub past_more : (a b c : State) (t u : List ℕ) (byte : ℕ) → Takes a b t → TakesPast b c u byte → TakesPast a c (t ++ u) byte
past_more a b c t u byte p q =
    let l : length (t ++ u) ≡ length t + length u = length-append t u in
    record {
      consumed = subst (Consumes a.left c.left) (sym (append_assoc t u (byte ∷ []))) (Consumes-trans a.left b.left c.left t (u ++ byte ∷ []) p.consumed q.consumed);
      limit = omega (arith, l, p.limit, q.limit);
      faults = omega (arith, p.faults, q.faults);
    }

pub rose_after : (a b c : ℕ) → a ≤ b → RoseOrFull b c → RoseOrFull a c
rose_after a b c l (inl h) = inl (omega (arith, l, h))
rose_after a b c l (inr h) = inr h

-- ---- which lines are wanted

each_more : (wanted : ℕ) (all : List (List ℕ)) (line : List ℕ) → EachWanted wanted all → IsWanted wanted all → EachWanted wanted (all ++ line ∷ [])
each_more wanted all line each next k below =
    elim (cases_lt k (length all)) [
      | inl before ↦ subst (IsWanted wanted) (sym (take-append-le k all (line ∷ []) (omega (arith, before)))) (each k before)
      | inr after ↦
          let size = length-append all (line ∷ []) in
          let last : k ≡ length all = omega (arith, size, below, after) in
          subst (IsWanted wanted) (sym (ap (λ (n : ℕ). take n (all ++ line ∷ [])) last ∙ take-append_seam all (line ∷ []))) next
    ]

each_one : (wanted : ℕ) (all : List (List ℕ)) (line : List ℕ) → EachWanted wanted all → IsWanted wanted all → EachWanted wanted (all ++ one_or_none line)
each_one wanted all [] each next = subst (EachWanted wanted) (sym (append-nil all)) each
each_one wanted all (byte ∷ line) each next = each_more wanted all (byte ∷ line) each next

each_after : (wanted : ℕ) (whole line : List ℕ) → EndsLine whole → lines line ≡ one_or_none line → EachWanted wanted (lines whole) → IsWanted wanted (lines whole) → EachWanted wanted (lines (whole ++ line))
each_after wanted whole line w one each next =
    subst (EachWanted wanted) (sym (lines-append whole line w ∙ ap (λ (z : List (List ℕ)). lines whole ++ z) one)) (each_one wanted (lines whole) line each next)

each_byte : (wanted : ℕ) (whole part : List ℕ) (byte : ℕ) → EndsLine whole → IsPart part → EachWanted wanted (lines whole) → IsWanted wanted (lines whole) → EachWanted wanted (lines ((whole ++ part) ++ byte ∷ []))
each_byte wanted whole part byte w p each next =
    subst (λ (z : List ℕ). EachWanted wanted (lines z)) (sym (append_assoc whole part (byte ∷ [])))
    (each_after wanted whole (part ++ byte ∷ []) w (lines_one part byte p ∙ sym (one_or_none-push part byte)) each next)

-- ---- a line more

utf8_one : (line : List ℕ) → IsUtf8 line → All IsUtf8 (one_or_none line)
utf8_one [] u = All-nil IsUtf8
utf8_one (byte ∷ line) u = All-cons IsUtf8 (byte ∷ line) [] u (All-nil IsUtf8)

wrong_one : (before : List (List ℕ)) (line : List ℕ) → (IsUtf8 line → ⊥) → All IsUtf8 (before ++ one_or_none line) → ⊥
wrong_one before [] wrong all = wrong IsUtf8-nil
wrong_one before (byte ∷ line) wrong all = wrong (All-pop IsUtf8 (before ++ (byte ∷ line) ∷ []) before (Some (byte ∷ line)) refl all).1

whole_after : (whole line : List ℕ) (left : Option (List ℕ)) (more : Bool) → EndsLine whole → cond more (EndsLine line) (IsAtEnd left) → cond more (EndsLine (whole ++ line)) (IsAtEnd left)
whole_after whole line left true w ends = EndsLine-append whole line w ends
whole_after whole line left false w ends = ends

pub whole_or_end : (taken : List ℕ) (left : Option (List ℕ)) (more : Bool) → cond more (EndsLine taken) (IsAtEnd left) → EndsLine taken ⊎ IsAtEnd left
whole_or_end taken left true ends = inl ends
whole_or_end taken left false ends = inr ends

n_more-add : (count n m : ℕ) → n_more (n_more count n) m ≡ n_more count (n + m)
n_more-add count n m = grind arith

-- the lines that were read, with one more
counted_after : (a b c : State) (before all : List (List ℕ)) (line : List ℕ) → b.lines ≡ n_more a.lines (length before) → c.lines ≡ n_more b.lines (length (one_or_none line)) → all ≡ before ++ one_or_none line
    → c.lines ≡ n_more a.lines (length all)
counted_after a b c before all line so_far now is =
    now ∙ ap (λ (z : ℕ). n_more z (length (one_or_none line))) so_far ∙ n_more-add a.lines (length before) (length (one_or_none line))
    ∙ ap (n_more a.lines) (sym (ap length is ∙ length-append before (one_or_none line)))

is_wanted : (wanted : ℕ) (a b : State) (rows : List (List ℕ)) (more : Bool) (s : RowsSoFar wanted a b rows more) → length rows < wanted → IsWanted wanted (lines s.taken)
is_wanted wanted a b rows more s few = record { fewer = subst (λ (z : List (List ℕ)). length z < wanted) s.shown few; utf8 = s.utf8 }

pub no_rows : (wanted : ℕ) (s : State) → RowsSoFar wanted s s [] true
unfolding lines
no_rows wanted s = record {
  taken = [];
  takes = takes_nothing s;
  whole = inl refl;
  utf8 = All-nil IsUtf8;
  shown = refl;
  each = λ k below. absurd (omega (arith, below));
  counted = omega arith;
}

pub rows_more : (wanted : ℕ) (a b c : State) (rows : List (List ℕ)) (line : List ℕ) (more : Bool) → RowsSoFar wanted a b rows true → length rows < wanted → TakesLine b c line more → IsUtf8 line
    → RowsSoFar wanted a c (rows ++ cond (is_row line) (line ∷ []) []) more
rows_more wanted a b c rows line more s few l utf8 =
    let all : lines (s.taken ++ line) ≡ lines s.taken ++ one_or_none line = lines-append s.taken line s.whole ∙ ap (λ (z : List (List ℕ)). lines s.taken ++ z) l.one in
    record {
      taken = s.taken ++ line;
      takes = takes_more a b c s.taken line s.takes l.takes;
      whole = whole_after s.taken line c.left more s.whole l.whole;
      utf8 = subst (All IsUtf8) (sym all) (All-append IsUtf8 (lines s.taken) (one_or_none line) s.utf8 (utf8_one line utf8));
      shown =
          ap (λ (z : List (List ℕ)). z ++ cond (is_row line) (line ∷ []) []) s.shown
          ∙ ap (λ (z : List (List ℕ)). rows_of s.taken ++ z) (sym (rows_of_one line))
          ∙ sym (ap (filter is_row) all ∙ filter-append is_row (lines s.taken) (one_or_none line));
      each = each_after wanted s.taken line s.whole l.one s.each (is_wanted wanted a b rows true s few);
      counted = counted_after a b c (lines s.taken) (lines (s.taken ++ line)) line s.counted l.counted all;
    }

-- ---- one line

part-append : (part more : List ℕ) → IsPart part → IsPart more → IsPart (part ++ more)
part-append part more p q = sum_by-append (λ b. cond (is_line_feed b) 1 0) part more ∙ omega (arith, p, q)

-- an error within a line whose first part was taken
pub no_line_after : (a b c : State) (part : List ℕ) → Takes a b part → IsPart part → b.lines ≡ a.lines → (e : Error) → NoBytes b c e → NoLine a c e
no_line_after a b c part t p same (ReadFault (Some number)) h = record {
  part = part ++ h.part;
  takes = takes_more a b c part h.part t h.takes;
  is_part = part-append part h.part p h.is_part;
  cause = rose_after a.faults b.faults c.faults t.faults h.cause;
  counted = h.counted ∙ ap (λ (z : ℕ). n_more z 1) same;
  kept = h.kept ∙ same;
}
no_line_after a b c part t p same LimitExceeded h = record {
  part = part ++ h.part;
  byte = h.byte;
  takes = past_more a b c part h.part h.byte t h.takes;
  is_part = part-append part h.part p h.is_part;
  kept = h.kept ∙ same;
}
no_line_after a b c part t p same OutOfMemory h = record {
  part = part ++ h.part;
  takes = takes_more a b c part h.part t h.takes;
  one = lines_after_part part h.part p h.one;
}
no_line_after a b c part t p same e h = absurd h

-- bytes that came after a part of a line
module _ (a b c : State) (part line : List ℕ) (byte : ℕ) (t : Takes a b part) (p : IsPart part) (h : PushesBytes b c part line byte) where
  pushed : line ≡ (part ++ h.part) ++ byte ∷ []
  pushed = h.appended ∙ sym (append_assoc part h.part (byte ∷ []))

  still_part : IsPart (part ++ h.part)
  still_part = part-append part h.part p h.is_part

  pub pushed_takes : Takes a c line
  pushed_takes = subst (Takes a c) (sym h.appended) (takes_more a b c part (h.part ++ byte ∷ []) t h.takes)

  -- no line feed came
  pub pushed_part : is_line_feed byte ≡ false → IsPart line
  pushed_part other = subst IsPart (sym pushed) (part_more (part ++ h.part) byte still_part other)

  -- the line feed came
  pub line_ends : b.lines ≡ a.lines → c.lines ≡ b.lines → byte ≡ 10 → TakesLine a (record c { lines = n_more c.lines (length (one_or_none line)) }) line true
  line_ends same same_too feed = record {
    takes = record { consumed = pushed_takes.consumed; limit = pushed_takes.limit; faults = pushed_takes.faults };
    one = ap lines pushed ∙ lines_one (part ++ h.part) byte still_part ∙ sym (one_or_none-push (part ++ h.part) byte) ∙ ap one_or_none (sym pushed);
    whole = inr (part ++ h.part, pushed ∙ ap (λ (z : ℕ). (part ++ h.part) ++ z ∷ []) feed);
    some = λ _. omega (arith, ap length pushed, length-append (part ++ h.part) (byte ∷ []));
    counted = ap (λ (z : ℕ). n_more z (length (one_or_none line))) (same_too ∙ same);
  }

-- the source ended
pub line_at_end : (a b c : State) (part line : List ℕ) → Takes a b part → IsPart part → b.lines ≡ a.lines → Takes b c [] → IsAtEnd c.left → c.lines ≡ b.lines → line ≡ part
    → TakesLine a (record c { lines = n_more c.lines (length (one_or_none line)) }) line false
line_at_end a b c part line t p same u ends same_too is = record {
  takes = let all = takes_more a b c part [] t u in record { consumed = subst (Consumes a.left c.left) (append-nil part ∙ sym is) all.consumed; limit = omega (arith, all.limit, ap length is, length-append part []); faults = all.faults };
  one = ap lines is ∙ lines_part part p ∙ ap one_or_none (sym is);
  whole = ends;
  some = λ h. absurd (cc);
  counted = ap (λ (z : ℕ). n_more z (length (one_or_none line))) (same_too ∙ same);
}

-- ---- why there are no rows

-- the lines that were read, where a part of another one follows
read_before : (a b c : State) (taken part : List ℕ) → b.lines ≡ n_more a.lines (length (lines taken)) → c.lines ≡ b.lines → EndsLine taken → IsPart part → c.lines ≡ n_more a.lines (line_feeds (taken ++ part))
read_before a b c taken part counted kept whole is_part = kept ∙ counted ∙ ap (n_more a.lines) (sym (line_feeds-part taken part whole is_part))

fails_after : (wanted : ℕ) (a b c : State) (rows : List (List ℕ)) (number : ℕ) → RowsSoFar wanted a b rows true → length rows < wanted → FailsWithin b c number → ReadFails wanted a c number
fails_after wanted a b c rows number s few f = record {
  taken = s.taken ++ f.part;
  takes = takes_more a b c s.taken f.part s.takes f.takes;
  each = λ byte. each_byte wanted s.taken f.part byte s.whole f.is_part s.each (is_wanted wanted a b rows true s few);
  cause = rose_after a.faults b.faults c.faults s.takes.faults f.cause;
  counted =
      f.counted ∙ ap (λ (z : ℕ). n_more z 1) s.counted ∙ n_more-add a.lines (length (lines s.taken)) 1
      ∙ ap (λ (z : ℕ). n_more a.lines (z + 1)) (sym (line_feeds-part s.taken f.part s.whole f.is_part));
  read = read_before a b c s.taken f.part s.counted f.kept s.whole f.is_part;
}

passes_after : (wanted : ℕ) (a b c : State) (rows : List (List ℕ)) → RowsSoFar wanted a b rows true → length rows < wanted → PassesWithin b c → PassesLimit wanted a c
passes_after wanted a b c rows s few p = record {
  taken = s.taken ++ p.part;
  byte = p.byte;
  takes = past_more a b c s.taken p.part p.byte s.takes p.takes;
  each = each_byte wanted s.taken p.part p.byte s.whole p.is_part s.each (is_wanted wanted a b rows true s few);
  read = read_before a b c s.taken p.part s.counted p.kept s.whole p.is_part;
}

wrong_after : (wanted : ℕ) (a b c : State) (rows : List (List ℕ)) → RowsSoFar wanted a b rows true → length rows < wanted → TakesWrong b c → LineNotUtf8 wanted a c
wrong_after wanted a b c rows s few w =
    let l = w.line_taken in
    let all : lines (s.taken ++ w.line) ≡ lines s.taken ++ one_or_none w.line = lines-append s.taken w.line s.whole ∙ ap (λ (z : List (List ℕ)). lines s.taken ++ z) l.one in
    record {
      taken = s.taken ++ w.line;
      takes = takes_more a b c s.taken w.line s.takes l.takes;
      whole = whole_or_end (s.taken ++ w.line) c.left w.more (whole_after s.taken w.line c.left w.more s.whole l.whole);
      each = each_after wanted s.taken w.line s.whole l.one s.each (is_wanted wanted a b rows true s few);
      wrong = λ utf8. wrong_one (lines s.taken) w.line w.wrong (subst (All IsUtf8) all utf8);
      read = counted_after a b c (lines s.taken) (lines (s.taken ++ w.line)) w.line s.counted l.counted all;
    }

no_memory_after : (wanted : ℕ) (a b c : State) (rows : List (List ℕ)) → RowsSoFar wanted a b rows true → length rows < wanted → NoMemoryWithin b c → NoMemory wanted a c
no_memory_after wanted a b c rows s few m = record {
  taken = s.taken ++ m.part;
  takes = takes_more a b c s.taken m.part s.takes m.takes;
  each = each_after wanted s.taken m.part s.whole m.one s.each (is_wanted wanted a b rows true s few);
}

pub no_rows_after : (wanted : ℕ) (a b c : State) (rows : List (List ℕ)) → RowsSoFar wanted a b rows true → length rows < wanted → (e : Error) → NoLine b c e → NoRows wanted a c e
no_rows_after wanted a b c rows s few (ReadFault (Some number)) h = fails_after wanted a b c rows number s few h
no_rows_after wanted a b c rows s few LimitExceeded h = passes_after wanted a b c rows s few h
no_rows_after wanted a b c rows s few (ExternalFormat reason.Utf8Line) h = wrong_after wanted a b c rows s few h
no_rows_after wanted a b c rows s few OutOfMemory h = no_memory_after wanted a b c rows s few h
no_rows_after wanted a b c rows s few e h = absurd h

-- ---- the rows are shown

at_end : (taken : List ℕ) (left : Option (List ℕ)) (more : Bool) → more ≡ false → cond more (EndsLine taken) (IsAtEnd left) → IsAtEnd left
at_end taken left more last ends = rw last at ends

pub shows : (wanted : ℕ) (a b : State) (rows : List (List ℕ)) (more : Bool) → RowsSoFar wanted a b rows more → length rows ≤ wanted → (length rows < wanted → more ≡ false) → ShowsRows wanted a b rows
shows wanted a b rows more s most last = record {
  taken = s.taken;
  takes = s.takes;
  whole = whole_or_end s.taken b.left more s.whole;
  utf8 = s.utf8;
  rows = s.shown;
  each = s.each;
  most = most;
  fewer = λ few. at_end s.taken b.left more (last few) s.whole;
  counted = s.counted;
}

pub handed_on : {T E : Type 0} (P : E → Type 0) (e : E) (r : Result T E) → IsErrAnd r (λ y. y ≡ e) → P e → IfErr r P
handed_on P e (Ok x) is h = absurd is
handed_on P e (Err y) is h = subst P (sym is) h

-- ---- what comes in one call

-- bytes came, within the limit or one past it
module _ (a c : State) (bytes : List ℕ) (consumed : Consumes a.left c.left bytes) (faults : a.faults ≤ c.faults) (stops : StopsAt bytes 10) where
  -- within the limit
  pub some_pushed : (before line : List ℕ) → 0 < length bytes → a.limit ≡ length bytes + c.limit → line ≡ before ++ bytes → (last : ℕ) → last ≡ get_or line (length line - 1) 0
      → PushesBytes a c before line last
  some_pushed before line some limit appended last is =
      let q = parted bytes stops some in
      let whole : line ≡ (before ++ q.part) ++ q.last ∷ [] = appended ∙ ap (λ (z : List ℕ). before ++ z) q.split ∙ sym (append_assoc before q.part (q.last ∷ [])) in
      let same : q.last ≡ last = grind (arith, common_steps, whole, is) in
      record {
        part = q.part;
        takes = let all : Takes a c bytes = record { consumed = consumed; limit = limit; faults = faults } in subst (Takes a c) (q.split ∙ ap (λ (z : ℕ). q.part ++ z ∷ []) same) all;
        is_part = q.is_part;
        appended = appended ∙ ap (λ (z : List ℕ). before ++ z) (q.split ∙ ap (λ (z : ℕ). q.part ++ z ∷ []) same);
      }

  -- one past it
  pub past_limit : length bytes ≡ a.limit + 1 → c.lines ≡ a.lines → PassesWithin a c
  past_limit long kept =
      let q = parted bytes stops (omega (arith, long)) in
      record {
        part = q.part;
        byte = q.last;
        takes = record { consumed = subst (Consumes a.left c.left) q.split consumed; limit = omega (arith, long, ap length q.split, length-append q.part (q.last ∷ [])); faults = faults };
        is_part = q.is_part;
        kept = kept;
      }

kept_nothing : (a c : State) → Keeps a.left c.left → c.limit ≡ a.limit → a.faults ≤ c.faults → Takes a c []
kept_nothing a c kept limit faults = record { consumed = Consumes-kept a.left a.left c.left [] (Consumes-nil a.left) kept; limit = omega (arith, limit); faults = faults }

last_item : (line : List ℕ) (i : ℕ) → IfSome (slice_get line i) (λ byte. byte ≡ get_or line i 0)
last_item [] i = tt
last_item (byte ∷ line) zero = refl
last_item (byte ∷ line) (suc i) = last_item line i

-- the last of the bytes, where there is one
pub last_pushed : (a c : State) (before line : List ℕ) (result : Option ℕ) → ((byte : ℕ) → byte ≡ get_or line (length line - 1) 0 → PushesBytes a c before line byte)
    → result ≡ slice_get line (length line - 1) → IfSome result (PushesBytes a c before line)
last_pushed a c before line result pushed is =
    pushed_if result (subst (λ (z : Option ℕ). IfSome z (λ byte. byte ≡ get_or line (length line - 1) 0)) (sym is) (last_item line (length line - 1)))
  where
    pushed_if : (some : Option ℕ) → IfSome some (λ byte. byte ≡ get_or line (length line - 1) 0) → IfSome some (PushesBytes a c before line)
    pushed_if None h = tt
    pushed_if (Some byte) h = pushed byte h

-- why none came, with the number of the line
pub none_pushed : (a c : State) (e : Error) → Keeps a.left c.left → c.limit ≡ a.limit → c.lines ≡ a.lines → a.faults ≤ c.faults → NoneGiven a.faults c.faults e → NoBytes a c (within_line e (n_more a.lines 1))
unfolding lines
none_pushed a c (ReadFault None) kept limit same faults h = record { part = []; takes = kept_nothing a c kept limit faults; is_part = refl; cause = h; counted = refl; kept = same }
none_pushed a c OutOfMemory kept limit same faults h = record { part = []; takes = kept_nothing a c kept limit faults; one = refl }
none_pushed a c e kept limit same faults h = absurd h
