-- What one row adds.
use Rattle.std.proofs.Common.{◌≡◌, ℕ, zero, suc, ◌<◌, ◌≤◌, inl, inr, true, false, Bool, cond, List, [], ◌∷◌, ◌++◌, length, take, drop, refl, sym, ap, ◌∙◌, subst, append_assoc, drop_at, arith}
use Rattle.std.specs.Prelude.{filter, All, IsUtf8, ◌⊎◌}
use Rattle.std.proofs.lemmas.Bool.{cases_Bool}
use Rattle.std.proofs.lemmas.List.{length-append}
use Rattle.std.proofs.lemmas.List.Elements.{All-drop, All-head}
use Rattle.std.specs.Io.KnownBytes.{IsAtEnd}
use Rattle.json_tree.specs.declared.value.Value.{Value}
use Rattle.json_tree.specs.Meaning.{IsJson}
use Rattle.ndjson_read.specs.Lines.{lines, is_row, EndsLine, EachWanted}
use Rattle.ndjson_read.specs.Reading.{State, ShowsRows}
use Rattle.ndjson_read.proofs.LineLemmas.{no_row}
use Rattle.ndjson_read.specs.Needed.{StandFor}
use Rattle.ndjson_read.specs.SoFar.{EndsInFeed, AddsRow}
use Rattle.ndjson_read.proofs.LineLists.{join, joined_last, rows_in, EachBefore, before_blank}

pub no_lines : lines [] ≡ []
unfolding lines
no_lines = refl

-- the one row of some lines stands last, where none comes after it
pub record LastRow (all : List (List ℕ)) (row : List ℕ) : Type 0 where
  pub before : List (List ℕ)
  pub split : all ≡ before ++ row ∷ []
  pub shown : is_row row ≡ true

first_row : (line row : List ℕ) (rest : List (List ℕ)) → is_row line ≡ true → filter is_row (line ∷ rest) ≡ row ∷ [] → line ∷ filter is_row rest ≡ row ∷ []
first_row line row rest shown all = let one : filter is_row (line ∷ rest) ≡ line ∷ filter is_row rest = rw shown refl in sym one ∙ all

abbrev or_nothing : List (List ℕ) → List ℕ
or_nothing [] = []
or_nothing (line ∷ all) = line

row_alone : (line row : List ℕ) (rest : List (List ℕ)) → EachBefore 1 (line ∷ rest) → is_row line ≡ true → filter is_row (line ∷ rest) ≡ row ∷ [] → LastRow (line ∷ rest) row
row_alone line row [] each shown all =
    let same : line ≡ row = ap (or_nothing) (first_row line row [] shown all) in
    record { before = []; split = ap (λ (z : List ℕ). z ∷ []) same; shown = subst (λ (z : List ℕ). is_row z ≡ true) same shown }
row_alone line row (next ∷ rest) each shown all =
    let early = each 1 (omega arith) in
    let one : rows_in (take 1 (line ∷ next ∷ rest)) ≡ 1 = rw shown refl in
    absurd (omega (arith, early, one))

pub last_row : (all : List (List ℕ)) (row : List ℕ) → EachBefore 1 all → filter is_row all ≡ row ∷ [] → LastRow all row
last_row [] row each all = absurd (omega (arith, ap length all))
last_row (line ∷ rest) row each all =
    elim (cases_Bool (is_row line)) [
      | inl shown ↦ row_alone line row rest each shown all
      | inr blank ↦
          let skip : filter is_row (line ∷ rest) ≡ filter is_row rest = rw blank refl in
          let l = last_row rest row (before_blank 1 line rest blank each) (sym skip ∙ all) in
          record { before = line ∷ l.before; split = ap (λ (z : List (List ℕ)). line ∷ z) l.split; shown = l.shown }
    ]

pub each_before : (wanted : ℕ) (all : List (List ℕ)) → wanted ≤ 1 → EachWanted wanted all → EachBefore 1 all
each_before wanted all few each k below = omega (arith, few, (each k below).fewer)

-- the shown row is the last line that was taken
pub shown_last : (wanted : ℕ) (a b : State) (row : List ℕ) → wanted ≤ 1 → (s : ShowsRows wanted a b (row ∷ [])) → LastRow (lines s.taken) row
shown_last wanted a b row few s = last_row (lines s.taken) row (each_before wanted (lines s.taken) few s.each) (sym s.rows)

pub last_utf8 : (all : List (List ℕ)) (row : List ℕ) → LastRow all row → All IsUtf8 all → IsUtf8 row
last_utf8 all row l utf8 =
    All-head IsUtf8 row [] (subst (All IsUtf8) (drop_at l.before (row ∷ []) (length l.before) refl) (All-drop IsUtf8 (length l.before) (l.before ++ row ∷ []) (subst (All IsUtf8) l.split utf8)))

-- ---- whether it ends with a line feed

not_nothing : (row : List ℕ) → is_row row ≡ true → 0 < length row
not_nothing [] shown = absurd (false_true (sym no_row ∙ shown))
  where
    false_true : false ≡ true → ⊥
    false_true e = cc
not_nothing (byte ∷ row) shown = omega arith

feed_behind : (before row prefix : List ℕ) → 0 < length row → before ++ row ≡ prefix ++ 10 ∷ [] → EndsInFeed row
feed_behind [] row prefix some is = (prefix, is)
feed_behind (byte ∷ before) row [] some is = absurd (omega (arith, some, ap length is, length-append before row))
feed_behind (byte ∷ before) row (first ∷ prefix) some is = feed_behind before row prefix some (ap (drop 1) is)

-- a row with its line feed ends whole lines
pub ends_whole : (taken row : List ℕ) → LastRow (lines taken) row → EndsInFeed row → EndsLine taken × (0 < length taken)
ends_whole taken row l feed =
    let is : taken ≡ (join l.before ++ feed.0) ++ 10 ∷ [] = joined_last taken l.before row l.split ∙ ap (λ (z : List ℕ). join l.before ++ z) feed.1 ∙ sym (append_assoc (join l.before) feed.0 (10 ∷ [])) in
    (inr (join l.before ++ feed.0, is), omega (arith, ap length is, length-append (join l.before ++ feed.0) (10 ∷ [])))

-- one without ends the source
ends_source : (taken row : List ℕ) (P : Type 0) → LastRow (lines taken) row → (EndsInFeed row → ⊥) → EndsLine taken ⊎ P → P
ends_source taken row P l unfed (inr end) = end
ends_source taken row P l unfed (inl (inl none)) = absurd (omega (arith, ap length (sym l.split ∙ ap lines none ∙ no_lines), length-append l.before (row ∷ [])))
ends_source taken row P l unfed (inl (inr feed)) =
    absurd (unfed (feed_behind (join l.before) row feed.0 (not_nothing row l.shown) (sym (joined_last taken l.before row l.split) ∙ feed.1)))

-- ---- what is added

pub adds_none : (wanted : ℕ) (a b : State) → ShowsRows wanted a b [] → AddsRow wanted a b [] false
adds_none wanted a b s = record {
  taken = s.taken;
  takes = s.takes;
  whole = ended wanted s.fewer;
  utf8 = s.utf8;
  each = s.each;
  rows = subst (λ (z : List (List ℕ)). StandFor z []) s.rows tt;
  counted = s.counted;
}
  where
    ended : (due : ℕ) → (0 < due → IsAtEnd b.left) → IsAtEnd b.left ⊎ (due ≡ 0)
    ended zero end = inr refl
    ended (suc due) end = inl (end (omega arith))

pub adds_one : (wanted : ℕ) (a b : State) (row : List ℕ) (value : Value) (more : Bool) → wanted ≤ 1 → ShowsRows wanted a b (row ∷ []) → IsJson value row
    → cond more (EndsInFeed row) (EndsInFeed row → ⊥) → AddsRow wanted a b (value ∷ []) more
adds_one wanted a b row value more few s json ends = record {
  taken = s.taken;
  takes = s.takes;
  whole = whole more ends;
  utf8 = s.utf8;
  each = s.each;
  rows = subst (λ (z : List (List ℕ)). StandFor z (value ∷ [])) s.rows (json, tt);
  counted = s.counted;
}
  where
    last : LastRow (lines s.taken) row
    last = shown_last wanted a b row few s

    whole : (b' : Bool) → cond b' (EndsInFeed row) (EndsInFeed row → ⊥) → cond b' (EndsLine s.taken × (0 < length s.taken)) (IsAtEnd b.left ⊎ (wanted ≡ 0))
    whole true feed = ends_whole s.taken row last feed
    whole false unfed = inl (ends_source s.taken row (IsAtEnd b.left) last unfed s.whole)
