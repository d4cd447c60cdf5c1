-- Rows that are taken one after another.
use Rattle.std.proofs.Common.{◌≡◌, inl, inr, ℕ, ◌+◌, ◌≤◌, List, [], ◌∷◌, ◌++◌, length, Option, Some, None, IfSome, refl, sym, ap, ◌∙◌, subst, arith}
use Rattle.std.specs.Prelude.{filter, All, IsUtf8}
use Rattle.std.proofs.lemmas.List.{append-nil, length-append}
use Rattle.std.proofs.lemmas.List.Elements.{All-append, All-nil, filter-append}
use Rattle.std.specs.Io.KnownBytes.{Consumes, IsAtEnd}
use Rattle.ndjson_read.specs.Lines.{lines, is_row, rows_of, EndsLine}
use Rattle.ndjson_read.specs.Reading.{State, ShowsRows, n_more}
use Rattle.ndjson_read.proofs.LineLemmas.{lines-append, EndsLine-append}
use Rattle.ndjson_read.proofs.RowLemmas.{takes_nothing, takes_more}
use Rattle.ndjson_avro.specs.Taken.{AreRowsOf, TakesRows}

if_some : {A : Type 0} (o : Option A) (P : Type 0) → P → IfSome o (λ _. P)
if_some None P p = tt
if_some (Some x) P p = p

no_rows_of : (s : State) → AreRowsOf s s [] []
unfolding lines
no_rows_of s = record { rows = refl; whole = inl (inl refl); utf8 = All-nil IsUtf8; counted = omega arith }

pub takes_none : (s : State) → TakesRows s s []
takes_none s = record { taken = []; takes = takes_nothing s; told = if_some s.left (AreRowsOf s s [] []) (no_rows_of s) }

-- rows that a reader shows were taken
pub takes_shown : (n : ℕ) (old new : State) (shown : List (List ℕ)) → ShowsRows n old new shown → TakesRows old new shown
takes_shown n old new shown s = record {
  taken = s.taken;
  takes = s.takes;
  told = if_some old.left (AreRowsOf old new s.taken shown) (record { rows = s.rows; whole = s.whole; utf8 = s.utf8; counted = s.counted });
}

more_add : (count n m : ℕ) → n_more (n_more count n) m ≡ n_more count (n + m)
more_add count n m = grind arith

none_of : (u rest : List ℕ) → u ++ rest ≡ [] → (u ≡ []) × (rest ≡ [])
none_of [] rest e = (refl, e)
none_of (x ∷ u) rest e = absurd (omega (arith, ap length e))

module _ (a b c : State) (t u : List ℕ) (ts us : List (List ℕ)) (one : AreRowsOf a b t ts) (two : AreRowsOf b c u us) where
  after_lines : EndsLine t → AreRowsOf a c (t ++ u) (ts ++ us)
  after_lines ends =
      let all : lines (t ++ u) ≡ lines t ++ lines u = lines-append t u ends in
      record {
        rows = ap (λ (z : List (List ℕ)). z ++ us) one.rows ∙ ap (λ (z : List (List ℕ)). rows_of t ++ z) two.rows ∙ sym (ap (filter is_row) all ∙ filter-append is_row (lines t) (lines u));
        utf8 = subst (All IsUtf8) (sym all) (All-append IsUtf8 (lines t) (lines u) one.utf8 two.utf8);
        whole = elim two.whole [ inl last ↦ inl (EndsLine-append t u ends last) | inr end ↦ inr end ];
        counted =
            two.counted ∙ ap (λ (z : ℕ). n_more z (length (lines u))) one.counted ∙ more_add a.lines (length (lines t)) (length (lines u))
            ∙ ap (n_more a.lines) (sym (ap length all ∙ length-append (lines t) (lines u)));
      }

  -- nothing comes after the end
  at_end : u ≡ [] → IsAtEnd c.left → AreRowsOf a c (t ++ u) (ts ++ us)
  unfolding lines
  at_end none end =
      let no_more : us ≡ [] = two.rows ∙ ap rows_of none in
      let same : t ++ u ≡ t = ap (λ (z : List ℕ). t ++ z) none ∙ append-nil t in
      record {
        rows = ap (λ (z : List (List ℕ)). ts ++ z) no_more ∙ append-nil ts ∙ one.rows ∙ ap rows_of (sym same);
        whole = inr end;
        utf8 = subst (λ (z : List ℕ). All IsUtf8 (lines z)) (sym same) one.utf8;
        counted = two.counted ∙ ap (λ (z : List ℕ). n_more b.lines (length (lines z))) none ∙ omega (arith, one.counted, ap (λ (z : List ℕ). length (lines z)) same);
      }

  both_told : (left after : List ℕ) → b.left ≡ Some left → c.left ≡ Some after → left ≡ u ++ after → AreRowsOf a c (t ++ u) (ts ++ us)
  both_told left after is then rest =
      elim one.whole [
        | inl ends ↦ after_lines ends
        | inr end ↦
            let none = none_of u after (sym rest ∙ subst IsAtEnd is end) in
            at_end none.0 (subst IsAtEnd (sym then) none.1)
      ]

told_more : (a b c : State) (t u : List ℕ) (ts us : List (List ℕ)) (left after : Option (List ℕ)) → b.left ≡ left → c.left ≡ after → Consumes a.left left t → Consumes left after u → IfSome a.left (λ _. AreRowsOf a b t ts) → IfSome left (λ _. AreRowsOf b c u us)
    → (first : Option (List ℕ)) → a.left ≡ first → IfSome first (λ _. AreRowsOf a c (t ++ u) (ts ++ us))
told_more a b c t u ts us left after is then p q one two None e = tt
told_more a b c t u ts us None after is then p q one two (Some all) e = absurd (subst (λ (z : Option (List ℕ)). Consumes z None t) e p)
told_more a b c t u ts us (Some rest) None is then p q one two (Some all) e = absurd q
told_more a b c t u ts us (Some rest) (Some last) is then p q one two (Some all) e =
    both_told a b c t u ts us (subst (λ (z : Option (List ℕ)). IfSome z (λ _. AreRowsOf a b t ts)) e one) two rest last is then q

pub takes_both : (a b c : State) (ts us : List (List ℕ)) → TakesRows a b ts → TakesRows b c us → TakesRows a c (ts ++ us)
takes_both a b c ts us one two = record {
  taken = one.taken ++ two.taken;
  takes = takes_more a b c one.taken two.taken one.takes two.takes;
  told = told_more a b c one.taken two.taken ts us b.left c.left refl refl one.takes.consumed two.takes.consumed one.told two.told a.left refl;
}

-- a row has at least a byte
pub row_takes : (old new : State) (text : List ℕ) → ShowsRows 1 old new (text ∷ []) → 1 + new.limit ≤ old.limit
unfolding lines
row_takes old new text s = from s.taken s.rows s.takes.limit
  where
    from : (taken : List ℕ) → text ∷ [] ≡ rows_of taken → old.limit ≡ length taken + new.limit → 1 + new.limit ≤ old.limit
    from [] e l = absurd (omega (arith, ap length e))
    from (x ∷ taken) e l = omega (arith, l)
