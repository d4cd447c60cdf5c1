-- The rows of a batch, one after another.
use Rattle.std.proofs.Common.{◌≡◌, ◌∙◌, inl, inr, ℕ, ◌+◌, ◌<◌, ◌≤◌, List, [], ◌∷◌, ◌++◌, length, Bool, true, false, sym, ap, subst, arith}
use Rattle.std.proofs.lemmas.Bool.{false≢true}
use Rattle.std.proofs.lemmas.List.{append-nil, length-append}
use Rattle.arrow_core.specs.declared.error.Error.{Error}
use Rattle.ndjson_read.specs.Reading.{State}
use Rattle.ndjson_read.proofs.RowLemmas.{takes_more}
use Rattle.ndjson_avro.specs.BatchSteps.{BatchSoFar, NextRow, NoRow, NoRowsOf, TakesSome}
use Rattle.ndjson_avro.specs.Taken.{TakesRows}
use Rattle.ndjson_avro.proofs.Taking.{row_takes, takes_both, takes_none, takes_shown}

pub none_so_far : (n : ℕ) (s : State) (texts : List (List ℕ)) → texts ≡ [] → BatchSoFar n s s texts
none_so_far n s texts none = record {
  takes = subst (TakesRows s s) (sym none) (takes_none s);
  most = omega (arith, ap length none);
  few = omega (arith, ap length none);
}

-- one text more
longer : (texts after : List (List ℕ)) (text : List ℕ) → after ≡ texts ++ text ∷ [] → length after ≡ length texts + 1
longer texts after text is = ap length is ∙ length-append texts (text ∷ [])

-- a row came
pub row_so_far : (n : ℕ) (a b c : State) (before after : List (List ℕ)) (more : Bool) → more ≡ true → length before < n → BatchSoFar n a b before → NextRow b c before after more → BatchSoFar n a c after
row_so_far n a b c before after false is below s h = absurd (false≢true is)
row_so_far n a b c before after true is below s (text, shows, same) = record {
  takes = subst (TakesRows a c) (sym same) (takes_both a b c before (text ∷ []) s.takes (takes_shown 1 b c (text ∷ []) shows));
  most = omega (arith, longer before after text same, below);
  few = omega (arith, longer before after text same, s.few, row_takes b c text shows);
}

pub row_falls : (b c : State) (before after : List (List ℕ)) (more : Bool) → more ≡ true → NextRow b c before after more → c.limit < b.limit
row_falls b c before after false is h = absurd (false≢true is)
row_falls b c before after true is (text, shows, same) = omega (arith, row_takes b c text shows)

-- there is no further row
pub rows_end : (n : ℕ) (a b c : State) (before after : List (List ℕ)) (more : Bool) → more ≡ false → BatchSoFar n a b before → NextRow b c before after more → TakesSome n a c after
rows_end n a b c before after true is s h = absurd (false≢true (sym is))
rows_end n a b c before after false is s (shows, same) = record {
  takes = subst (TakesRows a c) (append-nil before ∙ sym same) (takes_both a b c before [] s.takes (takes_shown 1 b c [] shows));
  most = omega (arith, s.most, ap length same);
  fewer = λ _. shows.fewer (omega arith);
  few = omega (arith, s.few, shows.takes.limit, ap length same);
}

-- no row came
pub no_row_so_far : (n : ℕ) (a b c : State) (before : List (List ℕ)) (e : Error) → length before < n → BatchSoFar n a b before → NoRow b c e → NoRowsOf n a c e
no_row_so_far n a b c before e below s (inl out) =
    inl (record { is = out.is; taken = s.takes.taken ++ out.taken; takes = takes_more a b c s.takes.taken out.taken s.takes.takes out.takes })
no_row_so_far n a b c before e below s (inr h) = inr (record { between = b; texts = before; takes = s.takes; wanted = below; fails = h })
