use Rattle.std.proofs.Common.{◌≡◌, ◌+◌, ◌<◌, ◌≤◌, ◌++◌, ◌∷◌, [], List, ℕ, length, take, true, false, cond, refl, ◌∙◌, sym, ap, arith}
use Rattle.std.proofs.Math.ListN.{set}
use Rattle.std.proofs.lemmas.List.{length-take, take-set, append-nil}
use Rattle.std.proofs.lemmas.Grind.{take-set_at}
use Rattle.ndjson_read.specs.Lines.{is_row}
use Rattle.ndjson_read.proofs.RowLemmas.{handed_on, no_rows, rows_more, no_rows_after}
use Rattle.ndjson_read.proofs.line_source.read_rows.Goals as goal

few : (n : ℕ) (rows : List (List ℕ)) (wanted : ℕ) → n < wanted → length (take n rows) < wanted
few n rows wanted below = omega (arith, length-take n rows)

within : (n : ℕ) (rows rows_before : List (List ℕ)) (wanted : ℕ) → n < wanted → wanted ≤ length rows_before → length rows ≡ length rows_before → n < length rows
within n rows rows_before wanted below fits size = omega arith

one_more : (rows : List (List ℕ)) (n : ℕ) (text : List ℕ) → n < length rows → is_row text ≡ true → take n rows ++ cond (is_row text) (text ∷ []) [] ≡ take (n + 1) (set rows n text)
one_more rows n text below row = ap (λ b. take n rows ++ cond b (text ∷ []) []) row ∙ sym (take-set_at rows n (n + 1) text refl below)

none_more : (rows : List (List ℕ)) (n : ℕ) (text : List ℕ) → is_row text ≡ false → take n rows ++ cond (is_row text) (text ∷ []) [] ≡ take n (set rows n text)
none_more rows n text other = ap (λ b. take n rows ++ cond b (text ∷ []) []) other ∙ append-nil (take n rows) ∙ sym (take-set rows n text)

pub loop-more-init : goal.loop-more-init
loop-more-init g c = record { rows = no_rows _ _; within = omega arith; same = refl }

pub returns-in_err-line-clause-err : goal.returns-in_err-line-clause-err
returns-in_err-line-clause-err g c =
    handed_on _ _ c.from_residual.result c.from_residual.ensures.1
    (no_rows_after _ _ _ _ _ (rw c.loop-more-test.true at c.loop-more.invariant.rows) (few _ _ _ c.if-n-wanted.true) _ c.in_err-line.ensures.err)

pub loop-more-preserved-then-line : goal.loop-more-preserved-then-line
loop-more-preserved-then-line g c =
    let so_far = rows_more _ _ _ _ _ _ _ (rw c.loop-more-test.true at c.loop-more.invariant.rows) (few _ _ _ c.if-n-wanted.true) c.in_ok-line.ensures.ok c.in_ok-line.ensures.utf8 in
    record {
      rows = rw (← one_more c.loop-more.rows c.loop-more.n c.read_text.new.text (within _ _ _ _ c.if-n-wanted.true c.requires c.loop-more.auto.rows) (sym c.in_ok-line.ensures.is_row ∙ c.if-line.true)) so_far;
      within = omega (arith, c.if-n-wanted.true);
      same = c.in_ok-line.ensures.same ∙ c.loop-more.invariant.same;
    }

pub loop-more-preserved : goal.loop-more-preserved
loop-more-preserved g c =
    let so_far = rows_more _ _ _ _ _ _ _ (rw c.loop-more-test.true at c.loop-more.invariant.rows) (few _ _ _ c.if-n-wanted.true) c.in_ok-line.ensures.ok c.in_ok-line.ensures.utf8 in
    record {
      rows = rw (← none_more c.loop-more.rows c.loop-more.n c.read_text.new.text (sym c.in_ok-line.ensures.is_row ∙ c.if-line.false)) so_far;
      within = omega (arith, c.if-n-wanted.true);
      same = c.in_ok-line.ensures.same ∙ c.loop-more.invariant.same;
    }
