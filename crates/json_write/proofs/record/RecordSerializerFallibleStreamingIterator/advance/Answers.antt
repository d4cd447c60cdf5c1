-- A row is shown and taken off the rows to come; where memory runs out, no row comes any more.
use Rattle.std.proofs.Common.{◌≡◌, ◌<◌, ◌-◌, ◌+◌, ap, sym, ◌∙◌, arith, refl, ◌∷◌}
use Rattle.json_write.specs.Serializing.{column_rows}
use Rattle.json_write.proofs.RowLemmas.{row_made, one_fewer, rows_begin, row_left, rows_none}
use Rattle.json_write.proofs.record.RecordSerializerFallibleStreamingIterator.advance.Goals as goal

pub returns-in-Ok : goal.returns-in-Ok
returns-in-Ok c =
    let s = c.args.self.now in
    let less : s.at < s.count = omega (arith, s.within, c.if-self.false) in
    let made = row_made s.arrays.now c.as_slice-columns.result.now s.columns.items s.at _ _ c.as_slice-columns.ensures.value c.clear.ensures.items c.in-Ok.ensures.ok in
    let fewer = one_fewer s.at s.count less in
    let rest = column_rows s.arrays.now s.columns.items (s.at + 1) (s.count - (s.at + 1)) in
    let begins = rows_begin s.arrays.now s.columns.items s.at s.count less ∙ ap (λ x. x ∷ rest) (sym made) in
    record {
      steps = record {
        next = begins;
        after_the_last = λ _. refl;
        memory = tt;
        stays = tt;
      };
      again = tt;
      never_rises = omega (arith, fewer);
      falls_shown = omega (arith, fewer);
      falls_err = tt;
      hidden = tt;
      taken = λ told e. (rest, e ∙ begins, refl);
      end = tt;
    }

pub returns-in-Err : goal.returns-in-Err
returns-in-Err c =
    let s = c.args.self.now in
    let less : s.at < s.count = omega (arith, s.within, c.if-self.false) in
    let none : s.count - s.count ≡ 0 = omega arith in
    record {
      steps = record {
        next = tt;
        after_the_last = λ empty. absurd (row_left s.arrays.now s.columns.items s.at s.count less empty);
        memory = refl;
        stays = (refl, rows_none s.arrays.now s.columns.items s.count (s.count - s.count) none);
      };
      again = tt;
      never_rises = omega arith;
      falls_shown = tt;
      falls_err = omega (arith, less);
      hidden = refl;
      taken = tt;
      end = tt;
    }
