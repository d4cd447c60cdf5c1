use Rattle.std.proofs.Common.{◌≡◌, ◌∙◌, decimal, refl, sym, ap, subst, arith}
use Rattle.std.proofs.lemmas.Slice.Eq.{bytes_eq-Decides}
use Rattle.cli_words.specs.Names.{IsRows}
use Rattle.cli_words.proofs.Numerals.{decimal_is_rows, read_as_one, not_both}
use Rattle.cli_words.proofs.words.read_number.Goals.{then-number-greatest-via-then-number-greatest, then-number-greatest-via-else-number-greatest+then-ne}
use Rattle.cli_words.proofs.words.read_number.Goals as goal

pub returns-in_err-number-clause-none : goal.returns-in_err-number-clause-none
returns-in_err-number-clause-none c = λ _ number writes most.
    c.in_err-number.ensures.none refl number (subst (λ z. IsRows z number) (sym writes) (decimal_is_rows number (omega (arith, most, c.ranges.greatest.fits))))

pub returns-then-number-greatest-clause-none : goal.returns-then-number-greatest-clause-none
returns-then-number-greatest-clause-none c = λ _ number writes most.
    let same = read_as_one c.args.word.now c.in_ok-number.number number c.in_ok-number.ensures.rows (omega (arith, most, c.ranges.greatest.fits)) writes in
    elim c.then-number-greatest.branch [
      | then-number-greatest-via-then-number-greatest w ↦ omega (arith, same, most, w.if-number-greatest.true)
      | then-number-greatest-via-else-number-greatest+then-ne w ↦
          let writes_it : w.format.result.now ≡ c.args.word.now = w.format.ensures.text ∙ ap decimal same ∙ sym writes in
          let equal = (bytes_eq-Decides w.format.result.now c.args.word.now).1 writes_it in
          not_both _ (sym w.if-ne.true ∙ w.ne.ensures) equal
    ]
