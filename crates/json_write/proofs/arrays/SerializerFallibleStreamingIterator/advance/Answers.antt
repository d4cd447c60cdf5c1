-- The next array that has slots was found, and its texts are taken off what is told; or there is none.
use Rattle.std.proofs.Common.{◌<◌, ◌∙◌, cond, refl, arith}
use Rattle.std.specs.Iterator.{size}
use Rattle.json_write.specs.Arrays.{array_texts, items_of}
use Rattle.json_write.proofs.PassedLemmas.{tells_next, tells_none}
use Rattle.json_write.proofs.arrays.SerializerFallibleStreamingIterator.advance.Goals as goal

pub returns-in-Ok-true : goal.returns-in-Ok-true
returns-in-Ok-true g c =
    let s = c.args.self.now in
    let test = c.in-Ok-true.field-0-test in
    let found = rw test at c.in-Ok-true.ensures.found in
    let fewer = c.in-Ok-true.ensures.falls test in
    let falls : size (g.I.Iterator.remaining c.find.new.arrays) < cond s.has_ended 0 (size (g.I.Iterator.remaining s.arrays)) = rw c.if-self.false fewer in
    record {
      steps = record {
        after_the_end = λ ended. absurd (cc);
        until_the_end = λ _. (found, refl);
      };
      again = λ _. c.in-Ok-true.ensures.ends test;
      never_rises = omega (arith, falls);
      falls_shown = falls;
      falls_err = tt;
      hidden = tt;
      taken = λ told t.
          let it = rw c.if-self.false at t in
          let r = tells_next g.I.Iterator.next_gives array_texts _ _ _ it.0 found it.1 in
          (items_of r.0, it.2 ∙ r.2, (r.0, r.1, refl));
      end = tt;
    }

pub returns-in-Ok-false : goal.returns-in-Ok-false
returns-in-Ok-false g c =
    let test = c.in-Ok-false.field-0-test in
    let none = rw test at c.in-Ok-false.ensures.found in
    record {
      steps = record {
        after_the_end = λ ended. absurd (cc);
        until_the_end = λ _. (none, refl);
      };
      again = λ ended. absurd (cc);
      never_rises = omega arith;
      falls_shown = tt;
      falls_err = tt;
      hidden = tt;
      taken = tt;
      end = λ told t.
          let it = rw c.if-self.false at t in
          it.2 ∙ tells_none g.I.Iterator.next_gives array_texts _ _ it.0 none it.1;
    }
