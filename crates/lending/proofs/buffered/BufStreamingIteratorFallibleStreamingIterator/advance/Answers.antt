use Rattle.std.proofs.Common.{rules, ℕ, List, [], None, ◌≡◌, ◌<◌, Some, refl, cond, of_calls, arith}
use Rattle.std.specs.Iterator.{size}
use Rattle.lending.proofs.Cases.{if_some-any, if_none-any, on_err-any, on_ok-any, on_err-hidden, fills, tells_nothing}
use Rattle.lending.proofs.buffered.BufStreamingIteratorFallibleStreamingIterator.advance.Goals as goal

pub returns-in-Some : goal.returns-in-Some
returns-in-Some g c =
    let before = c.requires.1 c.if-self.false in
    let after = c.in-Some.ensures.goes.on before.1 in
    let s = c.args.self.now in
    let answer = c.f-answer.result in
    let bytes = c.f-answer.new.arg3.items in
    let falls : cond s.has_ended 0 (size (g.I.Iterator.remaining c.next.new.self)) < cond s.has_ended 0 (size (g.I.Iterator.remaining s.iterator)) = rw c.if-self.false after.2 in
    let none : (told : List (List ℕ)) → ⊥ → told ≡ [] = λ _ told. absurd told in
    record {
      steps = record {
        after_the_end = λ ended. absurd (cc);
        until_the_end = λ _. record {
          next = Some c.in-Some.item;
          given = c.in-Some.ensures.steps;
          shows = record {
            bytes = bytes;
            filled = fills _ _ _ _ _ _ _ _ c.f-answer.ensures (search rules);
            not_ended = c.if-self.false;
            shown = rw c.is_ok-self.ensures.value refl;
          };
        };
      };
      again = (search (rules, of_calls), λ _. (after.0, after.1));
      never_rises = omega (arith, falls);
      falls_shown = if_some-any _ _ (λ _. falls);
      falls_err = on_err-any answer _ falls;
      hidden = rw c.is_ok-self.ensures.value (on_err-hidden answer bytes);
      taken = tells_nothing (cond c.is_ok-self.result (Some bytes) None);
      end = on_ok-any answer _ (if_none-any (cond c.is_ok-self.result (Some bytes) None) _ none);
    }
