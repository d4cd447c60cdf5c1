use Rattle.std.proofs.Common.{rules, arith, ◌∙◌, ◌+◌, ◌++◌, ap, drop, flat_map}
use Rattle.std.proofs.lemmas.Grind.{common_steps}
use Rattle.arrow_base.specs.WrittenString.{escaped}
use Rattle.arrow_base.proofs.Written.{underway-part, underway-stop, underway-stop_if, on_err, tail-whole}
use Rattle.arrow_base.proofs.Runs.{run-first, byte-next, nothing-behind}
use Rattle.arrow_base.proofs.utf8.write_escaped.Goals as goal

pub returns-in_err-write_all-clause-prefix : goal.returns-in_err-write_all-clause-prefix
returns-in_err-write_all-clause-prefix g c =
    let rest = c.loop-plain.rest.now in
    let n = c.in-Some.plain in
    on_err _ _ (underway-stop _ _ _ _ _ _ (flat_map escaped (drop n rest)) (run-first rest n c.in-Some.ensures.plain) c.loop-plain.invariant.underway c.in_err-write_all.ensures.prefix)

pub returns-in_err-write_escape-clause-prefix : goal.returns-in_err-write_escape-clause-prefix
returns-in_err-write_escape-clause-prefix g c =
    let rest = c.loop-plain.rest.now in
    let n = c.in-Some.plain in
    let after = underway-part _ _ _ _ _ _ _ (run-first rest n c.in-Some.ensures.plain) c.loop-plain.invariant.underway c.in_ok-write_all.ensures.ok in
    let next = byte-next rest n c.in-Some.ensures.within ∙ ap (λ (l : _). l ++ flat_map escaped (drop (n + 1) rest)) c.in-Some.ensures.escape in
    on_err _ _ (underway-stop _ _ _ _ _ _ _ next after c.in_err-write_escape.ensures.prefix)

pub overflow_add-rest : goal.overflow_add-rest
overflow_add-rest g c = omega (arith, c.in-Some.ensures.within, c.loop-plain.invariant.fits)

pub loop-plain-preserved : goal.loop-plain-preserved
loop-plain-preserved g c =
    let rest = c.loop-plain.rest.now in
    let n = c.in-Some.plain in
    let after = underway-part _ _ _ _ _ _ _ (run-first rest n c.in-Some.ensures.plain) c.loop-plain.invariant.underway c.in_ok-write_all.ensures.ok in
    let next = byte-next rest n c.in-Some.ensures.within ∙ ap (λ (l : _). l ++ flat_map escaped (drop (n + 1) rest)) c.in-Some.ensures.escape in
    record {
      underway = rw (tail-whole rest (n + 1)) (underway-part _ _ _ _ _ _ _ next after c.in_ok-write_escape.ensures.ok);
      fits = grind (arith, common_steps);
      never_falls = search rules;
      same = search rules;
    }

pub returns-clause-prefix : goal.returns-clause-prefix
returns-clause-prefix g c =
    let rest = c.loop-plain.rest.now in
    underway-stop_if c.write_all-2.result _ _ _ _ _ rest _ (nothing-behind _ _ c.in_default.ensures.none) c.loop-plain.invariant.underway c.write_all-2.ensures.prefix
