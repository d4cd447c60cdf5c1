use Rattle.std.proofs.Common.{◌∙◌, ◌++◌, true, false, length, drop, ap, sym, refl}
use Rattle.std.proofs.lemmas.Bool.{true≢false}
use Rattle.std.proofs.lemmas.Slice.Eq.{starts_is}
use Rattle.std.specs.Cmp.{unsigned_Decides}
use Rattle.json_tree.specs.Reading.{strip, found}
use Rattle.json_tree.proofs.Scalars.{strip-complete, strip-other}
use Rattle.json_tree.proofs.grammar.literal.Goals as goal

pub returns-then-not-starts_with-clause-reads : goal.returns-then-not-starts_with-clause-reads
returns-then-not-starts_with-clause-reads c =
    let starts = starts_is unsigned_Decides c.rest.result.now c.args.word.now false c.if-not-starts_with.ensures.value in
    (refl, strip-other c.args.word.now c.args.reader.now (λ r e. true≢false (sym (starts.1 r (c.rest.ensures ∙ e)))))

pub returns-clause-reads : goal.returns-clause-reads
returns-clause-reads c =
    let word = c.args.word.now in
    let starts = starts_is unsigned_Decides c.rest.result.now word true c.if-not-starts_with.ensures.value in
    let split = sym c.rest.ensures ∙ starts.0 refl ∙ ap (λ b. word ++ drop (length word) b) c.rest.ensures in
    ap (strip word) split ∙ strip-complete word (drop (length word) c.args.reader.now) ∙ ap (found tt) (sym c.advance.ensures)
