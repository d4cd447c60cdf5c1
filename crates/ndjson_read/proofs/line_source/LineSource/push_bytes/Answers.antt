use Rattle.std.proofs.Common.{◌≡◌, ℕ, List, ◌+◌, ◌-◌, ◌<◌, ◌∙◌, length, ap, subst, sym, slice_get, refl, rules, arith}
use Rattle.ndjson_read.specs.OneLine.{state_of, within_line, NoBytes}
use Rattle.ndjson_read.specs.Reading.{n_more}
use Rattle.ndjson_read.proofs.RowLemmas.{some_pushed, past_limit, last_pushed, none_pushed}
use Rattle.ndjson_read.proofs.line_source.LineSource.push_bytes.Goals as goal

pub returns-then-taken-self-clause-err : goal.returns-then-taken-self-clause-err
returns-then-taken-self-clause-err g c =
    let given = c.in-Ok.ensures.given in
    let long : length given.bytes ≡ c.args.self.now.limit + 1 = omega (arith, given.counted, given.came.fits, c.if-taken-self.true, c.saturating_add-most.ensures) in
    past_limit _ _ given.bytes given.came.consumed c.in-Ok.ensures.never_falls given.came.stops long refl

pub returns-else-taken-self-clause-bytes : goal.returns-else-taken-self-clause-bytes
returns-else-taken-self-clause-bytes g c =
    let given = c.in-Ok.ensures.given in
    let some : 0 < length given.bytes = omega (arith, given.counted, c.in-Ok.taken-test) in
    let limit : c.args.self.now.limit ≡ length given.bytes + (c.args.self.now.limit - c.in-Ok.taken) = omega (arith, given.counted, c.if-taken-self.false) in
    last_pushed _ _ _ _ _ (some_pushed _ _ given.bytes given.came.consumed c.in-Ok.ensures.never_falls given.came.stops _ _ some limit given.appended)
    (c.copied.ensures ∙ c.last.ensures.value ∙ ap (λ (line : List ℕ). slice_get line (length line - 1)) c.deref.ensures.value)

pub returns-in-Err-clause-err : goal.returns-in-Err-clause-err
returns-in-Err-clause-err g c =
    let error = c.in-Err.error in
    let number : c.saturating_add.result ≡ n_more c.args.self.now.lines 1 = search rules in
    subst (NoBytes _ _) (sym (c.within_line.ensures ∙ ap (within_line error) number))
    (none_pushed (state_of g.S.Source.left g.S.Source.faults c.args.self.now) _ error c.in-Err.ensures.unchanged refl refl c.in-Err.ensures.never_falls c.in-Err.ensures.err)
