use Rattle.std.proofs.Common.{◌∙◌, ne_eqb}
use Rattle.ndjson_read.specs.OneLine.{state_of}
use Rattle.ndjson_read.proofs.RowLemmas.{handed_on, no_line_after, pushed_takes, pushed_part, line_ends, line_at_end}
use Rattle.ndjson_read.proofs.line_source.LineSource.read_line.Goals as goal

pub returns-in_err-byte-clause-err : goal.returns-in_err-byte-clause-err
returns-in_err-byte-clause-err g c =
    let now = c.loop-byte.invariant in
    handed_on _ _ c.from_residual.result c.from_residual.ensures.1 (no_line_after _ _ _ _ now.takes now.is_part now.lines _ c.in_err-byte.ensures.err)

pub returns-then-byte-eq10-clause-ok : goal.returns-then-byte-eq10-clause-ok
returns-then-byte-eq10-clause-ok g c =
    let now = c.loop-byte.invariant in
    let pushed = rw c.in-Some.is at c.in_ok-byte.ensures.bytes in
    rw (c.count_line.ensures, c.deref.ensures.value)
    (line_ends _ _ (state_of g.S.Source.left g.S.Source.faults c.push_bytes.new.self) _ _ _ now.takes now.is_part pushed now.lines c.in_ok-byte.ensures.lines c.if-byte-eq10.true)

pub loop-byte-preserved : goal.loop-byte-preserved
loop-byte-preserved g c =
    let now = c.loop-byte.invariant in
    let pushed = rw c.in-Some.is at c.in_ok-byte.ensures.bytes in
    record {
      takes = pushed_takes _ _ _ _ _ _ now.takes now.is_part pushed;
      is_part = pushed_part _ _ _ _ _ _ now.takes now.is_part pushed (ne_eqb _ _ c.if-byte-eq10.false);
      lines = c.in_ok-byte.ensures.lines ∙ now.lines;
      same = c.in_ok-byte.ensures.same ∙ now.same;
    }

pub returns-clause-ok : goal.returns-clause-ok
returns-clause-ok g c =
    let now = c.loop-byte.invariant in
    let taken = rw c.in_default.is at c.in_ok-byte.ensures.end in
    rw (c.count_line-2.ensures, c.deref-2.ensures.value)
    (line_at_end _ _ (state_of g.S.Source.left g.S.Source.faults c.push_bytes.new.self) c.loop-byte.line.items _ now.takes now.is_part now.lines taken.0 taken.1 c.in_ok-byte.ensures.lines taken.2)
