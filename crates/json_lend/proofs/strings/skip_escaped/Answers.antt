use Rattle.std.proofs.Common.{◌≤◌, ◌≢◌, ◌++◌, ◌∙◌, [], length, refl, ap, sym, subst, arith}
use Rattle.std.proofs.lemmas.Result.{err_from_is_err_and}
use Rattle.std.proofs.lemmas.List.{length-append}
use Rattle.std.specs.Char.{encode_utf8}
use Rattle.json_tree.specs.Reading.{First}
use Rattle.json_tree.specs.declared.value.JsonFault.TheVariants.{Text}
use Rattle.json_tree.proofs.CharTurns.{string-open, string-bad, chars-end, chars-run, chars-bad, chars-escape, escape-err}
use Rattle.json_lend.proofs.strings.skip_escaped.Goals as goal

pub returns-then-not-takes-clause-reads : goal.returns-then-not-takes-clause-reads
returns-then-not-takes-clause-reads c = string-bad c.args.reader.now c.if-not-takes.ensures.taken.1

pub loop-reader-init : goal.loop-reader-init
loop-reader-init c =
    let o = c.if-not-takes.ensures in
    record {
      forward = omega (arith, ap length o.taken);
      text = o.text refl (omega arith);
      reads = (length c.takes.new.self, [], omega arith, string-open c.args.reader.now c.takes.new.self o.taken);
    }

pub returns-then-takes-clause-reads : goal.returns-then-takes-clause-reads
returns-then-takes-clause-reads c =
    let i = c.loop-reader.invariant.reads in
    let r = c.unescaped_run-run.ensures in
    let run = c.unescaped_run-run.result.now in
    let t = chars-run run c.unescaped_run-run.new.self i.0 i.1 (i.1 ++ run) c.loop-reader.reader c.args.reader.now i.3 i.2 r.split r.plain refl in
    (i.1 ++ run, sym t.2 ∙ chars-end t.0 (i.1 ++ run) c.unescaped_run-run.new.self c.takes-in-loop-reader.new.self c.if-takes.ensures.taken)

pub returns-then-not-takes-2-clause-reads : goal.returns-then-not-takes-2-clause-reads
returns-then-not-takes-2-clause-reads c =
    let i = c.loop-reader.invariant.reads in
    let r = c.unescaped_run-run.ensures in
    let run = c.unescaped_run-run.result.now in
    let t = chars-run run c.unescaped_run-run.new.self i.0 i.1 (i.1 ++ run) c.loop-reader.reader c.args.reader.now i.3 i.2 r.split r.plain refl in
    let q = c.if-takes.ensures.taken in
    sym t.2 ∙ chars-bad t.0 (i.1 ++ run) c.unescaped_run-run.new.self r.stops q.1 (subst (First (λ x t. x ≢ 92)) q.0 c.if-not-takes-2.ensures.taken.1)

pub returns-in_err-escape-clause-reads : goal.returns-in_err-escape-clause-reads
returns-in_err-escape-clause-reads c =
    let p = err_from_is_err_and c.from_residual.result c.from_residual.ensures.1 in
    let i = c.loop-reader.invariant.reads in
    let r = c.unescaped_run-run.ensures in
    let run = c.unescaped_run-run.result.now in
    let t = chars-run run c.unescaped_run-run.new.self i.0 i.1 (i.1 ++ run) c.loop-reader.reader c.args.reader.now i.3 i.2 r.split r.plain refl in
    let e = sym c.if-takes.ensures.taken.0 ∙ c.if-not-takes-2.ensures.taken in
    let f = c.in_err-escape.ensures.reads in
    rw (p.1, p.2, f.0) (escape-err Text t.0 (i.1 ++ run) c.unescaped_run-run.new.self c.takes-in-loop-reader-2.new.self c.args.reader.now t.2 e f.1)

pub loop-reader-preserved : goal.loop-reader-preserved
loop-reader-preserved c =
    let i = c.loop-reader.invariant.reads in
    let r = c.unescaped_run-run.ensures in
    let run = c.unescaped_run-run.result.now in
    let t = chars-run run c.unescaped_run-run.new.self i.0 i.1 (i.1 ++ run) c.loop-reader.reader c.args.reader.now i.3 i.2 r.split r.plain refl in
    let e = sym c.if-takes.ensures.taken.0 ∙ c.if-not-takes-2.ensures.taken in
    let f = c.in_ok-escape.ensures in
    let l : length c.unescaped_run-run.new.self ≤ length c.loop-reader.reader = omega (arith, ap length r.split, length-append run c.unescaped_run-run.new.self) in
    let text = encode_utf8 c.in_ok-escape.field-0 in
    let next = chars-escape t.0 (i.1 ++ run) ((i.1 ++ run) ++ text) text c.unescaped_run-run.new.self c.takes-in-loop-reader-2.new.self c.escape.new.reader c.args.reader.now t.2 t.1 e f.reads.0 f.forward refl in
    record {
      forward = omega (arith, f.forward, ap length e, l, c.loop-reader.invariant.forward);
      text = f.reads.1;
      reads = (next.0, (i.1 ++ run) ++ text, next.1, next.2);
    }
