use Rattle.std.proofs.Common.{◌≢◌, ◌≤◌, ◌∙◌, length, refl, ap, sym, subst, arith}
use Rattle.std.proofs.lemmas.Result.{err_from_is_err_and}
use Rattle.std.proofs.lemmas.List.{length-append}
use Rattle.std.specs.Char.{encode_utf8}
use Rattle.json_tree.specs.Reading.{First, string_at}
use Rattle.json_tree.specs.declared.value.JsonFault.TheVariants.{Text}
use Rattle.json_tree.proofs.CharTurns.{string-open, string-bad, chars-end, chars-run, chars-bad, chars-escape, escape-err, closed}
use Rattle.json_tree.proofs.strings.escaped_string.Goals as goal

pub returns-then-not-takes-clause-reads : goal.returns-then-not-takes-clause-reads
returns-then-not-takes-clause-reads c = string-bad c.args.reader.now c.if-not-takes.ensures.taken.1

pub loop-out-init : goal.loop-out-init
loop-out-init c =
    let o = c.if-not-takes.ensures in
    record {
      forward = omega (arith, ap length o.taken);
      text = o.text refl (omega arith);
      reads = (length c.takes.new.self, omega arith, rw c.new-out.ensures (string-open c.args.reader.now c.takes.new.self o.taken));
    }

pub returns-then-takes-clause-reads : goal.returns-then-takes-clause-reads
returns-then-takes-clause-reads c =
    let i = c.loop-out.invariant.reads in
    let r = c.unescaped_run-run.ensures in
    let whole = c.push_str.new.self in
    let t = chars-run c.unescaped_run-run.result.now c.unescaped_run-run.new.self i.0 c.loop-out.out whole c.loop-out.reader c.args.reader.now i.2 i.1 r.split r.plain c.in_ok-push_str.ensures.added in
    closed c.to_text.result whole c.takes-in-loop-out.new.self (string_at c.args.reader.now) (sym t.2 ∙ chars-end t.0 whole c.unescaped_run-run.new.self c.takes-in-loop-out.new.self c.if-takes.ensures.taken) c.to_text.ensures

pub returns-then-not-takes-2-clause-reads : goal.returns-then-not-takes-2-clause-reads
returns-then-not-takes-2-clause-reads c =
    let i = c.loop-out.invariant.reads in
    let r = c.unescaped_run-run.ensures in
    let t = chars-run c.unescaped_run-run.result.now c.unescaped_run-run.new.self i.0 c.loop-out.out c.push_str.new.self c.loop-out.reader c.args.reader.now i.2 i.1 r.split r.plain c.in_ok-push_str.ensures.added in
    let q = c.if-takes.ensures.taken in
    sym t.2 ∙ chars-bad t.0 c.push_str.new.self c.unescaped_run-run.new.self r.stops q.1 (subst (First (λ x t. x ≢ 92)) q.0 c.if-not-takes-2.ensures.taken.1)

pub returns-in_err-c-clause-reads : goal.returns-in_err-c-clause-reads
returns-in_err-c-clause-reads c =
    let p = err_from_is_err_and c.from_residual-in_err-c.result c.from_residual-in_err-c.ensures.1 in
    let i = c.loop-out.invariant.reads in
    let r = c.unescaped_run-run.ensures in
    let t = chars-run c.unescaped_run-run.result.now c.unescaped_run-run.new.self i.0 c.loop-out.out c.push_str.new.self c.loop-out.reader c.args.reader.now i.2 i.1 r.split r.plain c.in_ok-push_str.ensures.added in
    let e = sym c.if-takes.ensures.taken.0 ∙ c.if-not-takes-2.ensures.taken in
    let f = c.in_err-c.ensures.reads in
    rw (p.1, p.2, f.0) (escape-err Text t.0 c.push_str.new.self c.unescaped_run-run.new.self c.takes-in-loop-out-2.new.self c.args.reader.now t.2 e f.1)

pub loop-out-preserved : goal.loop-out-preserved
loop-out-preserved c =
    let i = c.loop-out.invariant.reads in
    let r = c.unescaped_run-run.ensures in
    let t = chars-run c.unescaped_run-run.result.now c.unescaped_run-run.new.self i.0 c.loop-out.out c.push_str.new.self c.loop-out.reader c.args.reader.now i.2 i.1 r.split r.plain c.in_ok-push_str.ensures.added in
    let e = sym c.if-takes.ensures.taken.0 ∙ c.if-not-takes-2.ensures.taken in
    let f = c.in_ok-c.ensures in
    let l : length c.unescaped_run-run.new.self ≤ length c.loop-out.reader = omega (arith, ap length r.split, length-append c.unescaped_run-run.result.now c.unescaped_run-run.new.self) in
    record {
      forward = omega (arith, f.forward, ap length e, l, c.loop-out.invariant.forward);
      text = f.reads.1;
      reads = chars-escape t.0 c.push_str.new.self c.push.new.self (encode_utf8 c.in_ok-c.c) c.unescaped_run-run.new.self c.takes-in-loop-out-2.new.self c.escape.new.reader c.args.reader.now t.2 t.1 e f.reads.0 f.forward c.in_ok-push.ensures.added;
    }
