use Rattle.std.proofs.Common.{◌≢◌, ◌∙◌, length, refl, sym, subst, arith}
use Rattle.std.proofs.lemmas.Result.{err_from_is_err_and}
use Rattle.std.specs.Char.{encode_utf8}
use Rattle.std.specs.Prelude.{string_bytes}
use Rattle.json_tree.specs.Reading.{First}
use Rattle.json_tree.specs.declared.value.JsonFault.TheVariants.{Text}
use Rattle.json_tree.proofs.CharTurns.{string-open, string-bad, chars-end, chars-run, chars-bad, chars-escape, escape-err}
use Rattle.json_lend.proofs.strings.fill.Goals as goal

pub returns-then-not-takes : goal.returns-then-not-takes
returns-then-not-takes c = string-bad c.args.reader.now c.if-not-takes.ensures.taken.1

pub loop-reader-init : goal.loop-reader-init
loop-reader-init c =
    let o = c.if-not-takes.ensures in
    record {
      text = o.text refl (omega arith);
      reads = (length c.takes.new.self, omega arith, rw c.clear.ensures.bytes (string-open c.args.reader.now c.takes.new.self o.taken));
    }

pub returns-then-takes : goal.returns-then-takes
returns-then-takes c =
    let i = c.loop-reader.invariant.reads in
    let r = c.unescaped_run-run.ensures in
    let whole = string_bytes c.append.new.buffer in
    let t = chars-run c.unescaped_run-run.result.now c.unescaped_run-run.new.self i.0 (string_bytes c.loop-reader.buffer) whole c.loop-reader.reader c.args.reader.now i.2 i.1 r.split r.plain c.in_ok-append.ensures.added in
    sym t.2 ∙ chars-end t.0 whole c.unescaped_run-run.new.self c.takes-in-loop-reader.new.self c.if-takes.ensures.taken

pub returns-then-not-takes-2 : goal.returns-then-not-takes-2
returns-then-not-takes-2 c =
    let i = c.loop-reader.invariant.reads in
    let r = c.unescaped_run-run.ensures in
    let whole = string_bytes c.append.new.buffer in
    let t = chars-run c.unescaped_run-run.result.now c.unescaped_run-run.new.self i.0 (string_bytes c.loop-reader.buffer) whole c.loop-reader.reader c.args.reader.now i.2 i.1 r.split r.plain c.in_ok-append.ensures.added in
    let q = c.if-takes.ensures.taken in
    sym t.2 ∙ chars-bad t.0 whole c.unescaped_run-run.new.self r.stops q.1 (subst (First (λ x t. x ≢ 92)) q.0 c.if-not-takes-2.ensures.taken.1)

pub returns-in_err-c : goal.returns-in_err-c
returns-in_err-c c =
    let p = err_from_is_err_and c.from_residual-in_err-c.result c.from_residual-in_err-c.ensures.1 in
    let i = c.loop-reader.invariant.reads in
    let r = c.unescaped_run-run.ensures in
    let whole = string_bytes c.append.new.buffer in
    let t = chars-run c.unescaped_run-run.result.now c.unescaped_run-run.new.self i.0 (string_bytes c.loop-reader.buffer) whole c.loop-reader.reader c.args.reader.now i.2 i.1 r.split r.plain c.in_ok-append.ensures.added in
    let e = sym c.if-takes.ensures.taken.0 ∙ c.if-not-takes-2.ensures.taken in
    let f = c.in_err-c.ensures.reads in
    rw (p.1, p.2, f.0) (escape-err Text t.0 whole c.unescaped_run-run.new.self c.takes-in-loop-reader-2.new.self c.args.reader.now t.2 e f.1)

pub loop-reader-preserved : goal.loop-reader-preserved
loop-reader-preserved c =
    let i = c.loop-reader.invariant.reads in
    let r = c.unescaped_run-run.ensures in
    let whole = string_bytes c.append.new.buffer in
    let t = chars-run c.unescaped_run-run.result.now c.unescaped_run-run.new.self i.0 (string_bytes c.loop-reader.buffer) whole c.loop-reader.reader c.args.reader.now i.2 i.1 r.split r.plain c.in_ok-append.ensures.added in
    let e = sym c.if-takes.ensures.taken.0 ∙ c.if-not-takes-2.ensures.taken in
    let f = c.in_ok-c.ensures in
    record {
      text = f.reads.1;
      reads = chars-escape t.0 whole (string_bytes c.append_char.new.buffer) (encode_utf8 c.in_ok-c.c) c.unescaped_run-run.new.self c.takes-in-loop-reader-2.new.self c.escape.new.reader c.args.reader.now t.2 t.1 e f.reads.0 f.forward c.in_ok-append_char.ensures.added;
    }
