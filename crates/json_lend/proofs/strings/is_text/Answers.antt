use Rattle.std.proofs.Common.{◌≢◌, ◌++◌, ◌∙◌, [], false, length, refl, ap, sym, subst, append_assoc, arith}
use Rattle.std.specs.Char.{encode_utf8}
use Rattle.json_tree.specs.Reading.{First, string_at}
use Rattle.json_tree.specs.declared.value.JsonFault.TheVariants.{Text}
use Rattle.json_tree.proofs.CharTurns.{string-open, string-bad, chars-end, chars-run, chars-bad, chars-escape, escape-err}
use Rattle.json_lend.proofs.KeyLaws.{nothing, unlike, ends-alike}
use Rattle.json_lend.proofs.strings.is_text.Goals as goal

pub returns-then-not-takes : goal.returns-then-not-takes
returns-then-not-takes c s r e = nothing false (string_at c.args.reader.now) s r c.args.text.now (string-bad c.args.reader.now c.if-not-takes.ensures.taken.1) e

pub loop-behind-init : goal.loop-behind-init
loop-behind-init c =
    let o = c.if-not-takes.ensures in
    record {
      text = o.text refl (omega arith);
      reads = (length c.takes.new.self, [], omega arith, string-open c.args.reader.now c.takes.new.self o.taken, refl);
    }

pub returns-in_default : goal.returns-in_default
returns-in_default c s q e =
    let i = c.loop-behind.invariant.reads in
    let r = c.unescaped_run-run.ensures in
    let run = c.unescaped_run-run.result.now in
    let t = chars-run run c.unescaped_run-run.new.self i.0 i.1 (i.1 ++ run) c.loop-behind.reader c.args.reader.now i.3 i.2 r.split r.plain refl in
    unlike t.0 i.1 run c.unescaped_run-run.new.self c.args.reader.now s q c.args.text.now c.loop-behind.left.now t.2 e i.4 c.in_default.ensures

pub returns-then-takes : goal.returns-then-takes
returns-then-takes c s q e =
    let i = c.loop-behind.invariant.reads in
    let r = c.unescaped_run-run.ensures in
    let run = c.unescaped_run-run.result.now in
    let t = chars-run run c.unescaped_run-run.new.self i.0 i.1 (i.1 ++ run) c.loop-behind.reader c.args.reader.now i.3 i.2 r.split r.plain refl in
    let whole = sym t.2 ∙ chars-end t.0 (i.1 ++ run) c.unescaped_run-run.new.self c.takes-in-loop-behind.new.self c.if-takes.ensures.taken in
    let text = i.4 ∙ (ap (λ k. i.1 ++ k) c.in-Some.ensures ∙ sym (append_assoc i.1 run c.in-Some.behind.now)) in
    ends-alike (i.1 ++ run) c.args.reader.now s q c.takes-in-loop-behind.new.self c.args.text.now c.in-Some.behind.now c.is_empty.result whole e text c.is_empty.ensures

pub returns-then-not-takes-2 : goal.returns-then-not-takes-2
returns-then-not-takes-2 c s q e =
    let i = c.loop-behind.invariant.reads in
    let r = c.unescaped_run-run.ensures in
    let run = c.unescaped_run-run.result.now in
    let t = chars-run run c.unescaped_run-run.new.self i.0 i.1 (i.1 ++ run) c.loop-behind.reader c.args.reader.now i.3 i.2 r.split r.plain refl in
    let k = c.if-takes.ensures.taken in
    let bad = sym t.2 ∙ chars-bad t.0 (i.1 ++ run) c.unescaped_run-run.new.self r.stops k.1 (subst (First (λ x t. x ≢ 92)) k.0 c.if-not-takes-2.ensures.taken.1) in
    nothing false (string_at c.args.reader.now) s q c.args.text.now bad e

pub returns-in_default-escape : goal.returns-in_default-escape
returns-in_default-escape c s q e =
    let i = c.loop-behind.invariant.reads in
    let r = c.unescaped_run-run.ensures in
    let run = c.unescaped_run-run.result.now in
    let t = chars-run run c.unescaped_run-run.new.self i.0 i.1 (i.1 ++ run) c.loop-behind.reader c.args.reader.now i.3 i.2 r.split r.plain refl in
    let b = sym c.if-takes.ensures.taken.0 ∙ c.if-not-takes-2.ensures.taken in
    let f = c.in_default-escape.ensures.reads in
    nothing false (string_at c.args.reader.now) s q c.args.text.now (escape-err Text t.0 (i.1 ++ run) c.unescaped_run-run.new.self c.takes-in-loop-behind-2.new.self c.args.reader.now t.2 b f.1) e

pub returns-in_default-after_char : goal.returns-in_default-after_char
returns-in_default-after_char c s q e =
    let i = c.loop-behind.invariant.reads in
    let r = c.unescaped_run-run.ensures in
    let run = c.unescaped_run-run.result.now in
    let t = chars-run run c.unescaped_run-run.new.self i.0 i.1 (i.1 ++ run) c.loop-behind.reader c.args.reader.now i.3 i.2 r.split r.plain refl in
    let b = sym c.if-takes.ensures.taken.0 ∙ c.if-not-takes-2.ensures.taken in
    let f = c.in-Ok.ensures in
    let piece = encode_utf8 c.in-Ok.c in
    let next = chars-escape t.0 (i.1 ++ run) ((i.1 ++ run) ++ piece) piece c.unescaped_run-run.new.self c.takes-in-loop-behind-2.new.self c.escape.new.reader c.args.reader.now t.2 t.1 b f.reads.0 f.forward refl in
    let text = i.4 ∙ (ap (λ k. i.1 ++ k) c.in-Some.ensures ∙ sym (append_assoc i.1 run c.in-Some.behind.now)) in
    unlike next.0 (i.1 ++ run) piece c.escape.new.reader c.args.reader.now s q c.args.text.now c.in-Some.behind.now next.2 e text c.in_default-after_char.ensures

pub loop-behind-preserved : goal.loop-behind-preserved
loop-behind-preserved c =
    let i = c.loop-behind.invariant.reads in
    let r = c.unescaped_run-run.ensures in
    let run = c.unescaped_run-run.result.now in
    let t = chars-run run c.unescaped_run-run.new.self i.0 i.1 (i.1 ++ run) c.loop-behind.reader c.args.reader.now i.3 i.2 r.split r.plain refl in
    let b = sym c.if-takes.ensures.taken.0 ∙ c.if-not-takes-2.ensures.taken in
    let f = c.in-Ok.ensures in
    let piece = encode_utf8 c.in-Ok.c in
    let next = chars-escape t.0 (i.1 ++ run) ((i.1 ++ run) ++ piece) piece c.unescaped_run-run.new.self c.takes-in-loop-behind-2.new.self c.escape.new.reader c.args.reader.now t.2 t.1 b f.reads.0 f.forward refl in
    let text = i.4 ∙ (ap (λ k. i.1 ++ k) c.in-Some.ensures ∙ sym (append_assoc i.1 run c.in-Some.behind.now)) in
    let last = text ∙ (ap (λ k. (i.1 ++ run) ++ k) c.in-Some-after_char.ensures ∙ sym (append_assoc (i.1 ++ run) piece c.in-Some-after_char.behind.now)) in
    record {
      text = f.reads.1;
      reads = (next.0, (i.1 ++ run) ++ piece, next.1, next.2, last);
    }
