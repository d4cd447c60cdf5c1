use Rattle.std.proofs.Common.{◌∙◌, sym, ap}
use Rattle.arrow_core.specs.declared.slot.Slot.TheVariants.{Null, String}
use Rattle.json_flat.specs.Meaning.{slot_of, text_in}
use Rattle.json_lend.specs.Standing.{lent_value}
use Rattle.json_line.proofs.Meanings.{pushed, is-empty, text-string, text-number, text-boolean, no-text, other}
use Rattle.json_line.proofs.content.push_text.Goals as goal

pub returns-then-is_empty-clause-ok : goal.returns-then-is_empty-clause-ok
returns-then-is_empty-clause-ok g c =
    let p = c.push_str-then-is_empty in
    let n = c.in-Number in
    let none = is-empty n.exponent.now c.is_empty.result c.if-is_empty.true c.is_empty.ensures in
    pushed p.result text_in (lent_value c.args.lent.now) (String n.mantissa.now) c.args.builder.now.slots p.new.builder.slots (rw n.is (text-number n.mantissa.now n.exponent.now none)) p.ensures.ok

pub returns-in-String-clause-ok : goal.returns-in-String-clause-ok
returns-in-String-clause-ok g c =
    let p = c.push_str in
    pushed p.result text_in (lent_value c.args.lent.now) (String c.in-String.text.now) c.args.builder.now.slots p.new.builder.slots (rw c.in-String.is (text-string c.in-String.text.now)) p.ensures.ok

pub returns-in-Escaped-clause-ok : goal.returns-in-Escaped-clause-ok
returns-in-Escaped-clause-ok g c =
    let p = c.push_escaped in
    pushed p.result text_in (lent_value c.args.lent.now) (String c.in-Escaped.string) c.args.builder.now.slots p.new.builder.slots (rw c.in-Escaped.is (text-string c.in-Escaped.string)) p.ensures.ok

pub returns-in-Bool-clause-ok : goal.returns-in-Bool-clause-ok
returns-in-Bool-clause-ok g c =
    let p = c.push_str-in-Bool in
    pushed p.result text_in (lent_value c.args.lent.now) (String c.boolean_text.result.now) c.args.builder.now.slots p.new.builder.slots
    (rw c.in-Bool.is (text-boolean c.in-Bool.boolean ∙ ap (λ s. slot_of (String s)) (sym c.boolean_text.ensures))) p.ensures.ok

pub returns-in_default-clause-ok : goal.returns-in_default-clause-ok
returns-in_default-clause-ok g c =
    let p = c.push_null_content in
    let d = c.in_default in
    pushed p.result text_in (lent_value c.args.lent.now) Null c.args.builder.now.slots p.new.builder.slots (no-text c.args.lent.now (other c.args.lent.now d.not-Bool d.not-Number d.not-String d.not-Escaped)) p.ensures.ok
