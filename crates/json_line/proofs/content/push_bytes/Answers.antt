use Rattle.std.proofs.Common.{◌∙◌, sym, ap}
use Rattle.arrow_core.specs.declared.slot.Slot.TheVariants.{Null, Binary}
use Rattle.json_flat.specs.Meaning.{slot_of, bytes_in}
use Rattle.json_lend.specs.Standing.{lent_value}
use Rattle.json_line.proofs.Meanings.{pushed, bytes-string, no-string}
use Rattle.json_line.proofs.content.push_bytes.Goals as goal

pub returns-in-String-clause-ok : goal.returns-in-String-clause-ok
returns-in-String-clause-ok g c =
    let p = c.push_slice in
    pushed p.result bytes_in (lent_value c.args.lent.now) (Binary c.as_bytes.result.now) c.args.builder.now.slots p.new.builder.slots
    (rw c.in-String.is (bytes-string c.in-String.text.now ∙ ap (λ s. slot_of (Binary s)) (sym c.as_bytes.ensures.value))) p.ensures.ok

pub returns-in-Escaped-clause-ok : goal.returns-in-Escaped-clause-ok
returns-in-Escaped-clause-ok g c =
    let p = c.push_escaped_bytes in
    pushed p.result bytes_in (lent_value c.args.lent.now) (Binary c.in-Escaped.string) c.args.builder.now.slots p.new.builder.slots (rw c.in-Escaped.is (bytes-string c.in-Escaped.string)) p.ensures.ok

pub returns-in_default-clause-ok : goal.returns-in_default-clause-ok
returns-in_default-clause-ok g c =
    let p = c.push_null_content in
    pushed p.result bytes_in (lent_value c.args.lent.now) Null c.args.builder.now.slots p.new.builder.slots (no-string c.args.lent.now c.in_default.not-String c.in_default.not-Escaped) p.ensures.ok
