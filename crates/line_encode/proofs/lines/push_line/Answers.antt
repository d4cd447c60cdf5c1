use Rattle.std.proofs.Common.{◌≡◌, ◌∙◌, ◌∷◌, sym, ap}
use Rattle.json_tree.specs.Reading.{skip}
use Rattle.line_encode.proofs.Rows.{line_read}
use Rattle.line_encode.proofs.lines.push_line.Goals as goal

pub returns-in-None : goal.returns-in-None
returns-in-None c =
    let line = c.args.line.now in
    let r = c.in_ok-push_record.ensures.ok in
    let taken = rw c.if-not-takes.false at c.takes.ensures.taken in
    let begins : skip line ≡ 123 ∷ c.takes.new.self = ap skip (sym (c.new-reader.ensures ∙ c.as_bytes.ensures.value)) ∙ (sym c.skip_spaces.ensures.skipped ∙ taken) in
    line_read c.args.names.now c.args.plans.now line c.takes.new.self c.push_record.new.reader c.args.out.now.items c.push_record.new.out.items c.utf8.line begins (sym c.skip_spaces-2.ensures.skipped ∙ c.in-None.ensures) r
