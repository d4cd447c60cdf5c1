-- The line of a fault of reading is told in decimal.
use Rattle.std.proofs.Common.{◌≡◌, ◌∙◌, ap, Some}
use Rattle.arrow_core.specs.declared.error.Error.TheVariants.{ReadFault}
use Rattle.avrocat_commands.proofs.Told.{read_fault_note}
use Rattle.avrocat_commands.proofs.note.note_error.Goals as goal

pub returns-in-ReadFault-Some-clause-ok : goal.returns-in-ReadFault-Some-clause-ok
returns-in-ReadFault-Some-clause-ok g c =
    let is : c.args.error ≡ ReadFault (Some c.in-ReadFault-Some.line) = c.in-ReadFault-Some.is ∙ ap ReadFault (rw c.in-ReadFault-Some.is at c.in-ReadFault-Some.line-is) in
    let told = read_fault_note c.args.error c.in-ReadFault-Some.line _ _ is (c.as_bytes-name.ensures.value ∙ c.name.ensures) (c.as_bytes.ensures.value ∙ c.format.ensures.text) in
    rw (← told) c.write_line.ensures.ok

pub returns-in-ReadFault-Some-clause-prefix : goal.returns-in-ReadFault-Some-clause-prefix
returns-in-ReadFault-Some-clause-prefix g c =
    let is : c.args.error ≡ ReadFault (Some c.in-ReadFault-Some.line) = c.in-ReadFault-Some.is ∙ ap ReadFault (rw c.in-ReadFault-Some.is at c.in-ReadFault-Some.line-is) in
    let told = read_fault_note c.args.error c.in-ReadFault-Some.line _ _ is (c.as_bytes-name.ensures.value ∙ c.name.ensures) (c.as_bytes.ensures.value ∙ c.format.ensures.text) in
    rw (← told) c.write_line.ensures.prefix
