-- The parts of the line are written one after another.
use Rattle.std.proofs.Common.{◌++◌, codes, decimal, ap, ◌∙◌}
use Rattle.arrow_base.specs.WrittenString.{json_string}
use Rattle.cli_words.specs.Printed.{type_text}
use Rattle.avro_schema.specs.declared.schema.AvroField.{out-AvroField}
use Rattle.avro_file.proofs.Appends.{Adds, after}
use Rattle.avrocat_commands.proofs.FieldsEndings.{line_written}
use Rattle.avrocat_commands.proofs.fields.push_line.Goals as goal

pub returns-clause-appended : goal.returns-clause-appended
returns-clause-appended c =
    let one : Adds c.push_number.new.text.items c.args.text.now.items (decimal c.args.number) = record { is = c.in_ok-push_number.ensures.appended } in
    let two : Adds c.push.new.text.items c.push_number.new.text.items (codes "\t") = record { is = c.in_ok-push.ensures.appended } in
    let three : Adds c.push_string.new.text.items c.push.new.text.items (json_string (out-AvroField c.args.field.now).name) = record { is = c.in_ok-push_string.ensures.appended ∙ ap (λ s. c.push.new.text.items ++ json_string s) c.as_str.ensures } in
    let four : Adds c.push-2.new.text.items c.push_string.new.text.items (codes "\t") = record { is = c.in_ok-push-2.ensures.appended } in
    let five : Adds c.push_type.new.text.items c.push-2.new.text.items (type_text (out-AvroField c.args.field.now).schema) = record { is = c.in_ok-push_type.ensures.appended } in
    let six : Adds c.push-3.new.text.items c.push_type.new.text.items (codes "\t") = record { is = c.in_ok-push-3.ensures.appended } in
    let verdict = c.in_ok-push_verdict.ensures.appended in
    let seven : Adds c.push_verdict.new.text.items c.push-3.new.text.items verdict.0 = record { is = verdict.2 } in
    line_written c.args.number c.args.field.now verdict.0 verdict.1 (after (after (after (after (after (after one two) three) four) five) six) seven) c.push-4.result c.push-4.new.text.items c.push-4.ensures.appended
