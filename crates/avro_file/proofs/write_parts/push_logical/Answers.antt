-- The parts are written one after another.
use Rattle.std.proofs.Common.{◌++◌, codes, refl, ap, ◌∙◌}
use Rattle.avro_file.specs.Writing.{logical_text}
use Rattle.avro_file.proofs.Appends.{Adds, after, last}
use Rattle.avro_file.proofs.write_parts.push_logical.Goals as goal

pub returns-clause-appended : goal.returns-clause-appended
returns-clause-appended c =
    let one : Adds c.push.new.text.items c.args.text.now.items (codes "{\"type\":\"") = record { is = c.in_ok-push.ensures.appended } in
    let two : Adds c.push-2.new.text.items c.push.new.text.items (c.args.type_name.now) = record { is = c.in_ok-push-2.ensures.appended ∙ ap (λ s. c.push.new.text.items ++ s) c.as_bytes.ensures.value } in
    let three : Adds c.push-3.new.text.items c.push-2.new.text.items (codes "\",\"logicalType\":\"") = record { is = c.in_ok-push-3.ensures.appended } in
    let four : Adds c.push-4.new.text.items c.push-3.new.text.items (c.args.logical.now) = record { is = c.in_ok-push-4.ensures.appended ∙ ap (λ s. c.push-3.new.text.items ++ s) c.as_bytes-2.ensures.value } in
    last c.push-5.result c.push-5.new.text.items (codes "\"}") (logical_text c.args.type_name.now c.args.logical.now) (after (after (after one two) three) four) refl c.push-5.ensures.appended
