-- The parts are written one after another.
use Rattle.std.proofs.Common.{◌++◌, codes, decimal, refl, ap, ◌∙◌}
use Rattle.arrow_base.specs.WrittenString.{json_string}
use Rattle.avro_file.specs.Writing.{fixed_text, given, fixed_logical_text}
use Rattle.avro_file.proofs.Appends.{Adds, after, last}
use Rattle.avro_file.proofs.write_parts.push_fixed.Goals as goal

pub returns-clause-appended : goal.returns-clause-appended
returns-clause-appended c =
    let one : Adds c.push.new.text.items c.args.text.now.items (codes "{\"type\":\"fixed\",\"name\":") = record { is = c.in_ok-push.ensures.appended } in
    let two : Adds c.push_string.new.text.items c.push.new.text.items (json_string c.args.fixed.now.name) = record { is = c.in_ok-push_string.ensures.appended ∙ ap (λ s. c.push.new.text.items ++ json_string s) c.as_str.ensures } in
    let three : Adds c.push_given.new.text.items c.push_string.new.text.items (given (codes ",\"namespace\":") c.args.fixed.now.namespace) = record { is = c.in_ok-push_given.ensures.appended } in
    let four : Adds c.push_given-2.new.text.items c.push_given.new.text.items (given (codes ",\"doc\":") c.args.fixed.now.doc) = record { is = c.in_ok-push_given-2.ensures.appended } in
    let five : Adds c.push-2.new.text.items c.push_given-2.new.text.items (codes ",\"size\":") = record { is = c.in_ok-push-2.ensures.appended } in
    let six : Adds c.push_number.new.text.items c.push-2.new.text.items (decimal c.args.fixed.now.size) = record { is = c.in_ok-push_number.ensures.appended } in
    let seven : Adds c.push_fixed_logical.new.text.items c.push_number.new.text.items (fixed_logical_text c.args.fixed.now.logical) = record { is = c.in_ok-push_fixed_logical.ensures.appended } in
    last c.push-3.result c.push-3.new.text.items (codes "}") (fixed_text c.args.fixed.now) (after (after (after (after (after (after one two) three) four) five) six) seven) refl c.push-3.ensures.appended
