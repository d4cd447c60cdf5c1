-- The parts are written one after another.
use Rattle.std.proofs.Common.{◌++◌, codes, map, refl, ap, ◌∙◌}
use Rattle.arrow_base.specs.WrittenString.{json_string}
use Rattle.arrow_base.specs.Joined.{joined}
use Rattle.avro_file.specs.Writing.{enum_text, given}
use Rattle.avro_file.proofs.Appends.{Adds, after, last}
use Rattle.avro_file.proofs.write_parts.push_enum.Goals as goal

pub returns-clause-appended : goal.returns-clause-appended
returns-clause-appended c =
    let one : Adds c.push.new.text.items c.args.text.now.items (codes "{\"type\":\"enum\",\"name\":") = record { is = c.in_ok-push.ensures.appended } in
    let two : Adds c.push_string.new.text.items c.push.new.text.items (json_string c.args.symbols.now.name) = record { is = c.in_ok-push_string.ensures.appended ∙ ap (λ s. c.push.new.text.items ++ json_string s) c.as_str.ensures } in
    let three : Adds c.push_given.new.text.items c.push_string.new.text.items (given (codes ",\"namespace\":") c.args.symbols.now.namespace) = record { is = c.in_ok-push_given.ensures.appended } in
    let four : Adds c.push_given-2.new.text.items c.push_given.new.text.items (given (codes ",\"doc\":") c.args.symbols.now.doc) = record { is = c.in_ok-push_given-2.ensures.appended } in
    let five : Adds c.push-2.new.text.items c.push_given-2.new.text.items (codes ",\"symbols\":[") = record { is = c.in_ok-push-2.ensures.appended } in
    let six : Adds c.push_strings.new.text.items c.push-2.new.text.items (joined (map json_string c.args.symbols.now.symbols)) = record { is = c.in_ok-push_strings.ensures.appended ∙ ap (λ s. c.push-2.new.text.items ++ joined (map json_string s)) c.as_slice.ensures } in
    last c.push-3.result c.push-3.new.text.items (codes "]}") (enum_text c.args.symbols.now) (after (after (after (after (after one two) three) four) five) six) refl c.push-3.ensures.appended
