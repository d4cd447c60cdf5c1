-- The parts are written one after another.
use Rattle.std.proofs.Common.{codes, decimal, refl}
use Rattle.avro_file.specs.Writing.{decimal_text}
use Rattle.avro_file.proofs.Appends.{Adds, after, last}
use Rattle.avro_file.proofs.write_parts.push_decimal.Goals as goal

pub returns-clause-appended : goal.returns-clause-appended
returns-clause-appended c =
    let one : Adds c.push.new.text.items c.args.text.now.items (codes ",\"logicalType\":\"decimal\",\"precision\":") = record { is = c.in_ok-push.ensures.appended } in
    let two : Adds c.push_number.new.text.items c.push.new.text.items (decimal c.args.precision) = record { is = c.in_ok-push_number.ensures.appended } in
    let three : Adds c.push-2.new.text.items c.push_number.new.text.items (codes ",\"scale\":") = record { is = c.in_ok-push-2.ensures.appended } in
    last c.push_number-2.result c.push_number-2.new.text.items (decimal c.args.scale) (decimal_text c.args.precision c.args.scale) (after (after one two) three) refl c.push_number-2.ensures.appended
