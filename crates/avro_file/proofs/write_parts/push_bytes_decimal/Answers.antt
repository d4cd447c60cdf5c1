-- The parts are written one after another.
use Rattle.std.proofs.Common.{◌++◌, codes, refl}
use Rattle.avro_file.specs.Writing.{decimal_text}
use Rattle.avro_file.proofs.Appends.{Adds, after, last}
use Rattle.avro_file.proofs.write_parts.push_bytes_decimal.Goals as goal

pub returns-clause-appended : goal.returns-clause-appended
returns-clause-appended c =
    let one : Adds c.push.new.text.items c.args.text.now.items (codes "{\"type\":\"bytes\"") = record { is = c.in_ok-push.ensures.appended } in
    let two : Adds c.push_decimal.new.text.items c.push.new.text.items (decimal_text c.args.precision c.args.scale) = record { is = c.in_ok-push_decimal.ensures.appended } in
    last c.push-2.result c.push-2.new.text.items (codes "}") (codes "{\"type\":\"bytes\"" ++ decimal_text c.args.precision c.args.scale ++ codes "}") (after one two) refl c.push-2.ensures.appended
