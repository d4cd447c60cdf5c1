use Rattle.std.proofs.Common.{◌≡◌, ◌<◌, length, arith, rules}
use Rattle.json_infer.specs.Parts.{members_of}
use Rattle.guide.proofs.Fields.{name_at}
use Rattle.guide.proofs.lines.place_of.Goals as goal

pub returns-then-eq : goal.returns-then-eq
returns-then-eq c =
    let named : c.index-fields-place.result.name ≡ c.args.key.now = search rules in
    let within : c.loop-place.place < length c.fields_of-fields.result.now = omega (arith, c.loop-place-test.true) in
    name_at c.fields_of-fields.result.now (members_of c.args.row_type.now) c.loop-place.place c.index-fields-place.result c.args.key.now c.fields_of-fields.ensures within c.index-fields-place.is named
