use Rattle.std.proofs.Common.{◌<◌, length, arith, rules}
use Rattle.guide.proofs.Fields.{is_field}
use Rattle.guide.proofs.lines.longs_of.Goals as goal

pub returns-in-Int64 : goal.returns-in-Int64
returns-in-Int64 c =
    let within : c.args.place < length c.values-columns.result.now = omega (arith, c.if-place-columns.false) in
    is_field c.args.rows.now.data_type c.values-columns.result.now c.args.place c.index-columns-place.result c.args.rows.now.slots c.in-Int64.longs.slots within (search rules) (search rules)
    c.values-columns.ensures.data_type c.values-columns.ensures.slots
