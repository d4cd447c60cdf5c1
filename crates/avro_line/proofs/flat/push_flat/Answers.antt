use Rattle.avro_line.proofs.Flats.{ints_shown, longs_shown}
use Rattle.avro_line.proofs.flat.push_flat.Goals as goal

pub returns-in-Int : goal.returns-in-Int
returns-in-Int g c = ints_shown c.push_int.result c.args.schema.now c.in-Int.field-0 c.args.form.now _ _ _ _ c.in-Int.is c.push_int.ensures

pub returns-in-Long : goal.returns-in-Long
returns-in-Long g c = longs_shown c.push_long.result c.args.schema.now c.in-Long.field-0 c.args.form.now _ _ _ _ c.in-Long.is c.push_long.ensures
