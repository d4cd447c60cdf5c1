use Rattle.std.proofs.Common.{ap, rules}
use Rattle.arrow_builders.specs.MutableArrays.{builder_kind}
use Rattle.avro_decode.proofs.Logical.{fixed_decimal_read, duration_read}
use Rattle.avro_decode.proofs.flat.decode_fixed_type.Goals as goal

pub returns-in-Int128-clause-reads : goal.returns-in-Int128-clause-reads
returns-in-Int128-clause-reads g c =
    let e = fixed_decimal_read c.args.fixed.now.size c.args.fixed.now.logical (builder_kind c.args.builder.now) (ap builder_kind c.in-Int128.is) c.requires.kind (g.C.ByteReader.rest c.args.cursor.now) in
    search rules

pub returns-in-MonthDayNano-clause-reads : goal.returns-in-MonthDayNano-clause-reads
returns-in-MonthDayNano-clause-reads g c =
    let e = duration_read c.args.fixed.now.size c.args.fixed.now.logical (builder_kind c.args.builder.now) (ap builder_kind c.in-MonthDayNano.is) c.requires.kind (g.C.ByteReader.rest c.args.cursor.now) in
    search rules
