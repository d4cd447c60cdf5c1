-- Where no columns are made, a field is not carried.
use Rattle.std.proofs.Common.{inr, refl}
use Rattle.avro_types.proofs.RootColumns.{none_is_carried}
use Rattle.avrocat_commands.proofs.columns.small_columns.Goals as goal

pub returns-in-Err-NotYetImplemented-MapOrUnion-clause-err :
    goal.returns-in-Err-NotYetImplemented-MapOrUnion-clause-err
returns-in-Err-NotYetImplemented-MapOrUnion-clause-err c =
    let w = c.in-Err-NotYetImplemented-MapOrUnion in
    inr (refl, none_is_carried c.args.root.now (rw (w.field-0-is, w.field-0-0-is) at w.ensures.err))
