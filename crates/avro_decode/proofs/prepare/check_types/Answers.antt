use Rattle.std.proofs.Common.{◌≡◌, Err, rules}
use Rattle.avro_schema.specs.Projected.{projected}
use Rattle.avro_decode.proofs.NotCarried.{are_refused, refused_then}
use Rattle.avro_decode.proofs.prepare.check_types.Goals as goal

pub returns-in_err-check_carried : goal.returns-in_err-check_carried
returns-in_err-check_carried c =
    let is : c.from_residual.result ≡ Err c.in_err-check_carried.field-0.0 = search rules in
    refused_then _ _ c.from_residual.result c.in_err-check_carried.field-0.0 is
    (are_refused (projected c.args.fields.now c.args.avro_fields.now c.args.projection.now) c.in_err-check_carried.field-0.0 (search rules) c.in_err-check_carried.ensures)
