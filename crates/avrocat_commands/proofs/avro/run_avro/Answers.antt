-- Where fields have no columns nothing was read or written.
use Rattle.std.proofs.Common.{inl, refl, sym, ap}
use Rattle.std.proofs.lemmas.Result.{err_from_is_err_and}
use Rattle.avro_schema.specs.declared.schema.Record.{out-roll-Record}
use Rattle.avrocat_commands.proofs.AvroEndings.{schema_refused}
use Rattle.avrocat_commands.proofs.avro.run_avro.Goals as goal

pub returns-in_err-schema-clause-fails : goal.returns-in_err-schema-clause-fails
returns-in_err-schema-clause-fails g c =
    let p = err_from_is_err_and c.from_residual.result c.from_residual.ensures.1 in
    let fields = sym (ap (λ o. o.fields) (out-roll-Record _)) in
    rw (p.1, p.2) (inl ((refl, refl), (refl, refl), schema_refused c.args.words _ _ fields c.in_err-schema.ensures.err))
