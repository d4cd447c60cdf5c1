-- The lines of the header's record are what was written.
use Rattle.std.proofs.Common.{◌≡◌, List, subst, rules}
use Rattle.std.proofs.lemmas.Result.{err_from_is_err_and}
use Rattle.avro_schema.specs.declared.schema.AvroField.{AvroField}
use Rattle.avro_container.specs.Changes.{Change, change_of}
use Rattle.avrocat_commands.specs.Fields.{AreFieldLines}
use Rattle.avrocat_commands.proofs.FieldsEndings.{no_header, no_memory, lists_fields, fields_written, fields_broken}
use Rattle.avrocat_commands.proofs.fields.run_fields.Goals as goal

pub returns-in_err-metadata-clause-fails : goal.returns-in_err-metadata-clause-fails
returns-in_err-metadata-clause-fails g c =
    let source : Change = change_of (g.S.Source.left c.args.source.now) (g.S.Source.faults c.args.source.now) (g.S.Source.left c.read_metadata.new.source) (g.S.Source.faults c.read_metadata.new.source) in
    let p = err_from_is_err_and c.from_residual.result c.from_residual.ensures.1 in
    rw (p.1, p.2) (no_header source (g.K.Sink.held c.args.sink.now) (g.K.Sink.faults c.args.sink.now) _ c.in_err-metadata.ensures.err)

pub returns-in_err-text-clause-fails : goal.returns-in_err-text-clause-fails
returns-in_err-text-clause-fails g c =
    let source : Change = change_of (g.S.Source.left c.args.source.now) (g.S.Source.faults c.args.source.now) (g.S.Source.left c.read_metadata.new.source) (g.S.Source.faults c.read_metadata.new.source) in
    let p = err_from_is_err_and c.from_residual-in_err-text.result c.from_residual-in_err-text.ensures.1 in
    rw (p.1, p.2) (no_memory source (g.K.Sink.held c.args.sink.now) (g.K.Sink.faults c.args.sink.now) _ c.in_err-text.ensures.memory)

pub returns-clause-done : goal.returns-clause-done
returns-clause-done g c =
    let source : Change = change_of (g.S.Source.left c.args.source.now) (g.S.Source.faults c.args.source.now) (g.S.Source.left c.read_metadata.new.source) (g.S.Source.faults c.read_metadata.new.source) in
    let sink : Change = change_of (g.K.Sink.held c.args.sink.now) (g.K.Sink.faults c.args.sink.now) (g.K.Sink.held c.write_all.new.sink) (g.K.Sink.faults c.write_all.new.sink) in
    let items : c.as_slice-2.result.now ≡ c.in_ok-text.text.items = search rules in
    fields_written source sink _ c.as_slice-2.result.now (lists_fields source _ _ _ _ c.in_ok-metadata.ensures.ok (subst (λ (fs : List AvroField). AreFieldLines 0 fs c.in_ok-text.text.items) c.as_slice.ensures c.in_ok-text.ensures.lines)) items c.write_all.result c.write_all.ensures.ok

pub returns-clause-fails : goal.returns-clause-fails
returns-clause-fails g c =
    let source : Change = change_of (g.S.Source.left c.args.source.now) (g.S.Source.faults c.args.source.now) (g.S.Source.left c.read_metadata.new.source) (g.S.Source.faults c.read_metadata.new.source) in
    let sink : Change = change_of (g.K.Sink.held c.args.sink.now) (g.K.Sink.faults c.args.sink.now) (g.K.Sink.held c.write_all.new.sink) (g.K.Sink.faults c.write_all.new.sink) in
    let items : c.as_slice-2.result.now ≡ c.in_ok-text.text.items = search rules in
    fields_broken source sink _ c.as_slice-2.result.now (lists_fields source _ _ _ _ c.in_ok-metadata.ensures.ok (subst (λ (fs : List AvroField). AreFieldLines 0 fs c.in_ok-text.text.items) c.as_slice.ensures c.in_ok-text.ensures.lines)) items c.write_all.result c.write_all.ensures.only c.write_all.ensures.prefix c.write_all.ensures.cause
