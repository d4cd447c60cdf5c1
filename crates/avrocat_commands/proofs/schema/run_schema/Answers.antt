-- What the header states is what was written.
use Rattle.std.proofs.Common.{◌≡◌, List, ℕ, ◌++◌, codes, ap, rules}
use Rattle.std.proofs.lemmas.Result.{err_from_is_err_and}
use Rattle.avro_container.specs.Changes.{Change, change_of}
use Rattle.avrocat_commands.proofs.SchemaEndings.{not_stated, schema_written, schema_broken}
use Rattle.avrocat_commands.proofs.schema.run_schema.Goals as goal

pub returns-in_err-text-clause-fails : goal.returns-in_err-text-clause-fails
returns-in_err-text-clause-fails g c =
    let source : Change = change_of (g.S.Source.left c.args.source.now) (g.S.Source.faults c.args.source.now) (g.S.Source.left c.schema_of.new.source) (g.S.Source.faults c.schema_of.new.source) in
    let p = err_from_is_err_and c.from_residual.result c.from_residual.ensures.1 in
    rw (p.1, p.2) (not_stated source (g.K.Sink.held c.args.sink.now) (g.K.Sink.faults c.args.sink.now) _ c.in_err-text.ensures.err)

pub returns-clause-done : goal.returns-clause-done
returns-clause-done g c =
    let source : Change = change_of (g.S.Source.left c.args.source.now) (g.S.Source.faults c.args.source.now) (g.S.Source.left c.schema_of.new.source) (g.S.Source.faults c.schema_of.new.source) in
    let sink : Change = change_of (g.K.Sink.held c.args.sink.now) (g.K.Sink.faults c.args.sink.now) (g.K.Sink.held c.write_both.new.note) (g.K.Sink.faults c.write_both.new.note) in
    let items : c.as_slice.result.now ≡ c.in_ok-text.text = search rules in
    schema_written source sink c.in_ok-text.text (c.as_slice.result.now ++ codes "\n") c.in_ok-text.ensures.ok (ap (λ (t : List ℕ). t ++ codes "\n") items) c.write_both.result c.write_both.ensures.ok

pub returns-clause-fails : goal.returns-clause-fails
returns-clause-fails g c =
    let source : Change = change_of (g.S.Source.left c.args.source.now) (g.S.Source.faults c.args.source.now) (g.S.Source.left c.schema_of.new.source) (g.S.Source.faults c.schema_of.new.source) in
    let sink : Change = change_of (g.K.Sink.held c.args.sink.now) (g.K.Sink.faults c.args.sink.now) (g.K.Sink.held c.write_both.new.note) (g.K.Sink.faults c.write_both.new.note) in
    let items : c.as_slice.result.now ≡ c.in_ok-text.text = search rules in
    schema_broken source sink c.in_ok-text.text (c.as_slice.result.now ++ codes "\n") c.in_ok-text.ensures.ok (ap (λ (t : List ℕ). t ++ codes "\n") items) c.write_both.result c.write_both.ensures.only c.write_both.ensures.prefix c.write_both.ensures.cause
