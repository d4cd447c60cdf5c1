-- The type that was inferred is the one that is written.
use Rattle.std.proofs.Common.{◌∙◌, refl}
use Rattle.std.proofs.lemmas.Result.{err_from_is_err_and}
use Rattle.avro_container.specs.Changes.{change_of}
use Rattle.avrocat_commands.proofs.InferAnswers.{infer_breaks, infer_without_memory, infer_without_type, infer_writes, only_memory}
use Rattle.avrocat_commands.proofs.infer.run_infer.Goals as goal

pub returns-in_err-data_type-clause-fails : goal.returns-in_err-data_type-clause-fails
returns-in_err-data_type-clause-fails g c =
    let p = err_from_is_err_and c.from_residual.result c.from_residual.ensures.1 in
    let source = change_of (g.S.Source.left c.args.source.now) (g.S.Source.faults c.args.source.now) (g.S.Source.left c.infer.new.reader) (g.S.Source.faults c.infer.new.reader) in
    let e = c.in_err-data_type in
    rw (p.1, p.2) (infer_without_type source (g.K.Sink.held c.args.sink.now) (g.K.Sink.faults c.args.sink.now) _ e.ensures.err
    (only_memory source _ _ refl e.ensures.complete e.ensures.never_falls (g.met.S.Source.bounded c.infer.new.reader)))

pub returns-in_err-line-clause-fails : goal.returns-in_err-line-clause-fails
returns-in_err-line-clause-fails g c =
    let p = err_from_is_err_and c.from_residual-in_err-line.result c.from_residual-in_err-line.ensures.1 in
    let source = change_of (g.S.Source.left c.args.source.now) (g.S.Source.faults c.args.source.now) (g.S.Source.left c.infer.new.reader) (g.S.Source.faults c.infer.new.reader) in
    rw (p.1, p.2) (infer_without_memory source (g.K.Sink.held c.args.sink.now) (g.K.Sink.faults c.args.sink.now) _ c.in_err-line.ensures.memory)

pub returns-clause-done : goal.returns-clause-done
returns-clause-done g c =
    let source = change_of (g.S.Source.left c.args.source.now) (g.S.Source.faults c.args.source.now) (g.S.Source.left c.infer.new.reader) (g.S.Source.faults c.infer.new.reader) in
    let sink = change_of (g.K.Sink.held c.args.sink.now) (g.K.Sink.faults c.args.sink.now) (g.K.Sink.held c.write_all.new.sink) (g.K.Sink.faults c.write_all.new.sink) in
    infer_writes source sink _ c.in_ok-data_type.ensures.ok c.write_all.result c.as_slice.result.now (c.as_slice.ensures.value ∙ c.in_ok-line.ensures.line) c.write_all.ensures.ok

pub returns-clause-fails : goal.returns-clause-fails
returns-clause-fails g c =
    let source = change_of (g.S.Source.left c.args.source.now) (g.S.Source.faults c.args.source.now) (g.S.Source.left c.infer.new.reader) (g.S.Source.faults c.infer.new.reader) in
    let sink = change_of (g.K.Sink.held c.args.sink.now) (g.K.Sink.faults c.args.sink.now) (g.K.Sink.held c.write_all.new.sink) (g.K.Sink.faults c.write_all.new.sink) in
    infer_breaks source sink _ c.in_ok-data_type.ensures.ok c.write_all.result c.as_slice.result.now (c.as_slice.ensures.value ∙ c.in_ok-line.ensures.line) c.write_all.ensures.only c.write_all.ensures.prefix c.write_all.ensures.cause
