-- What was made is what was written.
use Rattle.std.proofs.Common.{◌∙◌}
use Rattle.std.proofs.lemmas.Result.{err_from_is_err_and}
use Rattle.avro_container.specs.Changes.{change_of}
use Rattle.avrocat_commands.proofs.MakeEndings.{make_breaks, make_without_memory, make_writes}
use Rattle.avrocat_commands.proofs.make.run_make.Goals as goal

pub returns-in_err-lines-clause-fails : goal.returns-in_err-lines-clause-fails
returns-in_err-lines-clause-fails g c =
    let p = err_from_is_err_and c.from_residual.result c.from_residual.ensures.1 in
    rw (p.1, p.2) (make_without_memory c.args.words (g.K.Sink.held c.args.sink.now) (g.K.Sink.faults c.args.sink.now) _ c.in_err-lines.ensures.memory)

pub returns-clause-done : goal.returns-clause-done
returns-clause-done g c =
    let sink = change_of (g.K.Sink.held c.args.sink.now) (g.K.Sink.faults c.args.sink.now) (g.K.Sink.held c.write_all.new.sink) (g.K.Sink.faults c.write_all.new.sink) in
    make_writes c.args.words sink c.write_all.result c.as_slice.result.now (c.as_slice.ensures.value ∙ c.in_ok-lines.ensures.lines) c.write_all.ensures.ok

pub returns-clause-fails : goal.returns-clause-fails
returns-clause-fails g c =
    let sink = change_of (g.K.Sink.held c.args.sink.now) (g.K.Sink.faults c.args.sink.now) (g.K.Sink.held c.write_all.new.sink) (g.K.Sink.faults c.write_all.new.sink) in
    make_breaks c.args.words sink c.write_all.result c.as_slice.result.now (c.as_slice.ensures.value ∙ c.in_ok-lines.ensures.lines) c.write_all.ensures.only c.write_all.ensures.prefix c.write_all.ensures.cause
