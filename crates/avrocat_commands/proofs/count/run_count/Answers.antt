-- What was counted is what was written.
use Rattle.std.proofs.Common.{◌∙◌}
use Rattle.std.proofs.lemmas.Result.{err_from_is_err_and}
use Rattle.avro_container.specs.Changes.{Change, change_of}
use Rattle.avrocat_commands.proofs.CountEndings.{not_counted, no_memory_for_lines, lines_written, lines_broken}
use Rattle.avrocat_commands.proofs.count.run_count.Goals as goal

pub returns-in_err-counts-clause-fails : goal.returns-in_err-counts-clause-fails
returns-in_err-counts-clause-fails g c =
    let source : Change = change_of (g.S.Source.left c.args.source.now) (g.S.Source.faults c.args.source.now) (g.S.Source.left c.count_rows.new.source) (g.S.Source.faults c.count_rows.new.source) in
    let p = err_from_is_err_and c.from_residual.result c.from_residual.ensures.1 in
    rw (p.1, p.2) (not_counted source (g.K.Sink.held c.args.sink.now) (g.K.Sink.faults c.args.sink.now) _ c.in_err-counts.ensures.err)

pub returns-in_err-text-clause-fails : goal.returns-in_err-text-clause-fails
returns-in_err-text-clause-fails g c =
    let source : Change = change_of (g.S.Source.left c.args.source.now) (g.S.Source.faults c.args.source.now) (g.S.Source.left c.count_rows.new.source) (g.S.Source.faults c.count_rows.new.source) in
    let r = c.from_residual-in_err-text in
    let p = err_from_is_err_and r.result r.ensures.1 in
    rw (p.1, p.2) (no_memory_for_lines source c.in_ok-counts.counts c.in_ok-counts.ensures.ok (g.K.Sink.held c.args.sink.now) (g.K.Sink.faults c.args.sink.now) _ c.in_err-text.ensures.memory)

pub returns-clause-done : goal.returns-clause-done
returns-clause-done g c =
    let source : Change = change_of (g.S.Source.left c.args.source.now) (g.S.Source.faults c.args.source.now) (g.S.Source.left c.count_rows.new.source) (g.S.Source.faults c.count_rows.new.source) in
    let sink : Change = change_of (g.K.Sink.held c.args.sink.now) (g.K.Sink.faults c.args.sink.now) (g.K.Sink.held c.write_all.new.sink) (g.K.Sink.faults c.write_all.new.sink) in
    lines_written source c.in_ok-counts.counts c.in_ok-counts.ensures.ok sink c.write_all.result c.as_slice.result.now (c.as_slice.ensures.value ∙ c.in_ok-text.ensures.lines) c.write_all.ensures.ok

pub returns-clause-fails : goal.returns-clause-fails
returns-clause-fails g c =
    let source : Change = change_of (g.S.Source.left c.args.source.now) (g.S.Source.faults c.args.source.now) (g.S.Source.left c.count_rows.new.source) (g.S.Source.faults c.count_rows.new.source) in
    let sink : Change = change_of (g.K.Sink.held c.args.sink.now) (g.K.Sink.faults c.args.sink.now) (g.K.Sink.held c.write_all.new.sink) (g.K.Sink.faults c.write_all.new.sink) in
    lines_broken source c.in_ok-counts.counts c.in_ok-counts.ensures.ok sink c.write_all.result c.as_slice.result.now (c.as_slice.ensures.value ∙ c.in_ok-text.ensures.lines) c.write_all.ensures.only c.write_all.ensures.prefix c.write_all.ensures.cause
