use Rattle.std.proofs.Common.{inl, inr, IfOk, IfErr, refl, rules}
use Rattle.ndjson_read.specs.FileReader.{byte_limit_of, lines_of, source_of}
use Rattle.ndjson_read.specs.Reading.{state}
use Rattle.ndjson_read.proofs.RowLemmas.{handed_on}
use Rattle.avro_container.specs.Changes.{Change, change_of}
use Rattle.ndjson_avro.specs.Conversion.{ConversionFails, Converts}
use Rattle.ndjson_avro.proofs.Whole.{ended, if_converts, if_stops}
use Rattle.ndjson_avro.proofs.ndjson.write_file.Goals as goal

pub returns-in_err-write_metadata-clause-err : goal.returns-in_err-write_metadata-clause-err
returns-in_err-write_metadata-clause-err g c fields name made =
    handed_on _ _ c.from_residual-in_err-write_metadata.result c.from_residual-in_err-write_metadata.ensures.1
    (inr (inl (record { source_as_it_was = (refl, refl); target = c.args.target.now; has = made.has; why = c.in_err-write_metadata.ensures.err })))

pub returns-clause-ok : goal.returns-clause-ok
returns-clause-ok g c fields name made =
    let left = g.S.Source.left in
    let faults = g.S.Source.faults in
    let first = c.args.source.now in
    let last = (source_of c.write_batches-answer.new.reader).now in
    let source : Change = change_of (left first) (faults first) (left last) (faults last) in
    let sink : Change = change_of (g.K.Sink.held c.args.sink.now) (g.K.Sink.faults c.args.sink.now) (g.K.Sink.held c.write_batches-answer.new.sink) (g.K.Sink.faults c.write_batches-answer.new.sink) in
    let reader = c.new-reader.ensures in
    ended left faults (λ (z : Change). IfOk c.write_batches-answer.result (Converts fields name c.args.marker c.args.rows_per_block c.args.byte_limit z sink)) first last _ (search rules)
    (if_converts fields name c.args.marker c.args.rows_per_block c.args.byte_limit source sink c.args.target.now (g.K.Sink.held c.write_metadata.new.sink) made.has c.in_ok-write_metadata.ensures.ok
    (byte_limit_of c.write_batches-answer.new.reader) (lines_of c.write_batches-answer.new.reader) c.args.encoder.now.row_type c.args.encoder.now.root made.row_type made.root _ _
    (λ i. state (left (reader.source i).now) (faults (reader.source i).now) (reader.byte_limit i) (reader.lines i)) refl
    c.write_batches-answer.result c.write_batches-answer.ensures.ok)

pub returns-clause-err : goal.returns-clause-err
returns-clause-err g c fields name made =
    let left = g.S.Source.left in
    let faults = g.S.Source.faults in
    let first = c.args.source.now in
    let last = (source_of c.write_batches-answer.new.reader).now in
    let source : Change = change_of (left first) (faults first) (left last) (faults last) in
    let sink : Change = change_of (g.K.Sink.held c.args.sink.now) (g.K.Sink.faults c.args.sink.now) (g.K.Sink.held c.write_batches-answer.new.sink) (g.K.Sink.faults c.write_batches-answer.new.sink) in
    let reader = c.new-reader.ensures in
    ended left faults (λ (z : Change). IfErr c.write_batches-answer.result (ConversionFails fields name c.args.marker c.args.rows_per_block c.args.byte_limit z sink)) first last _ (search rules)
    (if_stops fields name c.args.marker c.args.rows_per_block c.args.byte_limit source sink c.args.target.now (g.K.Sink.held c.write_metadata.new.sink) made.has c.in_ok-write_metadata.ensures.ok
    (byte_limit_of c.write_batches-answer.new.reader) (lines_of c.write_batches-answer.new.reader) c.args.encoder.now.row_type c.args.encoder.now.root made.row_type made.root _ _
    (λ i. state (left (reader.source i).now) (faults (reader.source i).now) (reader.byte_limit i) (reader.lines i)) refl
    (g.K.Sink.faults c.write_metadata.new.sink) c.in_ok-write_metadata.ensures.never_falls c.write_batches-answer.result c.write_batches-answer.ensures.err)
