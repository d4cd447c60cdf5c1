use Rattle.std.proofs.Common.{◌≡◌, inl, None, Err, rules}
use Rattle.std.proofs.KnownBytes.{Keeps-refl}
use Rattle.std.specs.Option.{option_copied}
use Rattle.avro_container.specs.BlockReader.{source_of, marker_of, limit_of}
use Rattle.avro_container.specs.Taking.{state}
use Rattle.avro_container.specs.Changes.{Change, change_of}
use Rattle.avro_ndjson.specs.Refusals.{ConversionFails}
use Rattle.avro_container.proofs.Results.{err_then}
use Rattle.avro_ndjson.proofs.Steps.{if_converts, if_stops}
use Rattle.avro_ndjson.proofs.ndjson.avro_to_ndjson.Goals as goal

pub returns-in_err-metadata-clause-err : goal.returns-in_err-metadata-clause-err
returns-in_err-metadata-clause-err g c =
    let is : c.from_residual.result ≡ Err c.in_err-metadata.field-0.0 = search rules in
    let source : Change = change_of (g.S.Source.left c.args.source.now) (g.S.Source.faults c.args.source.now) (g.S.Source.left c.read_metadata.new.source) (g.S.Source.faults c.read_metadata.new.source) in
    let sink : Change = change_of (g.K.Sink.held c.args.sink.now) (g.K.Sink.faults c.args.sink.now) (g.K.Sink.held c.args.sink.now) (g.K.Sink.faults c.args.sink.now) in
    err_then (ConversionFails (option_copied c.args.keep) c.args.byte_limit source sink) c.from_residual.result c.in_err-metadata.field-0.0 is (inl (Keeps-refl (g.K.Sink.held c.args.sink.now), inl c.in_err-metadata.ensures.err))

pub returns-clause-ok : goal.returns-clause-ok
returns-clause-ok g c =
    let at : (source_of c.write_blocks.new.reader).now ≡ c.source-1.given.0 = search rules in
    let source : Change = change_of (g.S.Source.left c.args.source.now) (g.S.Source.faults c.args.source.now) (g.S.Source.left c.source-1.given.0) (g.S.Source.faults c.source-1.given.0) in
    let sink : Change = change_of (g.K.Sink.held c.args.sink.now) (g.K.Sink.faults c.args.sink.now) (g.K.Sink.held c.write_blocks.new.sink) (g.K.Sink.faults c.write_blocks.new.sink) in
    let left = g.S.Source.left c.read_metadata.new.source in
    let faults = g.S.Source.faults c.read_metadata.new.source in
    let metadata = c.in_ok-metadata.metadata in
    let decoder = c.in_ok-encoder.encoder.decoder in
    let reader = c.new-reader.ensures in
    if_converts (option_copied c.args.keep) c.args.byte_limit (limit_of c.write_blocks.new.reader) source sink metadata.root metadata.marker (marker_of c.new-reader.result) c.in_ok-metadata.taken faults left decoder.fields decoder _ _
    c.in_ok-metadata.ensures.never_falls c.in_ok-metadata.ensures.ok c.in_ok-encoder.ensures.shown c.in_ok-encoder.ensures.decoder reader.marker
    (λ i. state (g.S.Source.left (reader.source i).now) (g.S.Source.faults (reader.source i).now) (reader.limit i) None)
    (λ i. state (g.S.Source.left (at i)) (g.S.Source.faults (at i)) (limit_of c.write_blocks.new.reader) None)
    c.write_blocks.result c.write_blocks.ensures.ok

pub returns-clause-err : goal.returns-clause-err
returns-clause-err g c =
    let at : (source_of c.write_blocks.new.reader).now ≡ c.source-1.given.0 = search rules in
    let source : Change = change_of (g.S.Source.left c.args.source.now) (g.S.Source.faults c.args.source.now) (g.S.Source.left c.source-1.given.0) (g.S.Source.faults c.source-1.given.0) in
    let sink : Change = change_of (g.K.Sink.held c.args.sink.now) (g.K.Sink.faults c.args.sink.now) (g.K.Sink.held c.write_blocks.new.sink) (g.K.Sink.faults c.write_blocks.new.sink) in
    let left = g.S.Source.left c.read_metadata.new.source in
    let faults = g.S.Source.faults c.read_metadata.new.source in
    let metadata = c.in_ok-metadata.metadata in
    let decoder = c.in_ok-encoder.encoder.decoder in
    let reader = c.new-reader.ensures in
    if_stops (option_copied c.args.keep) c.args.byte_limit (limit_of c.write_blocks.new.reader) source sink metadata.root metadata.marker (marker_of c.new-reader.result) c.in_ok-metadata.taken faults left decoder.fields decoder _ _
    c.in_ok-metadata.ensures.never_falls c.in_ok-metadata.ensures.ok c.in_ok-encoder.ensures.shown c.in_ok-encoder.ensures.decoder reader.marker
    (λ i. state (g.S.Source.left (reader.source i).now) (g.S.Source.faults (reader.source i).now) (reader.limit i) None)
    (λ i. state (g.S.Source.left (at i)) (g.S.Source.faults (at i)) (limit_of c.write_blocks.new.reader) None)
    c.write_blocks.result c.write_blocks.ensures.err
