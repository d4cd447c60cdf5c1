use Rattle.std.proofs.Common.{◌≡◌, inl, inr, None, Err, rules}
use Rattle.std.proofs.KnownBytes.{Keeps-refl}
use Rattle.avro_container.specs.BlockReader.{source_of, marker_of, limit_of}
use Rattle.avro_container.specs.Taking.{state}
use Rattle.avro_container.specs.Changes.{Change, change_of}
use Rattle.avro_canonical.specs.Rewritten.{RewritingFails}
use Rattle.avro_container.proofs.Results.{err_then}
use Rattle.avro_canonical.proofs.Files.{if_rewrites, if_stops}
use Rattle.avro_canonical.proofs.rewrite.avro_rewrite.Goals as goal

pub returns-in_err-metadata-clause-err : goal.returns-in_err-metadata-clause-err
returns-in_err-metadata-clause-err g c =
    let is : c.from_residual.result ≡ Err c.in_err-metadata.field-0.0 = search rules in
    let source : Change = change_of (g.S.Source.left c.args.source.now) (g.S.Source.faults c.args.source.now) (g.S.Source.left c.read_metadata.new.source) (g.S.Source.faults c.read_metadata.new.source) in
    let sink : Change = change_of (g.K.Sink.held c.args.sink.now) (g.K.Sink.faults c.args.sink.now) (g.K.Sink.held c.args.sink.now) (g.K.Sink.faults c.args.sink.now) in
    err_then (RewritingFails c.args.name.now c.args.marker c.args.byte_limit source sink) c.from_residual.result c.in_err-metadata.field-0.0 is (inl (Keeps-refl (g.K.Sink.held c.args.sink.now), inl c.in_err-metadata.ensures.err))

pub returns-in_err-rewriter-clause-err : goal.returns-in_err-rewriter-clause-err
returns-in_err-rewriter-clause-err g c =
    let e = c.in_err-rewriter.field-0.0 in
    let is : c.from_residual-in_err-rewriter.result ≡ Err e = search rules in
    let source : Change = change_of (g.S.Source.left c.args.source.now) (g.S.Source.faults c.args.source.now) (g.S.Source.left c.read_metadata.new.source) (g.S.Source.faults c.read_metadata.new.source) in
    let sink : Change = change_of (g.K.Sink.held c.args.sink.now) (g.K.Sink.faults c.args.sink.now) (g.K.Sink.held c.args.sink.now) (g.K.Sink.faults c.args.sink.now) in
    let metadata = c.in_ok-metadata.metadata in
    err_then (RewritingFails c.args.name.now c.args.marker c.args.byte_limit source sink) c.from_residual-in_err-rewriter.result e is
    (inl (Keeps-refl (g.K.Sink.held c.args.sink.now), inr (record { root = metadata.root; marker = metadata.marker; count = c.in_ok-metadata.taken; reads = c.in_ok-metadata.ensures.ok; why = c.in_err-rewriter.ensures.err })))

pub returns-in_err-write_metadata-clause-err : goal.returns-in_err-write_metadata-clause-err
returns-in_err-write_metadata-clause-err g c =
    let e = c.in_err-write_metadata.field-0.0 in
    let is : c.from_residual-in_err-write_metadata.result ≡ Err e = search rules in
    let source : Change = change_of (g.S.Source.left c.args.source.now) (g.S.Source.faults c.args.source.now) (g.S.Source.left c.read_metadata.new.source) (g.S.Source.faults c.read_metadata.new.source) in
    let sink : Change = change_of (g.K.Sink.held c.args.sink.now) (g.K.Sink.faults c.args.sink.now) (g.K.Sink.held c.write_metadata.new.sink) (g.K.Sink.faults c.write_metadata.new.sink) in
    let metadata = c.in_ok-metadata.metadata in
    let made = c.in_ok-rewriter.ensures.ok in
    err_then (RewritingFails c.args.name.now c.args.marker c.args.byte_limit source sink) c.from_residual-in_err-write_metadata.result e is
    (inr (inl (record {
      root = metadata.root;
      source_marker = metadata.marker;
      count = c.in_ok-metadata.taken;
      reads = c.in_ok-metadata.ensures.ok;
      columns = made.columns;
      target = c.in_ok-rewriter.target;
      has_target = made.has_target;
      fails = c.in_err-write_metadata.ensures.err;
    })))

pub returns-clause-ok : goal.returns-clause-ok
returns-clause-ok g c =
    let at : (source_of c.write_blocks.new.reader).now ≡ c.source-1.given.0 = search rules in
    let source : Change = change_of (g.S.Source.left c.args.source.now) (g.S.Source.faults c.args.source.now) (g.S.Source.left c.source-1.given.0) (g.S.Source.faults c.source-1.given.0) in
    let sink : Change = change_of (g.K.Sink.held c.args.sink.now) (g.K.Sink.faults c.args.sink.now) (g.K.Sink.held c.write_blocks.new.sink) (g.K.Sink.faults c.write_blocks.new.sink) in
    let left = g.S.Source.left c.read_metadata.new.source in
    let faults = g.S.Source.faults c.read_metadata.new.source in
    let metadata = c.in_ok-metadata.metadata in
    let rewriter = c.in_ok-rewriter in
    let header = c.in_ok-write_metadata.ensures in
    let reader = c.new-reader.ensures in
    if_rewrites c.args.name.now c.args.marker c.args.byte_limit (limit_of c.write_blocks.new.reader) source sink metadata.root rewriter.target metadata.marker (marker_of c.new-reader.result) c.in_ok-metadata.taken faults (g.K.Sink.faults c.write_metadata.new.sink) left (g.K.Sink.held c.write_metadata.new.sink) rewriter.rewriter _ _
    c.in_ok-metadata.ensures.never_falls header.never_falls c.in_ok-metadata.ensures.ok rewriter.ensures.ok header.ok reader.marker
    (λ i. state (g.S.Source.left (reader.source i).now) (g.S.Source.faults (reader.source i).now) (reader.limit i) None)
    (λ i. state (g.S.Source.left (at i)) (g.S.Source.faults (at i)) (limit_of c.write_blocks.new.reader) None)
    c.write_blocks.result c.write_blocks.ensures.ok

pub returns-clause-err : goal.returns-clause-err
returns-clause-err g c =
    let at : (source_of c.write_blocks.new.reader).now ≡ c.source-1.given.0 = search rules in
    let source : Change = change_of (g.S.Source.left c.args.source.now) (g.S.Source.faults c.args.source.now) (g.S.Source.left c.source-1.given.0) (g.S.Source.faults c.source-1.given.0) in
    let sink : Change = change_of (g.K.Sink.held c.args.sink.now) (g.K.Sink.faults c.args.sink.now) (g.K.Sink.held c.write_blocks.new.sink) (g.K.Sink.faults c.write_blocks.new.sink) in
    let left = g.S.Source.left c.read_metadata.new.source in
    let faults = g.S.Source.faults c.read_metadata.new.source in
    let metadata = c.in_ok-metadata.metadata in
    let rewriter = c.in_ok-rewriter in
    let header = c.in_ok-write_metadata.ensures in
    let reader = c.new-reader.ensures in
    if_stops c.args.name.now c.args.marker c.args.byte_limit (limit_of c.write_blocks.new.reader) source sink metadata.root rewriter.target metadata.marker (marker_of c.new-reader.result) c.in_ok-metadata.taken faults (g.K.Sink.faults c.write_metadata.new.sink) left (g.K.Sink.held c.write_metadata.new.sink) rewriter.rewriter _ _
    c.in_ok-metadata.ensures.never_falls header.never_falls c.in_ok-metadata.ensures.ok rewriter.ensures.ok header.ok reader.marker
    (λ i. state (g.S.Source.left (reader.source i).now) (g.S.Source.faults (reader.source i).now) (reader.limit i) None)
    (λ i. state (g.S.Source.left (at i)) (g.S.Source.faults (at i)) (limit_of c.write_blocks.new.reader) None)
    c.write_blocks.result c.write_blocks.ensures.err
