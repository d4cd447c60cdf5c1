use Rattle.std.proofs.Common.{◌≡◌, None, rules}
use Rattle.avro_container.specs.BlockReader.{source_of, marker_of, limit_of}
use Rattle.avro_container.specs.Taking.{state}
use Rattle.avro_container.specs.Changes.{Change, change_of}
use Rattle.avro_inspect.proofs.Steps.{if_counts}
use Rattle.avro_inspect.proofs.count.count_rows.Goals as goal

pub returns-clause-ok : goal.returns-clause-ok
returns-clause-ok g c =
    let at : (source_of c.count_blocks.new.reader).now ≡ c.source-1.given.0 = search rules in
    let source : Change = change_of (g.S.Source.left c.args.source.now) (g.S.Source.faults c.args.source.now) (g.S.Source.left c.source-1.given.0) (g.S.Source.faults c.source-1.given.0) in
    let left = g.S.Source.left c.read_metadata.new.source in
    let faults = g.S.Source.faults c.read_metadata.new.source in
    let metadata = c.in_ok-metadata.metadata in
    let reader = c.new-reader.ensures in
    if_counts c.args.byte_limit (limit_of c.count_blocks.new.reader) source metadata.root metadata.marker (marker_of c.new-reader.result) c.in_ok-metadata.taken faults left _ _
    c.in_ok-metadata.ensures.never_falls c.in_ok-metadata.ensures.ok reader.marker
    (λ i. state (g.S.Source.left (reader.source i).now) (g.S.Source.faults (reader.source i).now) (reader.limit i) None)
    (λ i. state (g.S.Source.left (at i)) (g.S.Source.faults (at i)) (limit_of c.count_blocks.new.reader) None)
    c.count_blocks.result c.count_blocks.ensures.ok
