use Rattle.std.proofs.Common.{◌≡◌, ◌<◌, length, refl, arith}
use Rattle.ndjson_read.proofs.RowLemmas.{handed_on}
use Rattle.avro_container.specs.File.{the_block}
use Rattle.ndjson_avro.proofs.Nexts.{block_count, breaks_off, none_written_next, written_next}
use Rattle.ndjson_avro.proofs.Reasons.{no_batch, not_written}
use Rattle.ndjson_avro.proofs.batches.write_next.Goals as goal

pub returns-in_err-read_batch-clause-err : goal.returns-in_err-read_batch-clause-err
returns-in_err-read_batch-clause-err g c =
    let encoder = c.args.encoder.now in
    handed_on _ _ c.from_residual.result c.from_residual.ensures.1
    (no_batch encoder.row_type encoder.root c.args.marker c.args.wanted _ _ (g.K.Sink.held c.args.sink.now) (g.K.Sink.faults c.args.sink.now) _ c.in_err-read_batch.ensures.err)

pub returns-then-count-eq0-clause-ok : goal.returns-then-count-eq0-clause-ok
returns-then-count-eq0-clause-ok g c =
    let encoder = c.args.encoder.now in
    let given = c.as_slice-texts.result.now in
    let none : length given ≡ 0 = omega (arith, c.if-count-eq0.true) in
    none_written_next encoder.row_type encoder.root c.args.marker c.args.wanted _ _ (g.K.Sink.held c.args.sink.now) c.read_batch.new.batch.rows.items given c.as_slice-texts.ensures.value none c.in_ok-read_batch.ensures.ok

pub returns-in_err-fill_block-clause-err : goal.returns-in_err-fill_block-clause-err
returns-in_err-fill_block-clause-err g c =
    let encoder = c.args.encoder.now in
    handed_on _ _ c.from_residual-in_err-fill_block.result c.from_residual-in_err-fill_block.ensures.1
    (not_written encoder.row_type encoder.root c.args.marker c.args.wanted _ _ (g.K.Sink.held c.args.sink.now) (g.K.Sink.faults c.args.sink.now) c.read_batch.new.batch.rows.items c.as_slice-texts.result.now _
    c.as_slice-texts.ensures.value c.in_ok-read_batch.ensures.ok c.in_err-fill_block.ensures.err)

pub write_block-requires-clause-count : goal.write_block-requires-clause-count
write_block-requires-clause-count g c =
    let block = c.fill_block.new.self.block in
    omega (arith, block_count c.args.encoder.now.row_type c.args.encoder.now.root c.as_slice-texts.result.now block.number_of_rows block.bytes c.in_ok-fill_block.ensures.ok, c.tell_count.ensures)

pub returns-in_err-write_block-clause-err : goal.returns-in_err-write_block-clause-err
returns-in_err-write_block-clause-err g c =
    let encoder = c.args.encoder.now in
    let block = c.fill_block.new.self.block in
    let error = c.in_err-write_block.ensures in
    handed_on _ _ c.from_residual-in_err-write_block.result c.from_residual-in_err-write_block.ensures.1
    (breaks_off encoder.row_type encoder.root c.args.marker c.args.wanted _ _ (g.K.Sink.held c.args.sink.now) (g.K.Sink.held c.write_block.new.sink) (g.K.Sink.faults c.args.sink.now) (g.K.Sink.faults c.write_block.new.sink)
    c.read_batch.new.batch.rows.items c.as_slice-texts.result.now (the_block block.number_of_rows block.bytes) _
    c.as_slice-texts.ensures.value (omega (arith, c.if-count-eq0.false)) c.in_ok-read_batch.ensures.ok c.in_ok-fill_block.ensures.ok error.only error.prefix error.cause)

pub returns-clause-ok : goal.returns-clause-ok
returns-clause-ok g c =
    let encoder = c.args.encoder.now in
    let block = c.fill_block.new.self.block in
    let given = c.as_slice-texts.result.now in
    let some : 0 < length given = omega (arith, c.if-count-eq0.false) in
    written_next encoder.row_type encoder.root c.args.marker c.args.wanted _ _ (g.K.Sink.held c.args.sink.now) (g.K.Sink.held c.write_block.new.sink) c.read_batch.new.batch.rows.items given (the_block block.number_of_rows block.bytes) (length given)
    c.as_slice-texts.ensures.value refl some c.in_ok-read_batch.ensures.ok c.in_ok-fill_block.ensures.ok c.in_ok-write_block.ensures.ok
