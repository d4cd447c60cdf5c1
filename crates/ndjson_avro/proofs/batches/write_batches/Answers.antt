use Rattle.std.proofs.Common.{◌∙◌, refl, arith}
use Rattle.arrow_base.specs.Outside.{last_count}
use Rattle.ndjson_read.proofs.RowLemmas.{handed_on}
use Rattle.ndjson_avro.proofs.Batching.{batch_falls, batch_fits, last_written, more_written, moved_next, none_written}
use Rattle.ndjson_avro.proofs.Nexts.{stops_at}
use Rattle.ndjson_avro.proofs.batches.write_batches.Goals as goal

pub batches-init : goal.batches-init
batches-init g c = record {
  so_far = none_written c.args.encoder.now.row_type c.args.encoder.now.root c.args.marker c.args.wanted _ (g.K.Sink.held c.args.sink.now);
  open_reader = c.requires.open;
  row_type = refl;
  root = refl;
  lines = refl;
  plan = refl;
  never_falls_sink = omega arith;
  same = refl;
  same_sink = refl;
}

pub overflow_add-count : goal.overflow_add-count
overflow_add-count g c =
    let encoder = c.args.encoder.now in
    let now = c.batches.invariant in
    let next = moved_next encoder.row_type c.batches.encoder.row_type encoder.root c.batches.encoder.root c.args.marker c.args.wanted _ _ _ _ c.in_ok-rows.rows now.row_type now.root c.in_ok-rows.ensures.ok in
    omega (arith, batch_fits encoder.row_type encoder.root c.args.marker c.args.wanted _ _ _ _ _ _ c.batches.count c.in_ok-rows.rows c.requires.wanted now.so_far next last_count c.requires.bound)

pub returns-in_err-rows-clause-err : goal.returns-in_err-rows-clause-err
returns-in_err-rows-clause-err g c =
    let encoder = c.args.encoder.now in
    let now = c.batches.invariant in
    handed_on _ _ c.from_residual.result c.from_residual.ensures.1
    (stops_at encoder.row_type c.batches.encoder.row_type encoder.root c.batches.encoder.root c.args.marker c.args.wanted _ _ _ (g.K.Sink.held c.args.sink.now) (g.K.Sink.held c.batches.sink) (g.K.Sink.held c.write_next.new.sink) (g.K.Sink.faults c.args.sink.now) (g.K.Sink.faults c.batches.sink) (g.K.Sink.faults c.write_next.new.sink) c.batches.count _
    now.never_falls_sink now.row_type now.root now.so_far c.in_err-rows.ensures.err)

pub returns-then-rows-wanted-clause-ok : goal.returns-then-rows-wanted-clause-ok
returns-then-rows-wanted-clause-ok g c =
    let encoder = c.args.encoder.now in
    let now = c.batches.invariant in
    let next = moved_next encoder.row_type c.batches.encoder.row_type encoder.root c.batches.encoder.root c.args.marker c.args.wanted _ _ _ _ c.in_ok-rows.rows now.row_type now.root c.in_ok-rows.ensures.ok in
    last_written encoder.row_type encoder.root c.args.marker c.args.wanted _ _ _ _ _ _ c.batches.count c.in_ok-rows.rows c.requires.wanted now.so_far next c.if-rows-wanted.true

pub batches-smaller : goal.batches-smaller
batches-smaller g c =
    let encoder = c.args.encoder.now in
    let now = c.batches.invariant in
    let next = moved_next encoder.row_type c.batches.encoder.row_type encoder.root c.batches.encoder.root c.args.marker c.args.wanted _ _ _ _ c.in_ok-rows.rows now.row_type now.root c.in_ok-rows.ensures.ok in
    batch_falls encoder.row_type encoder.root c.args.marker c.args.wanted _ _ _ _ _ _ c.batches.count c.in_ok-rows.rows c.requires.wanted now.so_far next c.if-rows-wanted.false

pub batches-preserved : goal.batches-preserved
batches-preserved g c =
    let encoder = c.args.encoder.now in
    let now = c.batches.invariant in
    let step = c.in_ok-rows.ensures in
    let next = moved_next encoder.row_type c.batches.encoder.row_type encoder.root c.batches.encoder.root c.args.marker c.args.wanted _ _ _ _ c.in_ok-rows.rows now.row_type now.root step.ok in
    record {
      so_far = more_written encoder.row_type encoder.root c.args.marker c.args.wanted _ _ _ _ _ _ c.batches.count c.in_ok-rows.rows c.requires.wanted now.so_far next c.if-rows-wanted.false;
      open_reader = step.open;
      row_type = step.row_type ∙ now.row_type;
      root = step.root ∙ now.root;
      lines = step.lines ∙ now.lines;
      plan = step.plan ∙ now.plan;
      never_falls_sink = omega (arith, step.never_falls_sink, now.never_falls_sink);
      same = step.same ∙ now.same;
      same_sink = step.same_sink ∙ now.same_sink;
    }
