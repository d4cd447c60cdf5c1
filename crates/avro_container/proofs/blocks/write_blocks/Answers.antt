use Rattle.std.proofs.Common.{◌∙◌, ◌+◌, ◌≤◌, ℕ, refl, arith}
use Rattle.avro_container.specs.BlockReader.{marker_of, limit_of, IsOpen, state_of}
use Rattle.avro_container.proofs.Results.{some_then}
use Rattle.avro_container.proofs.Steps.{writes_none, next_written}
use Rattle.avro_container.proofs.blocks.write_blocks.Goals as goal

pub loop-buffers-init : goal.loop-buffers-init
loop-buffers-init g c = record {
  open_reader = c.requires.open;
  encoder = refl;
  marker = refl;
  so_far = writes_none (g.E.EncodesBlocks.shows c.args.encoder.now) (marker_of c.args.reader.now) (state_of g.S.Source.left g.S.Source.faults c.args.reader.now) (g.K.Sink.held c.args.sink.now);
  few = omega arith;
  never_falls = omega arith;
  never_falls_sink = omega arith;
  same = refl;
  same_sink = refl;
}

pub overflow_add-count : goal.overflow_add-count
overflow_add-count g c =
    let few : c.in-Some.rows + limit_of c.write_next.new.reader ≤ limit_of c.loop-buffers.reader =
    some_then (λ (rows : ℕ). rows + limit_of c.write_next.new.reader ≤ limit_of c.loop-buffers.reader) c.in_ok-rows.field-0 c.in-Some.rows c.in-Some.is c.in_ok-rows.ensures.few in
    omega (arith, few, c.loop-buffers.invariant.few, c.requires.bound)

pub loop-buffers-preserved : goal.loop-buffers-preserved
loop-buffers-preserved g c =
    let before = c.loop-buffers.invariant in
    let step = c.in_ok-rows.ensures in
    let few : c.in-Some.rows + limit_of c.write_next.new.reader ≤ limit_of c.loop-buffers.reader =
    some_then (λ (rows : ℕ). rows + limit_of c.write_next.new.reader ≤ limit_of c.loop-buffers.reader) c.in_ok-rows.field-0 c.in-Some.rows c.in-Some.is step.few in
    record {
      open_reader = some_then (λ (rows : ℕ). IsOpen c.write_next.new.reader) c.in_ok-rows.field-0 c.in-Some.rows c.in-Some.is step.open;
      encoder = step.encoder ∙ before.encoder;
      marker = step.marker ∙ before.marker;
      so_far =
          next_written g.E.EncodesBlocks.shows c.args.encoder.now c.loop-buffers.encoder (marker_of c.args.reader.now) (marker_of c.loop-buffers.reader)
          (state_of g.S.Source.left g.S.Source.faults c.args.reader.now) (state_of g.S.Source.left g.S.Source.faults c.loop-buffers.reader) (state_of g.S.Source.left g.S.Source.faults c.write_next.new.reader)
          (g.K.Sink.held c.args.sink.now) (g.K.Sink.held c.loop-buffers.sink) (g.K.Sink.held c.write_next.new.sink) c.loop-buffers.count c.in-Some.rows c.in_ok-rows.field-0
          before.encoder before.marker c.in-Some.is before.so_far step.ok;
      few = omega (arith, few, before.few);
      never_falls = omega (arith, step.never_falls, before.never_falls);
      never_falls_sink = omega (arith, step.never_falls_sink, before.never_falls_sink);
      same = step.same ∙ before.same;
      same_sink = step.same_sink ∙ before.same_sink;
    }
