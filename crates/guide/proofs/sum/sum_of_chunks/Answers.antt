use Rattle.std.proofs.Common.{◌≡◌, ◌∙◌, Err, refl, arith, rules}
use Rattle.std.proofs.lemmas.Int.{ints, to_z-of_z}
use Rattle.avro_read.specs.Reader.{projected_of, marker_of, state_of, IsOpen}
use Rattle.guide.proofs.Spare.{err_then}
use Rattle.guide.proofs.Sums.{sums_none, next_sums, still_open, block_stops, column_stops}
use Rattle.guide.proofs.sum.sum_of_chunks.Goals as goal

pub loop-chunk-init : goal.loop-chunk-init
loop-chunk-init g c = record {
  open_reader = c.requires;
  projected = refl;
  marker = refl;
  so_far = sums_none (projected_of c.args.reader.now) (marker_of c.args.reader.now) (state_of g.S.Source.left g.S.Source.faults c.args.reader.now);
}

pub loop-chunk-preserved : goal.loop-chunk-preserved
loop-chunk-preserved g c =
    let before = c.loop-chunk.invariant in
    record {
      open_reader = still_open (IsOpen c.next.new.self) c.next.result c.in-Some.chunk c.in_ok-chunk.field-0 c.in-Some.is c.in_ok-chunk.was (c.next.ensures.open before.open_reader);
      projected = c.next.ensures.projected ∙ before.projected;
      marker = c.next.ensures.marker ∙ before.marker;
      so_far =
          next_sums (projected_of c.args.reader.now) (projected_of c.loop-chunk.reader) (marker_of c.args.reader.now) (marker_of c.loop-chunk.reader)
          (state_of g.S.Source.left g.S.Source.faults c.args.reader.now) (state_of g.S.Source.left g.S.Source.faults c.loop-chunk.reader) (state_of g.S.Source.left g.S.Source.faults c.next.new.self)
          _ _ _ _ c.next.result c.in-Some.chunk c.in_ok-chunk.field-0 before.projected before.marker c.in-Some.is c.in_ok-chunk.was before.so_far (c.next.ensures.next before.open_reader) c.in_ok-sum.ensures.ok
          (grind (arith, ints, to_z-of_z)) (grind (arith, ints, to_z-of_z));
    }

pub returns-in_err-chunk-clause-err : goal.returns-in_err-chunk-clause-err
returns-in_err-chunk-clause-err g c =
    let before = c.loop-chunk.invariant in
    let is : c.from_residual.result ≡ Err c.in_err-chunk.field-0.0 = search rules in
    err_then _ c.from_residual.result c.in_err-chunk.field-0.0 is
    (block_stops (projected_of c.args.reader.now) (projected_of c.loop-chunk.reader) (marker_of c.args.reader.now) (marker_of c.loop-chunk.reader)
    (state_of g.S.Source.left g.S.Source.faults c.args.reader.now) (state_of g.S.Source.left g.S.Source.faults c.loop-chunk.reader) (state_of g.S.Source.left g.S.Source.faults c.next.new.self)
    _ c.next.result c.in-Some.chunk c.in_err-chunk.field-0.0 before.projected before.marker c.in-Some.is c.in_err-chunk.was before.so_far (c.next.ensures.next before.open_reader))

pub returns-in_err-sum-clause-err : goal.returns-in_err-sum-clause-err
returns-in_err-sum-clause-err g c =
    let before = c.loop-chunk.invariant in
    let is : c.from_residual-in_err-sum.result ≡ Err c.in_err-sum.field-0.0 = search rules in
    err_then _ c.from_residual-in_err-sum.result c.in_err-sum.field-0.0 is
    (column_stops (projected_of c.args.reader.now) (projected_of c.loop-chunk.reader) (marker_of c.args.reader.now) (marker_of c.loop-chunk.reader)
    (state_of g.S.Source.left g.S.Source.faults c.args.reader.now) (state_of g.S.Source.left g.S.Source.faults c.loop-chunk.reader) (state_of g.S.Source.left g.S.Source.faults c.next.new.self)
    _ _ c.next.result c.in-Some.chunk c.in_ok-chunk.field-0 _ before.projected before.marker c.in-Some.is c.in_ok-chunk.was before.so_far (c.next.ensures.next before.open_reader)
    (grind (arith, ints, to_z-of_z)) c.in_err-sum.ensures.err)
