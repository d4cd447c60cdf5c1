use Rattle.std.proofs.Common.{◌∙◌, ℕ, ◌-◌, length, ap, arith}
use Rattle.std.proofs.lemmas.Int.{ints, to_z-of_z}
use Rattle.std.specs.Option.{option_map}
use Rattle.ndjson_read.specs.FileReader.{batch_of, limit_of, shown_of, state_of, wanted_of}
use Rattle.guide.proofs.Batches.{limit_falls, nothing_summed, one_batch, sum_of_rows, wants_some}
use Rattle.guide.proofs.lines.sum_of_lines.Goals as goal

pub loop-lines-init : goal.loop-lines-init
loop-lines-init g c = record {
  open_reader = c.new-lines.ensures.not_failed;
  batch = c.new-lines.ensures.batch ∙ c.in_ok-texts.ensures;
  unlimited = c.new-lines.ensures.limit;
  so_far = λ bytes told. nothing_summed c.in_ok-row_type.row_type c.in_ok-place.place bytes _ (ap g.S.Source.left c.new-lines.ensures.source ∙ told);
}

pub loop-lines-smaller : goal.loop-lines-smaller
loop-lines-smaller g c =
    limit_falls (wanted_of c.loop-lines.lines) (state_of g.S.Source.left g.S.Source.faults c.loop-lines.lines) (state_of g.S.Source.left g.S.Source.faults c.advance.new.self) (shown_of c.advance.new.self)
    (c.in_ok-advance.ensures.ok c.loop-lines.invariant.open_reader) c.in-Some.ensures.1

pub loop-lines-preserved : goal.loop-lines-preserved
loop-lines-preserved g c =
    let before = c.loop-lines.invariant in
    record {
      open_reader = c.in_ok-advance.ensures.now before.open_reader;
      batch = c.in_ok-advance.ensures.batch ∙ before.batch;
      unlimited = c.in_ok-advance.ensures.limit ∙ ap (option_map (λ (limit : ℕ). limit - length (shown_of c.advance.new.self))) before.unlimited;
      so_far = λ bytes told.
          one_batch c.in_ok-row_type.row_type c.in_ok-place.place bytes (wanted_of c.loop-lines.lines)
          (state_of g.S.Source.left g.S.Source.faults c.loop-lines.lines) (state_of g.S.Source.left g.S.Source.faults c.advance.new.self) (shown_of c.advance.new.self)
          _ (before.so_far bytes told) (c.in_ok-advance.ensures.ok before.open_reader)
          c.in-Some.rows.now c.in_ok-try_clone.field-0 c.in_ok-column.column _ _ _
          c.in-Some.ensures.0 c.in_ok-try_clone.ensures.copy c.in_ok-column.ensures.column c.in_ok-sum.ensures.ok
          (grind (arith, ints, to_z-of_z)) (grind (arith, ints, to_z-of_z));
    }

pub returns-in_default : goal.returns-in_default
returns-in_default g c =
    let before = c.loop-lines.invariant in
    record {
      sum = λ bytes told.
          sum_of_rows c.in_ok-row_type.row_type c.in_ok-place.place bytes (wanted_of c.loop-lines.lines)
          (state_of g.S.Source.left g.S.Source.faults c.loop-lines.lines) (state_of g.S.Source.left g.S.Source.faults c.advance.new.self) (shown_of c.advance.new.self)
          _ (before.so_far bytes told) (c.in_ok-advance.ensures.ok before.open_reader)
          _ _ c.args.key.now _ c.in_ok-row_type.ensures.ok c.in_ok-place.ensures c.in_default.ensures
          (wants_some (limit_of c.loop-lines.lines) (batch_of c.loop-lines.lines) before.unlimited before.batch) (grind (arith, ints, to_z-of_z));
    }
