use Rattle.std.proofs.Common.{◌≡◌, ◌∙◌, ℕ, ◌<◌, ◌≤◌, true, List, refl, ap, subst, rules, arith}
use Rattle.std.specs.Prelude.{not}
use Rattle.avro_container.specs.BlockReader.{marker_of, limit_of, state_of, Next}
use Rattle.avro_container.specs.File.{the_block}
use Rattle.avro_container.specs.FileForms.{marked_block}
use Rattle.avro_container.specs.Taking.{State, Passed}
use Rattle.avro_inspect.proofs.Steps.{none_so_far, one_more_block}
use Rattle.avro_inspect.proofs.count.count_blocks.Goals as goal

pub loop-block-init : goal.loop-block-init
loop-block-init g c = record {
  open_reader = c.requires.open;
  marker = refl;
  so_far = none_so_far (marker_of c.args.reader.now) (state_of g.S.Source.left g.S.Source.faults c.args.reader.now);
  few = omega arith;
  few_rows = omega arith;
  never_falls = omega arith;
  same = refl;
}

pub loop-block-preserved : goal.loop-block-preserved
loop-block-preserved g c =
    let before = c.loop-block.invariant in
    let step = c.in_ok-next.ensures in
    let first : State = state_of g.S.Source.left g.S.Source.faults c.args.reader.now in
    let old : State = state_of g.S.Source.left g.S.Source.faults c.loop-block.reader in
    let new : State = state_of g.S.Source.left g.S.Source.faults c.next.new.self in
    let rows : ℕ = c.next.new.block.number_of_rows in
    let bytes : List ℕ = c.next.new.block.bytes in
    let more : c.in_ok-next.field-0 ≡ true = search rules in
    let passed : Passed marked_block old new (the_block rows bytes, marker_of c.loop-block.reader) = subst (Next (marker_of c.loop-block.reader) old new rows bytes) more (step.ok before.open_reader) in
    let now = step.now before.open_reader in
    let fewer : limit_of c.next.new.self < limit_of c.loop-block.reader = step.fewer more in
    let fits : rows ≤ 18446744073709551615 = search rules in
    record {
      open_reader = (now.0 ∙ ap not more, now.1);
      marker = step.marker ∙ before.marker;
      so_far = one_more_block (marker_of c.args.reader.now) (marker_of c.loop-block.reader) first old new c.loop-block.rows c.loop-block.blocks rows bytes before.marker before.so_far passed;
      few = omega (arith, fewer, before.few);
      few_rows = omega (arith, fits, before.few_rows);
      never_falls = omega (arith, step.never_falls, before.never_falls);
      same = step.same ∙ before.same;
    }
