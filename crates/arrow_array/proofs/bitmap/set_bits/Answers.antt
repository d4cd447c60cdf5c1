use Rattle.std.proofs.Common.{◌≤◌, ◌+◌, ◌/◌, ◌%◌, ◌==◌, slice_index_or, arith}
use Rattle.std.specs.Int.{bit_at}
use Rattle.arrow_array.proofs.Counts.{word_more, at_most}
use Rattle.arrow_array.proofs.bitmap.set_bits.Goals as goal

pub overflow_add-set : goal.overflow_add-set
overflow_add-set c =
    let fewer : c.set_in_word-set.result ≤ c.min-n.result = at_most (λ k. bit_at (slice_index_or c.args.words.now ((c.args.start + c.loop-done.done) / 64) 0) k == 1) ((c.args.start + c.loop-done.done) % 64) c.min-n.result c.set_in_word-set.result c.set_in_word-set.ensures in
    omega (arith, fewer, c.min-n.ensures, c.loop-done.invariant.fewer)

pub loop-done-preserved : goal.loop-done-preserved
loop-done-preserved c =
    let fewer : c.set_in_word-set.result ≤ c.min-n.result = at_most (λ k. bit_at (slice_index_or c.args.words.now ((c.args.start + c.loop-done.done) / 64) 0) k == 1) ((c.args.start + c.loop-done.done) % 64) c.min-n.result c.set_in_word-set.result c.set_in_word-set.ensures in
    record {
      within = omega (arith, c.min-n.ensures);
      fewer = omega (arith, fewer, c.loop-done.invariant.fewer);
      counted = word_more c.args.words.now c.args.start c.loop-done.done c.min-n.result _ _ (omega (arith, c.min-n.ensures)) c.loop-done.invariant.counted c.set_in_word-set.ensures;
    }
