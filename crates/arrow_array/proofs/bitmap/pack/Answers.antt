use Rattle.std.proofs.Common.{sym, refl, ap, ◌∙◌, arith, false, length}
use Rattle.std.proofs.lemmas.List.FromFn.{fill_by_all}
use Rattle.arrow_array.specs.Bits.{boolean_of}
use Rattle.arrow_array.proofs.Bits.{HasWord, HasBit, word_pushed, word_there, bit_set, bit_unset, packed_more, written}
use Rattle.arrow_array.proofs.bitmap.pack.Goals.{then-i-eq0+in_ok-push, else-i-eq0, then-values-i, else-values-i}
use Rattle.arrow_array.proofs.bitmap.pack.Goals as goal

pub returns-clause-packed : goal.returns-clause-packed
returns-clause-packed c =
    sym (fill_by_all (boolean_of c.loop-i.words.items) c.args.values.now (length c.args.values.now) false refl (λ k h. sym (c.loop-i.invariant.2 k (omega (arith, h, c.loop-i-test.false)))))

pub loop-i-preserved : goal.loop-i-preserved
loop-i-preserved c =
    let ws = c.loop-i.words.items in
    let us = c.if-i-eq0.words.items in
    let vs = c.if-values-i.words.items in
    let xs = c.args.values.now in
    let i = c.loop-i.i in
    let inv = c.loop-i.invariant in
    let word : HasWord ws us i = elim c.if-i-eq0.branch [
      | then-i-eq0+in_ok-push w ↦ word_pushed ws us i inv.0 inv.1 (ap (λ v. v.items) w.words-is ∙ w.in_ok-push.ensures.items) w.if-i-eq0.true
      | else-i-eq0 w ↦ word_there ws us i inv.0 inv.1 (ap (λ v. v.items) w.words-is) w.if-i-eq0.false
    ] in
    let bit : HasBit us vs xs i = elim c.if-values-i.branch [
      | then-values-i v ↦ bit_set us vs xs i v.deref_mut.result.now v.set_bit.new.words (ap (λ v. v.items) v.words-is ∙ written c.if-i-eq0.words.len v.set_bit.new.words us (omega (arith, c.if-i-eq0.words.ok.0)) (v.set_bit.ensures.len ∙ ap length v.deref_mut.ensures.value)) v.deref_mut.ensures.value v.set_bit.ensures.len v.set_bit.ensures.set v.set_bit.ensures.others v.if-values-i.true
      | else-values-i v ↦ bit_unset us vs xs i (ap (λ v. v.items) v.words-is) (word.2 i ∙ inv.3 i (omega arith)) v.if-values-i.false
    ] in
    packed_more ws us vs xs i inv word bit
