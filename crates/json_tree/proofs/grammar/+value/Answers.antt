use Rattle.std.proofs.Common.{◌<◌, true, drop, ◌≡◌, ◌∙◌, sym, ap, subst, suc, ◌-◌, ◌∷◌, ◌≤◌, [], length, set, arith}
use Rattle.std.proofs.lemmas.Result.{err_from_is_err_and}
use Rattle.json_tree.specs.Tree.{array, object}
use Rattle.json_tree.specs.Reading.{found, string_at, value_at}
use Rattle.json_tree.specs.Gives.{Gives, Fails}
use Rattle.json_tree.specs.Keys.{keys_of}
use Rattle.json_tree.specs.Layout.{distinct, key_index, Indexed}
use Rattle.json_tree.proofs.KeyIndices.{keys-set, put-fill}
use Rattle.json_tree.proofs.Turns.{array-empty, array-start, array-bad, array-next, array-end, object-empty, object-start, key-err, colon-err, item-err, member-ok, object-err, object-bad, object-next, object-end, value-array, next-known, pushed-set}
use Rattle.json_tree.specs.declared.value.JsonFault.TheVariants.{Text}
use Rattle.json_tree.proofs.grammar.+value.Goals as goal

pub array-returns-then-closes-clause-reads : goal.array-returns-then-closes-clause-reads
array-returns-then-closes-clause-reads t c =
    let f = c.if-closes.ensures in
    array-empty c.args.depth c.args.reader.now c.closes.new.reader f.found ∙ ap (λ l. found (array l) c.closes.new.reader) (sym (c.from_vec.ensures ∙ c.new.ensures.items))
    ∙ ap (λ v. found v c.closes.new.reader) (sym c.fill.ensures)

pub array-loop-items-init : goal.array-loop-items-init
array-loop-items-init t c =
    let f = c.if-closes.ensures in
    let s = array-start c.args.depth c.args.reader.now c.closes.new.reader f.found.0 f.found.1 in
    record { forward = f.forward; reads = (s.0, s.1, rw c.in_ok-items.ensures s.2) }

pub array-returns-in_err-goes_on-clause-reads : goal.array-returns-in_err-goes_on-clause-reads
array-returns-in_err-goes_on-clause-reads t c =
    let p = err_from_is_err_and c.from_residual-in_err-goes_on.result c.from_residual-in_err-goes_on.ensures.1 in
    let i = c.loop-items.invariant.reads in
    let f = c.in_err-goes_on.ensures.found in
    rw (p.1, p.2, f.0) (array-bad c.args.depth i.0 c.loop-items.items.items c.value.new.out c.loop-items.reader c.args.reader.now c.value.new.reader i.2 (ap (value_at c.args.depth) (sym c.skip_spaces.ensures.skipped) ∙ c.in_ok-value.ensures.reads) f.1)

pub array-returns-then-not-branch-clause-reads : goal.array-returns-then-not-branch-clause-reads
array-returns-then-not-branch-clause-reads t c =
    let i = c.loop-items.invariant.reads in
    let f = rw c.if-not-branch.true at c.in_ok-goes_on.ensures.found in
    let h = c.in_ok-value.ensures.forward in
    let k = c.skip_spaces.ensures.forward in
    array-end c.args.depth i.0 c.loop-items.items.items (set c.push_blank.new.items.items (c.len-last.result - 1) c.value.new.out) c.value.new.out c.loop-items.reader c.args.reader.now c.value.new.reader c.goes_on.new.reader i.2 (omega (arith, h, k, i.1))
    (ap (value_at c.args.depth) (sym c.skip_spaces.ensures.skipped) ∙ c.in_ok-value.ensures.reads) f.0 (pushed-set c.loop-items.items.items c.push_blank.new.items.items c.in_ok-push_blank.ensures.pushed.0 c.value.new.out c.len-last.result c.in_ok-push_blank.ensures.pushed.1 (omega (arith, c.len-last.ensures, c.push_blank.new.items.ok.0))) ∙ ap (λ l. found (array l) c.goes_on.new.reader) (sym c.from_vec-then-not-branch.ensures)
    ∙ ap (λ v. found v c.goes_on.new.reader) (sym c.fill-then-not-branch.ensures)

pub array-loop-items-preserved : goal.array-loop-items-preserved
array-loop-items-preserved t c =
    let i = c.loop-items.invariant.reads in
    let f = rw c.if-not-branch.false at c.in_ok-goes_on.ensures.found in
    let h = c.in_ok-value.ensures.forward in
    let k = c.skip_spaces.ensures.forward in
    let g = c.in_ok-goes_on.ensures.forward in
    record {
      forward = omega (arith, g, h, k, c.loop-items.invariant.forward);
      reads = array-next c.args.depth i.0 c.loop-items.items.items (set c.push_blank.new.items.items (c.len-last.result - 1) c.value.new.out) c.value.new.out c.loop-items.reader c.args.reader.now c.value.new.reader c.goes_on.new.reader i.2 (omega (arith, h, k, i.1))
          (ap (value_at c.args.depth) (sym c.skip_spaces.ensures.skipped) ∙ c.in_ok-value.ensures.reads) f (pushed-set c.loop-items.items.items c.push_blank.new.items.items c.in_ok-push_blank.ensures.pushed.0 c.value.new.out c.len-last.result c.in_ok-push_blank.ensures.pushed.1 (omega (arith, c.len-last.ensures, c.push_blank.new.items.ok.0)));
    }

pub value-returns-then-byte-eq91-clause-reads : goal.value-returns-then-byte-eq91-clause-reads
value-returns-then-byte-eq91-clause-reads t c =
    let s = c.in-Some.ensures in
    let first = next-known c.next.result c.args.reader.now c.next.new.self s.0 91 (s.1 ∙ ap (λ x. x ∷ s.0) c.if-byte-eq91.true) c.next.ensures in
    let n : c.args.depth ≡ suc (c.args.depth - 1) = omega (arith, c.if-depth-eq0.false) in
    subst (Gives (λ _. c.array.new.out) c.array.result c.array.new.reader) (sym (value-array c.args.depth (c.args.depth - 1) c.args.reader.now c.next.new.self n first)) c.array.ensures.reads

pub object-returns-then-closes-clause-reads : goal.object-returns-then-closes-clause-reads
object-returns-then-closes-clause-reads t c =
    let f = c.if-closes.ensures in
    object-empty c.args.depth c.args.reader.now c.closes.new.reader f.found ∙ ap (λ l. found (object l) c.closes.new.reader) (sym c.new-members.ensures)
    ∙ ap (λ v. found v c.closes.new.reader) (sym c.fill.ensures)

pub object-loop-members-init : goal.object-loop-members-init
object-loop-members-init t c =
    let f = c.if-closes.ensures in
    let s = object-start c.args.depth c.args.reader.now c.closes.new.reader f.found.0 f.found.1 in
    record { forward = f.forward; reads = (s.0, [], s.1, sym c.in_ok-members.ensures, s.2) }

pub object-returns-in_err-key-clause-reads : goal.object-returns-in_err-key-clause-reads
object-returns-in_err-key-clause-reads t c =
    let p = err_from_is_err_and c.from_residual-in_err-key.result c.from_residual-in_err-key.ensures.1 in
    let i = c.loop-members.invariant.reads in
    let e = c.in_err-key.field-0.0 in
    let k = subst (λ b. Fails e (string_at b)) c.skip_spaces.ensures.skipped c.in_err-key.ensures.reads in
    rw (p.1, p.2) (object-err e c.args.depth i.0 i.1 c.loop-members.reader c.args.reader.now i.4 (key-err e (value_at c.args.depth) c.loop-members.reader k))

pub object-returns-in_err-name_separator-clause-reads : goal.object-returns-in_err-name_separator-clause-reads
object-returns-in_err-name_separator-clause-reads t c =
    let p = err_from_is_err_and c.from_residual-in_err-name_separator.result c.from_residual-in_err-name_separator.ensures.1 in
    let i = c.loop-members.invariant.reads in
    let f = c.in_err-name_separator.ensures.found in
    let k = colon-err (value_at c.args.depth) c.loop-members.reader c.in_ok-key.key c.string.new.reader (ap string_at (sym c.skip_spaces.ensures.skipped) ∙ c.in_ok-key.ensures.reads) f.1 in
    rw (p.1, p.2, f.0) (object-err Text c.args.depth i.0 i.1 c.loop-members.reader c.args.reader.now i.4 k)

pub object-returns-in_err-value-clause-reads : goal.object-returns-in_err-value-clause-reads
object-returns-in_err-value-clause-reads t c =
    let p = err_from_is_err_and c.from_residual-in_err-value.result c.from_residual-in_err-value.ensures.1 in
    let i = c.loop-members.invariant.reads in
    let e = c.in_err-value.field-0.0 in
    let v = subst (λ b. Fails e (value_at c.args.depth b)) c.skip_spaces-in-loop-members.ensures.skipped c.in_err-value.ensures.reads in
    let k = item-err e (value_at c.args.depth) c.loop-members.reader c.in_ok-key.key c.string.new.reader c.name_separator.new.reader (ap string_at (sym c.skip_spaces.ensures.skipped) ∙ c.in_ok-key.ensures.reads) c.in_ok-name_separator.ensures.found v in
    rw (p.1, p.2) (object-err e c.args.depth i.0 i.1 c.loop-members.reader c.args.reader.now i.4 k)

pub object-returns-in_err-goes_on-clause-reads : goal.object-returns-in_err-goes_on-clause-reads
object-returns-in_err-goes_on-clause-reads t c =
    let p = err_from_is_err_and c.from_residual-in_err-goes_on.result c.from_residual-in_err-goes_on.ensures.1 in
    let i = c.loop-members.invariant.reads in
    let f = c.in_err-goes_on.ensures.found in
    let m = member-ok (value_at c.args.depth) c.loop-members.reader c.in_ok-key.key c.string.new.reader c.name_separator.new.reader c.value.new.reader c.value.new.out (ap string_at (sym c.skip_spaces.ensures.skipped) ∙ c.in_ok-key.ensures.reads) c.in_ok-name_separator.ensures.found (ap (value_at c.args.depth) (sym c.skip_spaces-in-loop-members.ensures.skipped) ∙ c.in_ok-value.ensures.reads) in
    rw (p.1, p.2, f.0) (object-bad c.args.depth i.0 i.1 (c.in_ok-key.key, c.value.new.out) c.loop-members.reader c.args.reader.now c.value.new.reader i.4 m f.1)

pub object-returns-then-not-branch-clause-reads : goal.object-returns-then-not-branch-clause-reads
object-returns-then-not-branch-clause-reads t c =
    let n = c.members-in-loop-members.inside.pairs.items in
    let w = subst (λ ms. (c.in_ok-at.at ≡ key_index c.in_ok-key.key (keys_of ms)) × (c.in_ok-at.at < length ms)) (sym c.members-in-loop-members.view_is) c.in_ok-at.ensures.key_index in
    let d = c.index_mut-member.result.now in
    let p = put-fill c.loop-members.members n c.in_ok-key.key c.in_ok-at.ensures.put.0 c.value.new.out c.in_ok-at.at d (c.members-in-loop-members.view_is ∙ c.in_ok-at.ensures.put.1) w.0 w.1 c.index_mut-member.ensures.value in
    let i = c.loop-members.invariant.reads in
    let f = rw c.if-not-branch.true at c.in_ok-goes_on.ensures.found in
    let m = member-ok (value_at c.args.depth) c.loop-members.reader c.in_ok-key.key c.string.new.reader c.name_separator.new.reader c.value.new.reader c.value.new.out (ap string_at (sym c.skip_spaces.ensures.skipped) ∙ c.in_ok-key.ensures.reads) c.in_ok-name_separator.ensures.found (ap (value_at c.args.depth) (sym c.skip_spaces-in-loop-members.ensures.skipped) ∙ c.in_ok-value.ensures.reads) in
    let le : length c.value.new.reader ≤ i.0 = omega (arith, c.in_ok-value.ensures.forward, c.skip_spaces-in-loop-members.ensures.forward, c.in_ok-name_separator.ensures.forward, c.in_ok-key.ensures.forward, c.skip_spaces.ensures.forward, i.2) in
    object-end c.args.depth i.0 i.1 c.loop-members.members (set n c.in_ok-at.at (d.0, c.value.new.out)) (c.in_ok-key.key, c.value.new.out) c.loop-members.reader c.args.reader.now c.value.new.reader c.goes_on.new.reader i.4 i.3 le m f.0 p
    ∙ ap (λ v. found v c.goes_on.new.reader) (sym c.fill-then-not-branch.ensures)

pub object-loop-members-preserved : goal.object-loop-members-preserved
object-loop-members-preserved t c =
    let n = c.members-in-loop-members.inside.pairs.items in
    let w = subst (λ ms. (c.in_ok-at.at ≡ key_index c.in_ok-key.key (keys_of ms)) × (c.in_ok-at.at < length ms)) (sym c.members-in-loop-members.view_is) c.in_ok-at.ensures.key_index in
    let d = c.index_mut-member.result.now in
    let p = put-fill c.loop-members.members n c.in_ok-key.key c.in_ok-at.ensures.put.0 c.value.new.out c.in_ok-at.at d (c.members-in-loop-members.view_is ∙ c.in_ok-at.ensures.put.1) w.0 w.1 c.index_mut-member.ensures.value in
    let i = c.loop-members.invariant.reads in
    let f = rw c.if-not-branch.false at c.in_ok-goes_on.ensures.found in
    let m = member-ok (value_at c.args.depth) c.loop-members.reader c.in_ok-key.key c.string.new.reader c.name_separator.new.reader c.value.new.reader c.value.new.out (ap string_at (sym c.skip_spaces.ensures.skipped) ∙ c.in_ok-key.ensures.reads) c.in_ok-name_separator.ensures.found (ap (value_at c.args.depth) (sym c.skip_spaces-in-loop-members.ensures.skipped) ∙ c.in_ok-value.ensures.reads) in
    record {
      forward = omega (arith, c.in_ok-goes_on.ensures.forward, c.in_ok-value.ensures.forward, c.skip_spaces-in-loop-members.ensures.forward, c.in_ok-name_separator.ensures.forward, c.in_ok-key.ensures.forward, c.skip_spaces.ensures.forward, c.loop-members.invariant.forward);
      reads = object-next c.args.depth i.0 i.1 c.loop-members.members (set n c.in_ok-at.at (d.0, c.value.new.out)) (c.in_ok-key.key, c.value.new.out) c.loop-members.reader c.args.reader.now c.value.new.reader c.goes_on.new.reader i.4 i.3
          (omega (arith, c.in_ok-value.ensures.forward, c.skip_spaces-in-loop-members.ensures.forward, c.in_ok-name_separator.ensures.forward, c.in_ok-key.ensures.forward, c.skip_spaces.ensures.forward, i.2)) m f p;
    }

pub object-invariant_of-members : goal.object-invariant_of-members
object-invariant_of-members t c =
    let n = c.members-in-loop-members.inside.pairs.items in
    let w = subst (λ ms. (c.in_ok-at.at ≡ key_index c.in_ok-key.key (keys_of ms)) × (c.in_ok-at.at < length ms)) (sym c.members-in-loop-members.view_is) c.in_ok-at.ensures.key_index in
    let d = c.index_mut-member.result.now in
    subst (λ ks. (distinct ks ≡ true) × Indexed c.members-in-loop-members.inside.indices (drop 16 ks))
    (sym (keys-set n c.in_ok-key.key c.value.new.out c.in_ok-at.at d w.0 w.1 c.index_mut-member.ensures.value)) c.members-in-loop-members.invariant

pub object-invariant_of-members-else-not-branch : goal.object-invariant_of-members-else-not-branch
object-invariant_of-members-else-not-branch t c =
    let n = c.members-in-loop-members.inside.pairs.items in
    let w = subst (λ ms. (c.in_ok-at.at ≡ key_index c.in_ok-key.key (keys_of ms)) × (c.in_ok-at.at < length ms)) (sym c.members-in-loop-members.view_is) c.in_ok-at.ensures.key_index in
    let d = c.index_mut-member.result.now in
    subst (λ ks. (distinct ks ≡ true) × Indexed c.members-in-loop-members.inside.indices (drop 16 ks))
    (sym (keys-set n c.in_ok-key.key c.value.new.out c.in_ok-at.at d w.0 w.1 c.index_mut-member.ensures.value)) c.members-in-loop-members.invariant
