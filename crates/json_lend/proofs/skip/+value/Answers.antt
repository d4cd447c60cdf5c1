use Rattle.std.proofs.Common.{◌≡◌, ◌∙◌, ◌++◌, ◌∷◌, ◌≤◌, ◌-◌, [], sym, ap, subst, suc, length, refl, arith}
use Rattle.std.proofs.lemmas.Result.{err_from_is_err_and}
use Rattle.json_tree.specs.Tree.{array, object}
use Rattle.json_tree.specs.Layout.{put}
use Rattle.json_tree.specs.Reading.{string_at, value_at, put_together}
use Rattle.json_tree.specs.Gives.{Fails}
use Rattle.json_tree.proofs.Turns.{array-empty, array-start, array-bad, array-next, array-end, object-empty, object-start, key-err, colon-err, item-err, member-ok, object-err, object-bad, object-next, object-end, value-array, next-known}
use Rattle.json_lend.proofs.SkipLaws.{value-object, value-else}
use Rattle.json_tree.specs.declared.value.JsonFault.TheVariants.{Text}
use Rattle.json_lend.specs.Skips.{Skips}
use Rattle.json_lend.proofs.skip.+value.Goals as goal

pub skip_array-returns-then-closes-clause-reads : goal.skip_array-returns-then-closes-clause-reads
skip_array-returns-then-closes-clause-reads t c = (array [], array-empty c.args.depth c.args.reader.now c.closes.new.reader c.if-closes.ensures.found)

pub skip_array-loop-reader-init : goal.skip_array-loop-reader-init
skip_array-loop-reader-init t c =
    let f = c.if-closes.ensures in
    let s = array-start c.args.depth c.args.reader.now c.closes.new.reader f.found.0 f.found.1 in
    record { forward = f.forward; reads = (s.0, [], s.1, s.2) }

pub skip_array-returns-in_err-goes_on-clause-reads : goal.skip_array-returns-in_err-goes_on-clause-reads
skip_array-returns-in_err-goes_on-clause-reads t c =
    let p = err_from_is_err_and c.from_residual-in_err-goes_on.result c.from_residual-in_err-goes_on.ensures.1 in
    let i = c.loop-reader.invariant.reads in
    let v = c.in_ok-skip_value.ensures.reads in
    let f = c.in_err-goes_on.ensures.found in
    rw (p.1, p.2, f.0) (array-bad c.args.depth i.0 i.1 v.0 c.loop-reader.reader c.args.reader.now c.skip_value.new.reader i.3 (ap (value_at c.args.depth) (sym c.skip_spaces.ensures.skipped) ∙ v.1) f.1)

pub skip_array-returns-then-not-branch-clause-reads : goal.skip_array-returns-then-not-branch-clause-reads
skip_array-returns-then-not-branch-clause-reads t c =
    let i = c.loop-reader.invariant.reads in
    let v = c.in_ok-skip_value.ensures.reads in
    let f = rw c.if-not-branch.true at c.in_ok-goes_on.ensures.found in (
      array (i.1 ++ v.0 ∷ []),
      array-end c.args.depth i.0 i.1 (i.1 ++ v.0 ∷ []) v.0 c.loop-reader.reader c.args.reader.now c.skip_value.new.reader c.goes_on.new.reader i.3 (omega (arith, c.in_ok-skip_value.ensures.forward, c.skip_spaces.ensures.forward, i.2))
          (ap (value_at c.args.depth) (sym c.skip_spaces.ensures.skipped) ∙ v.1) f.0 refl,
    )

pub skip_array-loop-reader-preserved : goal.skip_array-loop-reader-preserved
skip_array-loop-reader-preserved t c =
    let i = c.loop-reader.invariant.reads in
    let v = c.in_ok-skip_value.ensures.reads in
    let f = rw c.if-not-branch.false at c.in_ok-goes_on.ensures.found in
    let n = array-next c.args.depth i.0 i.1 (i.1 ++ v.0 ∷ []) v.0 c.loop-reader.reader c.args.reader.now c.skip_value.new.reader c.goes_on.new.reader i.3 (omega (arith, c.in_ok-skip_value.ensures.forward, c.skip_spaces.ensures.forward, i.2))
    (ap (value_at c.args.depth) (sym c.skip_spaces.ensures.skipped) ∙ v.1) f refl in
    record {
      forward = omega (arith, c.in_ok-goes_on.ensures.forward, c.in_ok-skip_value.ensures.forward, c.skip_spaces.ensures.forward, c.loop-reader.invariant.forward);
      reads = (n.0, i.1 ++ v.0 ∷ [], n.1, n.2);
    }

pub skip_object-returns-then-closes-clause-reads : goal.skip_object-returns-then-closes-clause-reads
skip_object-returns-then-closes-clause-reads t c = (object [], object-empty c.args.depth c.args.reader.now c.closes.new.reader c.if-closes.ensures.found)

pub skip_object-loop-reader-init : goal.skip_object-loop-reader-init
skip_object-loop-reader-init t c =
    let f = c.if-closes.ensures in
    let s = object-start c.args.depth c.args.reader.now c.closes.new.reader f.found.0 f.found.1 in
    record { forward = f.forward; reads = (s.0, [], s.1, s.2) }

pub skip_object-returns-in_err-skip_string-clause-reads : goal.skip_object-returns-in_err-skip_string-clause-reads
skip_object-returns-in_err-skip_string-clause-reads t c =
    let p = err_from_is_err_and c.from_residual.result c.from_residual.ensures.1 in
    let i = c.loop-reader.invariant.reads in
    let e = c.in_err-skip_string.field-0.0 in
    let k = subst (λ b. Fails e (string_at b)) c.skip_spaces.ensures.skipped c.in_err-skip_string.ensures.reads in
    rw (p.1, p.2) (object-err e c.args.depth i.0 i.1 c.loop-reader.reader c.args.reader.now i.3 (key-err e (value_at c.args.depth) c.loop-reader.reader k))

pub skip_object-returns-in_err-name_separator-clause-reads : goal.skip_object-returns-in_err-name_separator-clause-reads
skip_object-returns-in_err-name_separator-clause-reads t c =
    let p = err_from_is_err_and c.from_residual-in_err-name_separator.result c.from_residual-in_err-name_separator.ensures.1 in
    let i = c.loop-reader.invariant.reads in
    let s = c.in_ok-skip_string.ensures.reads in
    let f = c.in_err-name_separator.ensures.found in
    let k = colon-err (value_at c.args.depth) c.loop-reader.reader s.0 c.skip_string.new.reader (ap string_at (sym c.skip_spaces.ensures.skipped) ∙ s.1) f.1 in
    rw (p.1, p.2, f.0) (object-err Text c.args.depth i.0 i.1 c.loop-reader.reader c.args.reader.now i.3 k)

pub skip_object-returns-in_err-skip_value-clause-reads : goal.skip_object-returns-in_err-skip_value-clause-reads
skip_object-returns-in_err-skip_value-clause-reads t c =
    let p = err_from_is_err_and c.from_residual-in_err-skip_value.result c.from_residual-in_err-skip_value.ensures.1 in
    let i = c.loop-reader.invariant.reads in
    let s = c.in_ok-skip_string.ensures.reads in
    let e = c.in_err-skip_value.field-0.0 in
    let v = subst (λ b. Fails e (value_at c.args.depth b)) c.skip_spaces-in-loop-reader.ensures.skipped c.in_err-skip_value.ensures.reads in
    let k = item-err e (value_at c.args.depth) c.loop-reader.reader s.0 c.skip_string.new.reader c.name_separator.new.reader (ap string_at (sym c.skip_spaces.ensures.skipped) ∙ s.1) c.in_ok-name_separator.ensures.found v in
    rw (p.1, p.2) (object-err e c.args.depth i.0 i.1 c.loop-reader.reader c.args.reader.now i.3 k)

pub skip_object-returns-in_err-goes_on-clause-reads : goal.skip_object-returns-in_err-goes_on-clause-reads
skip_object-returns-in_err-goes_on-clause-reads t c =
    let p = err_from_is_err_and c.from_residual-in_err-goes_on.result c.from_residual-in_err-goes_on.ensures.1 in
    let i = c.loop-reader.invariant.reads in
    let s = c.in_ok-skip_string.ensures.reads in
    let v = c.in_ok-skip_value.ensures.reads in
    let f = c.in_err-goes_on.ensures.found in
    let m = member-ok (value_at c.args.depth) c.loop-reader.reader s.0 c.skip_string.new.reader c.name_separator.new.reader c.skip_value.new.reader v.0 (ap string_at (sym c.skip_spaces.ensures.skipped) ∙ s.1) c.in_ok-name_separator.ensures.found (ap (value_at c.args.depth) (sym c.skip_spaces-in-loop-reader.ensures.skipped) ∙ v.1) in
    rw (p.1, p.2, f.0) (object-bad c.args.depth i.0 i.1 (s.0, v.0) c.loop-reader.reader c.args.reader.now c.skip_value.new.reader i.3 m f.1)

pub skip_object-returns-then-not-branch-clause-reads : goal.skip_object-returns-then-not-branch-clause-reads
skip_object-returns-then-not-branch-clause-reads t c =
    let i = c.loop-reader.invariant.reads in
    let s = c.in_ok-skip_string.ensures.reads in
    let v = c.in_ok-skip_value.ensures.reads in
    let f = rw c.if-not-branch.true at c.in_ok-goes_on.ensures.found in
    let m = member-ok (value_at c.args.depth) c.loop-reader.reader s.0 c.skip_string.new.reader c.name_separator.new.reader c.skip_value.new.reader v.0 (ap string_at (sym c.skip_spaces.ensures.skipped) ∙ s.1) c.in_ok-name_separator.ensures.found (ap (value_at c.args.depth) (sym c.skip_spaces-in-loop-reader.ensures.skipped) ∙ v.1) in
    let new = put (put_together i.1) (s.0, v.0) in
    let le : length c.skip_value.new.reader ≤ i.0 = omega (arith, c.in_ok-skip_value.ensures.forward, c.skip_spaces-in-loop-reader.ensures.forward, c.in_ok-name_separator.ensures.forward, c.in_ok-skip_string.ensures.forward, c.skip_spaces.ensures.forward, i.2) in
    (object new, object-end c.args.depth i.0 i.1 (put_together i.1) new (s.0, v.0) c.loop-reader.reader c.args.reader.now c.skip_value.new.reader c.goes_on.new.reader i.3 refl le m f.0 refl)

pub skip_object-loop-reader-preserved : goal.skip_object-loop-reader-preserved
skip_object-loop-reader-preserved t c =
    let i = c.loop-reader.invariant.reads in
    let s = c.in_ok-skip_string.ensures.reads in
    let v = c.in_ok-skip_value.ensures.reads in
    let f = rw c.if-not-branch.false at c.in_ok-goes_on.ensures.found in
    let m = member-ok (value_at c.args.depth) c.loop-reader.reader s.0 c.skip_string.new.reader c.name_separator.new.reader c.skip_value.new.reader v.0 (ap string_at (sym c.skip_spaces.ensures.skipped) ∙ s.1) c.in_ok-name_separator.ensures.found (ap (value_at c.args.depth) (sym c.skip_spaces-in-loop-reader.ensures.skipped) ∙ v.1) in
    let new = put (put_together i.1) (s.0, v.0) in
    let le : length c.skip_value.new.reader ≤ i.0 = omega (arith, c.in_ok-skip_value.ensures.forward, c.skip_spaces-in-loop-reader.ensures.forward, c.in_ok-name_separator.ensures.forward, c.in_ok-skip_string.ensures.forward, c.skip_spaces.ensures.forward, i.2) in
    let n = object-next c.args.depth i.0 i.1 (put_together i.1) new (s.0, v.0) c.loop-reader.reader c.args.reader.now c.skip_value.new.reader c.goes_on.new.reader i.3 refl le m f refl in
    record {
      forward = omega (arith, c.in_ok-goes_on.ensures.forward, c.in_ok-skip_value.ensures.forward, c.skip_spaces-in-loop-reader.ensures.forward, c.in_ok-name_separator.ensures.forward, c.in_ok-skip_string.ensures.forward, c.skip_spaces.ensures.forward, c.loop-reader.invariant.forward);
      reads = (n.0, n.1, n.2, n.4);
    }

pub skip_value-returns-then-byte-eq91-clause-reads : goal.skip_value-returns-then-byte-eq91-clause-reads
skip_value-returns-then-byte-eq91-clause-reads t c =
    let s = c.in-Some.ensures in
    let first = next-known c.next.result c.args.reader.now c.next.new.self s.0 91 (s.1 ∙ ap (λ x. x ∷ s.0) c.if-byte-eq91.true) c.next.ensures in
    let n : c.args.depth ≡ suc (c.args.depth - 1) = omega (arith, c.if-depth-eq0.false) in
    subst (Skips c.skip_array.result c.skip_array.new.reader) (sym (value-array c.args.depth (c.args.depth - 1) c.args.reader.now c.next.new.self n first)) c.skip_array.ensures.reads

pub skip_value-returns-then-byte-eq123-clause-reads : goal.skip_value-returns-then-byte-eq123-clause-reads
skip_value-returns-then-byte-eq123-clause-reads t c =
    let s = c.in-Some.ensures in
    let first = next-known c.next-then-byte-eq123.result c.args.reader.now c.next-then-byte-eq123.new.self s.0 123 (s.1 ∙ ap (λ x. x ∷ s.0) c.if-byte-eq123.true) c.next-then-byte-eq123.ensures in
    let n : c.args.depth ≡ suc (c.args.depth - 1) = omega (arith, c.if-depth-eq0-2.false) in
    subst (Skips c.skip_object.result c.skip_object.new.reader) (sym (value-object c.args.depth (c.args.depth - 1) c.args.reader.now c.next-then-byte-eq123.new.self n first)) c.skip_object.ensures.reads

pub skip_value-returns-clause-reads : goal.skip_value-returns-clause-reads
skip_value-returns-clause-reads t c =
    let s = c.in-Some.ensures in
    subst (Skips c.skip_scalar.result c.skip_scalar.new.reader) (sym (value-else c.args.depth c.args.reader.now s.0 c.in-Some.byte s.1 c.if-byte-eq91.false c.if-byte-eq123.false)) c.skip_scalar.ensures.reads
