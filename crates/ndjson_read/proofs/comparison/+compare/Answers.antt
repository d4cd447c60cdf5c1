use Rattle.std.proofs.Common.{◌≡◌, ◌∙◌, ◌++◌, ◌∷◌, ◌-◌, [], Some, rules, sym, ap, subst, suc, refl, option_map, arith}
use Rattle.json_tree.specs.Tree.{array, object}
use Rattle.json_tree.specs.Layout.{put}
use Rattle.json_tree.specs.Reading.{string_at, value_at, put_together}
use Rattle.json_tree.proofs.Turns.{array-empty, array-start, array-next, array-end, object-empty, object-start, member-ok, object-next, object-end, value-array, next-known}
use Rattle.json_tree.proofs.CharTurns.{plain-string}
use Rattle.json_lend.proofs.SkipLaws.{value-object}
use Rattle.ndjson_read.specs.Compared.{Compares, joined}
use Rattle.ndjson_read.proofs.TypeLaws.{array_compared, compared, empty_array, joined_item, struct_read, value_read}
use Rattle.ndjson_read.proofs.MemberLaws.{FieldsSoFar, no_fields, member_so_far, fields_all, member_equal, member_null}
use Rattle.ndjson_read.proofs.comparison.+compare.Goals as goal

pub compare_array-returns-then-closes-clause-reads : goal.compare_array-returns-then-closes-clause-reads
compare_array-returns-then-closes-clause-reads t c = (array [], array-empty c.args.depth c.args.reader.now c.closes.new.reader c.if-closes.ensures.found, empty_array)

pub compare_array-loop-next-init : goal.compare_array-loop-next-init
compare_array-loop-next-init t c =
    let f = c.if-closes.ensures in
    let s = array-start c.args.depth c.args.reader.now c.closes.new.reader f.found.0 f.found.1 in
    record { forward = f.forward; reads = (s.0, [], s.1, s.2, refl) }

pub compare_value-returns-then-byte-eq91-clause-reads : goal.compare_value-returns-then-byte-eq91-clause-reads
compare_value-returns-then-byte-eq91-clause-reads t c =
    let s = c.in-Some.ensures in
    let first = next-known c.next.result c.args.reader.now c.next.new.self s.0 91 (s.1 ∙ ap (λ x. x ∷ s.0) c.if-byte-eq91.true) c.next.ensures in
    let n : c.args.depth ≡ suc (c.args.depth - 1) = omega (arith, c.if-depth-eq0.false) in
    subst (Compares c.compare_array.result (option_map (λ u. u.now) c.args.expected) c.compare_array.new.reader) (sym (value-array c.args.depth (c.args.depth - 1) c.args.reader.now c.next.new.self n first)) c.compare_array.ensures.reads

pub compare_value-returns-then-byte-eq123-clause-reads : goal.compare_value-returns-then-byte-eq123-clause-reads
compare_value-returns-then-byte-eq123-clause-reads t c =
    let s = c.in-Some.ensures in
    let first = next-known c.next-then-byte-eq123.result c.args.reader.now c.next-then-byte-eq123.new.self s.0 123 (s.1 ∙ ap (λ x. x ∷ s.0) c.if-byte-eq123.true) c.next-then-byte-eq123.ensures in
    let n : c.args.depth ≡ suc (c.args.depth - 1) = omega (arith, c.if-depth-eq0-2.false) in
    subst (Compares c.compare_object.result (option_map (λ u. u.now) c.args.expected) c.compare_object.new.reader) (sym (value-object c.args.depth (c.args.depth - 1) c.args.reader.now c.next-then-byte-eq123.new.self n first)) c.compare_object.ensures.reads

pub compare_array-loop-next-preserved : goal.compare_array-loop-next-preserved
compare_array-loop-next-preserved t c =
    let i = c.loop-next.invariant.reads in
    let next : joined c.loop-next.items c.compare_value-compared.result ≡ Some c.in-Some.next = sym c.joined.ensures ∙ c.in-Some.is in
    let v = value_read c.loop-next.items c.compare_value-compared.result c.in-Some.next _ c.compare_value-compared.new.reader _ next c.compare_value-compared.ensures.reads in
    let f = rw c.if-not-more.false at c.in-Ok.ensures.found in
    let n = array-next c.args.depth i.0 i.1 (i.1 ++ v.0 ∷ []) v.0 c.loop-next.reader c.args.reader.now c.compare_value-compared.new.reader c.goes_on.new.reader i.3 (omega (arith, c.compare_value-compared.ensures.forward, c.skip_spaces.ensures.forward, i.2))
    (ap (value_at c.args.depth) (sym c.skip_spaces.ensures.skipped) ∙ v.1) f refl in
    record {
      forward = omega (arith, c.in-Ok.ensures.forward, c.compare_value-compared.ensures.forward, c.skip_spaces.ensures.forward, c.loop-next.invariant.forward);
      reads = (n.0, i.1 ++ v.0 ∷ [], n.1, n.2, joined_item c.loop-next.items c.compare_value-compared.result c.in-Some.next i.1 v.0 _ next v.2 i.4);
    }

pub compare_array-returns-then-not-more-clause-reads : goal.compare_array-returns-then-not-more-clause-reads
compare_array-returns-then-not-more-clause-reads t c =
    let i = c.loop-next.invariant.reads in
    let next : joined c.loop-next.items c.compare_value-compared.result ≡ Some c.in-Some.next = sym c.joined.ensures ∙ c.in-Some.is in
    let v = value_read c.loop-next.items c.compare_value-compared.result c.in-Some.next _ c.compare_value-compared.new.reader _ next c.compare_value-compared.ensures.reads in
    let f = rw c.if-not-more.true at c.in-Ok.ensures.found in
    let items = i.1 ++ v.0 ∷ [] in
    let read = array-end c.args.depth i.0 i.1 items v.0 c.loop-next.reader c.args.reader.now c.compare_value-compared.new.reader c.goes_on.new.reader i.3 (omega (arith, c.compare_value-compared.ensures.forward, c.skip_spaces.ensures.forward, i.2))
    (ap (value_at c.args.depth) (sym c.skip_spaces.ensures.skipped) ∙ v.1) f.0 refl in
    let are = joined_item c.loop-next.items c.compare_value-compared.result c.in-Some.next i.1 v.0 _ next v.2 i.4 in
    compared c.in-Some.next (array items) _ c.goes_on.new.reader _ read (array_compared c.in-Some.next items _ _ are (λ u e. search rules))

pub has_fields-returns-then-closes-clause-reads : goal.has_fields-returns-then-closes-clause-reads
has_fields-returns-then-closes-clause-reads t c =
    λ e. (object [], object-empty c.args.depth c.args.reader.now c.closes.new.reader c.if-closes.ensures.found, fields_all c.args.fields.now 0 [] (no_fields c.args.fields.now) (search rules))

pub has_fields-loop-next-init : goal.has_fields-loop-next-init
has_fields-loop-next-init t c =
    let f = c.if-closes.ensures in
    let s = object-start c.args.depth c.args.reader.now c.closes.new.reader f.found.0 f.found.1 in
    record { forward = f.forward; reads = (s.0, [], s.1, s.2, no_fields c.args.fields.now) }

pub has_fields-loop-next-preserved : goal.has_fields-loop-next-preserved
has_fields-loop-next-preserved t c =
    let i = c.loop-next.invariant.reads in
    let m = c.in-Some.ensures.reads in
    let f = rw c.if-not-more.false at c.in-Ok.ensures.found in
    let new = put (put_together i.1) (m.0, m.1) in
    let n = object-next c.args.depth i.0 i.1 (put_together i.1) new (m.0, m.1) c.loop-next.reader c.args.reader.now c.read_member.new.reader c.goes_on.new.reader i.3 refl (omega (arith, c.read_member.ensures.forward, i.2)) m.2 f refl in
    record {
      forward = omega (arith, c.in-Ok.ensures.forward, c.read_member.ensures.forward, c.loop-next.invariant.forward);
      reads = (n.0, n.1, n.2, n.4, subst (FieldsSoFar c.args.fields.now c.in-Some.next) (sym n.3) (member_so_far c.args.fields.now c.loop-next.index c.in-Some.next (put_together i.1) m.0 m.1 i.4 m.3));
    }

pub has_fields-returns-then-not-more-clause-reads : goal.has_fields-returns-then-not-more-clause-reads
has_fields-returns-then-not-more-clause-reads t c =
    let i = c.loop-next.invariant.reads in
    let m = c.in-Some.ensures.reads in
    let f = rw c.if-not-more.true at c.in-Ok.ensures.found in
    let new = put (put_together i.1) (m.0, m.1) in
    let read = object-end c.args.depth i.0 i.1 (put_together i.1) new (m.0, m.1) c.loop-next.reader c.args.reader.now c.read_member.new.reader c.goes_on.new.reader i.3 refl (omega (arith, c.read_member.ensures.forward, i.2)) m.2 f.0 refl in
    λ e. (object new, read, fields_all c.args.fields.now c.in-Some.next new (member_so_far c.args.fields.now c.loop-next.index c.in-Some.next (put_together i.1) m.0 m.1 i.4 m.3) (search rules))

pub compare_object-returns-then-has_fields-clause-reads : goal.compare_object-returns-then-has_fields-clause-reads
compare_object-returns-then-has_fields-clause-reads t c =
    let h = c.has_fields.ensures.reads c.if-has_fields.true in
    struct_read h.0 _ _ _ _ h.1 h.2 (search rules)

pub read_member-returns-in-Equal-clause-reads : goal.read_member-returns-in-Equal-clause-reads
read_member-returns-in-Equal-clause-reads t c =
    let p = c.in_ok-name.ensures.found in
    let key = ap string_at (sym c.skip_spaces.ensures.skipped) ∙ plain-string c.skip_spaces.new.self c.in_ok-name.name.now c.plain_string.new.self p.0 p.1 in
    member_equal c.args.fields.now c.args.index c.in_ok-name.name.now c.in-Some.expected.now c.compare_value.new.reader _ _
    (λ v e. member-ok (value_at c.args.depth) c.args.reader.now c.in_ok-name.name.now c.plain_string.new.self c.name_separator.new.reader c.compare_value.new.reader v key c.in-Ok.ensures.found (ap (value_at c.args.depth) (sym c.skip_spaces-2.ensures.skipped) ∙ e))
    c.in-Equal.ensures.reads c.in-Some.ensures.next

pub read_member-returns-in-Null-clause-reads : goal.read_member-returns-in-Null-clause-reads
read_member-returns-in-Null-clause-reads t c =
    let p = c.in_ok-name.ensures.found in
    let key = ap string_at (sym c.skip_spaces.ensures.skipped) ∙ plain-string c.skip_spaces.new.self c.in_ok-name.name.now c.plain_string.new.self p.0 p.1 in
    member_null c.args.fields.now c.args.index c.in_ok-name.name.now c.compare_value-2.new.reader _ _
    (λ v e. member-ok (value_at c.args.depth) c.args.reader.now c.in_ok-name.name.now c.plain_string.new.self c.name_separator.new.reader c.compare_value-2.new.reader v key c.in-Ok.ensures.found (ap (value_at c.args.depth) (sym c.skip_spaces-2.ensures.skipped) ∙ e))
    c.in-Null.ensures.reads (sym c.has_name.ensures ∙ c.if-has_name.false)
