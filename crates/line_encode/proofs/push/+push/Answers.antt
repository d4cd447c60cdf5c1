-- Items and members are appended one after another.
use Rattle.std.proofs.Common.{◌≡◌, ◌∙◌, ◌-◌, ◌<◌, suc, length, sym, ap, rules, arith}
use denote.Param.Weighed.{at_most}
use Rattle.json_tree.specs.Reading.{array_at, object_at, value_at}
use Rattle.json_tree.proofs.Turns.{value-array}
use Rattle.json_lend.proofs.SkipLaws.{value-object}
use Rattle.line_encode.proofs.plan.Plan.TheLaws.{the_size}
use Rattle.line_encode.specs.declared.plan.Plan.TheViews.{the_lemmas}
use Rattle.line_encode.specs.Plans.{Writes, WritesList, WritesPrimitive, WritesRecord, OrNull}
use Rattle.line_encode.proofs.Forms.{list_form, primitive_form, read_held, read_null, read_same, record_form}
use Rattle.line_encode.proofs.Items.{items_end, items_next, items_start, list_read, none_read, zero_within}
use Rattle.line_encode.proofs.Members.{field_passed, field_read, index_within, member_of, members_end, members_next, members_start, no_members}
use Rattle.line_encode.proofs.push.+push.Goals as goal

-- ---- values

pub push_value-push_object-requires : goal.push_value-push_object-requires
push_value-push_object-requires t c =
    ((let d = c.decreases in let e = ap the_size c.in-Record.is in let a = c.as_slice-plans.ensures.value in search (rules, the_lemmas)), c.as_slice-names.ensures.distinct)

pub push_value-returns-in-Primitive-clause-ok : goal.push_value-returns-in-Primitive-clause-ok
push_value-returns-in-Primitive-clause-ok t c =
    let p = c.push_primitive in
    let nullable = c.in-Primitive.nullable in
    let primitive = c.in-Primitive.primitive in
    read_same p.result (OrNull nullable (WritesPrimitive primitive)) (Writes c.args.plan.now) (value_at c.args.depth) c.args.reader.now p.new.reader c.args.out.now.items p.new.out.items (ap Writes c.in-Primitive.is ∙ primitive_form nullable primitive) p.ensures.ok

pub push_value-returns-in-List-clause-ok : goal.push_value-returns-in-List-clause-ok
push_value-returns-in-List-clause-ok t c =
    let p = c.push_array in
    let nullable = c.in-List.nullable in
    let item = c.deref.result.now in
    let form = ap Writes c.in-List.is ∙ (list_form nullable c.in-List.item ∙ ap (λ p. OrNull nullable (WritesList (Writes p))) (sym c.deref.ensures)) in
    read_same p.result (OrNull nullable (WritesList (Writes item))) (Writes c.args.plan.now) (value_at c.args.depth) c.args.reader.now p.new.reader c.args.out.now.items p.new.out.items form p.ensures.ok

pub push_value-returns-in-Record-clause-ok : goal.push_value-returns-in-Record-clause-ok
push_value-returns-in-Record-clause-ok t c =
    let p = c.push_object in
    let nullable = c.in-Record.nullable in
    let names = c.as_slice-names.result.now in
    let plans = c.as_slice-plans.result.now in
    let form = ap Writes c.in-Record.is ∙ (record_form nullable c.in-Record.names c.in-Record.plans ∙ (λ i. OrNull nullable (WritesRecord (sym c.as_slice-names.ensures.names i) (sym c.as_slice-plans.ensures.value i)))) in
    read_same p.result (OrNull nullable (WritesRecord names plans)) (Writes c.args.plan.now) (value_at c.args.depth) c.args.reader.now p.new.reader c.args.out.now.items p.new.out.items form p.ensures.ok

-- ---- arrays

pub push_array-returns-then-not-opens-clause-ok : goal.push_array-returns-then-not-opens-clause-ok
push_array-returns-then-not-opens-clause-ok t c =
    let p = c.read_null in
    let same = c.if-not-opens.ensures in
    read_null p.result c.args.nullable (WritesList (Writes c.args.item.now)) (value_at c.args.depth) c.args.reader.now c.opens.new.reader p.new.reader c.args.out.now.items p.new.out.items same p.ensures.nullable p.ensures.null p.ensures.ok

pub push_array-returns-clause-ok : goal.push_array-returns-clause-ok
push_array-returns-clause-ok t c =
    let f = c.if-not-opens.ensures in
    let n : c.args.depth ≡ suc (c.args.depth - 1) = omega (arith, f.1) in
    let p = c.push_list in
    let behind = c.opens.new.reader in
    read_held p.result c.args.nullable (WritesList (Writes c.args.item.now)) (array_at (value_at (c.args.depth - 1))) (value_at c.args.depth) c.args.reader.now behind p.new.reader c.args.out.now.items c.push_index.new.out.items p.new.out.items
    (value-array c.args.depth (c.args.depth - 1) c.args.reader.now behind n f.0) c.in_ok-push_index.ensures p.ensures.ok

pub push_list-end_block-requires-clause-within : goal.push_list-end_block-requires-clause-within
push_list-end_block-requires-clause-within t c =
    let long : c.len-start.result ≡ length c.args.out.now.items = search rules in
    zero_within (Writes c.args.item.now) c.args.depth c.len-start.result c.in_ok-count.count c.args.reader.now c.push_items.new.reader c.args.out.now.items c.push.new.self.items c.push_items.new.out.items long c.in_ok-push.ensures.items c.in_ok-count.ensures.ok

pub push_list-end_block-requires-clause-few : goal.push_list-end_block-requires-clause-few
push_list-end_block-requires-clause-few t c = c.in_ok-count.ensures.ok.3

pub push_list-returns-clause-ok : goal.push_list-returns-clause-ok
push_list-returns-clause-ok t c =
    let long : c.len-start.result ≡ length c.args.out.now.items = search rules in
    let p = c.end_block in
    list_read p.result (Writes c.args.item.now) c.args.depth c.len-start.result c.in_ok-count.count c.args.reader.now c.push_items.new.reader c.args.out.now.items c.push.new.self.items c.push_items.new.out.items p.new.out.items long c.in_ok-push.ensures.items c.in_ok-count.ensures.ok p.ensures

pub push_items-returns-then-closes-clause-ok : goal.push_items-returns-then-closes-clause-ok
push_items-returns-then-closes-clause-ok t c = none_read (Writes c.args.item.now) c.args.depth c.args.reader.now c.closes.new.reader c.args.out.now.items c.if-closes.ensures.found

pub push_items-loop-alloc-init : goal.push_items-loop-alloc-init
push_items-loop-alloc-init t c =
    let f = c.if-closes.ensures in
    record { forward = f.forward; reads = items_start (Writes c.args.item.now) c.args.depth c.args.reader.now c.closes.new.reader c.args.out.now.items f.found.0 f.found.1 }

pub push_items-overflow_add-count : goal.push_items-overflow_add-count
push_items-overflow_add-count t c = let few = c.may_count.ensures c.if-not-may_count.false in omega (arith, few)

pub push_items-returns-then-not-branch-clause-ok : goal.push_items-returns-then-not-branch-clause-ok
push_items-returns-then-not-branch-clause-ok t c =
    let inv = c.loop-alloc.invariant in
    let f = rw c.if-not-branch.true at c.in_ok-goes_on.ensures.found in
    items_end (Writes c.args.item.now) c.args.depth c.loop-alloc.count c.args.reader.now c.loop-alloc.reader c.skip_spaces.new.self c.push_value.new.reader c.goes_on.new.reader c.args.out.now.items c.loop-alloc.out.items c.push_value.new.out.items inv.reads c.skip_spaces.ensures.skipped c.push_value.ensures.forward c.in_ok-push_value.ensures.ok (c.may_count.ensures c.if-not-may_count.false) f.0

pub push_items-loop-alloc-preserved : goal.push_items-loop-alloc-preserved
push_items-loop-alloc-preserved t c =
    let inv = c.loop-alloc.invariant in
    let e = c.in_ok-push_value.ensures in
    let f = rw c.if-not-branch.false at c.in_ok-goes_on.ensures.found in
    record {
      forward = omega (arith, c.in_ok-goes_on.ensures.forward, e.forward, c.skip_spaces.ensures.forward, inv.forward);
      reads = items_next (Writes c.args.item.now) c.args.depth c.loop-alloc.count c.args.reader.now c.loop-alloc.reader c.skip_spaces.new.self c.push_value.new.reader c.goes_on.new.reader c.args.out.now.items c.loop-alloc.out.items c.push_value.new.out.items inv.reads c.skip_spaces.ensures.skipped e.forward e.ok f;
    }

-- ---- objects

pub push_object-returns-then-not-opens-clause-ok : goal.push_object-returns-then-not-opens-clause-ok
push_object-returns-then-not-opens-clause-ok t c =
    let p = c.read_null in
    let same = c.if-not-opens.ensures in
    read_null p.result c.args.nullable (WritesRecord c.args.names.now c.args.plans.now) (value_at c.args.depth) c.args.reader.now c.opens.new.reader p.new.reader c.args.out.now.items p.new.out.items same p.ensures.nullable p.ensures.null p.ensures.ok

pub push_object-returns-clause-ok : goal.push_object-returns-clause-ok
push_object-returns-clause-ok t c =
    let f = c.if-not-opens.ensures in
    let n : c.args.depth ≡ suc (c.args.depth - 1) = omega (arith, f.1) in
    let p = c.push_record in
    let behind = c.opens.new.reader in
    read_held p.result c.args.nullable (WritesRecord c.args.names.now c.args.plans.now) (object_at (value_at (c.args.depth - 1))) (value_at c.args.depth) c.args.reader.now behind p.new.reader c.args.out.now.items c.push_index.new.out.items p.new.out.items
    (value-object c.args.depth (c.args.depth - 1) c.args.reader.now behind n f.0) c.in_ok-push_index.ensures p.ensures.ok

pub push_record-returns-then-closes-clause-ok : goal.push_record-returns-then-closes-clause-ok
push_record-returns-then-closes-clause-ok t c =
    let same : length c.args.names.now ≡ length c.args.plans.now = search rules in
    let p = c.push_all_null in
    no_members p.result c.args.depth c.args.names.now c.args.plans.now c.args.reader.now c.closes.new.reader c.args.out.now.items p.new.out.items same c.if-closes.ensures.found p.ensures

pub push_record-loop-at-init : goal.push_record-loop-at-init
push_record-loop-at-init t c =
    let f = c.if-closes.ensures in
    let same : length c.args.names.now ≡ length c.args.plans.now = search rules in
    record {
      next = omega arith;
      forward = f.forward;
      reads = members_start c.args.depth c.args.names.now c.args.plans.now c.args.reader.now c.closes.new.reader c.args.out.now.items same f.found.0 f.found.1;
    }

pub push_record-push_field-requires : goal.push_record-push_field-requires
push_record-push_field-requires t c =
    let d = c.decreases in
    let same : length c.args.names.now ≡ length c.args.plans.now = search rules in
    let begins = c.in_ok-at.ensures.reads in
    (omega arith, (index_within c.args.names.now begins.0 c.in_ok-at.at (length c.args.plans.now) begins.1 same, c.loop-at.invariant.next))

pub push_record-returns-then-not-branch-clause-ok : goal.push_record-returns-then-not-branch-clause-ok
push_record-returns-then-not-branch-clause-ok t c =
    let i = c.loop-at.invariant in
    let same : length c.args.names.now ≡ length c.args.plans.now = search rules in
    let begins = c.in_ok-at.ensures.reads in
    let within = index_within c.args.names.now begins.0 c.in_ok-at.at (length c.args.plans.now) begins.1 same in
    let f = rw c.if-not-branch.true at c.in_ok-goes_on.ensures.found in
    let read = member_of c.args.depth c.args.names.now c.args.plans.now c.loop-at.next c.in_ok-next.next c.in_ok-at.at c.loop-at.reader c.read_name.new.reader c.push_field.new.reader c.loop-at.out.items c.push_field.new.out.items c.requires.distinct within begins c.in_ok-next.ensures.ok in
    members_end c.args.depth c.loop-at.next c.in_ok-next.next c.args.names.now c.args.plans.now c.args.reader.now c.loop-at.reader c.push_field.new.reader c.goes_on.new.reader c.args.out.now.items c.loop-at.out.items c.push_field.new.out.items i.reads (omega (arith, c.push_field.ensures.forward, c.in_ok-at.ensures.forward)) read
    c.push_nulls.result c.push_nulls.new.out.items f.0 c.push_nulls.ensures

pub push_record-loop-at-preserved : goal.push_record-loop-at-preserved
push_record-loop-at-preserved t c =
    let i = c.loop-at.invariant in
    let same : length c.args.names.now ≡ length c.args.plans.now = search rules in
    let begins = c.in_ok-at.ensures.reads in
    let within = index_within c.args.names.now begins.0 c.in_ok-at.at (length c.args.plans.now) begins.1 same in
    let f = rw c.if-not-branch.false at c.in_ok-goes_on.ensures.found in
    let read = member_of c.args.depth c.args.names.now c.args.plans.now c.loop-at.next c.in_ok-next.next c.in_ok-at.at c.loop-at.reader c.read_name.new.reader c.push_field.new.reader c.loop-at.out.items c.push_field.new.out.items c.requires.distinct within begins c.in_ok-next.ensures.ok in
    record {
      next = c.in_ok-next.ensures.next;
      forward = omega (arith, c.in_ok-goes_on.ensures.forward, c.push_field.ensures.forward, c.in_ok-at.ensures.forward, i.forward);
      reads = members_next c.args.depth c.loop-at.next c.in_ok-next.next c.args.names.now c.args.plans.now c.args.reader.now c.loop-at.reader c.push_field.new.reader c.goes_on.new.reader c.args.out.now.items c.loop-at.out.items c.push_field.new.out.items i.reads (omega (arith, c.push_field.ensures.forward, c.in_ok-at.ensures.forward)) read f;
    }

pub push_field-push_value-requires : goal.push_field-push_value-requires
push_field-push_value-requires t c =
    let i = c.in-Some.i in
    let ns = c.args.plans.now in
    let plan = c.index-plans-i.result in
    let lt : i < length ns = rw c.in-Some.is at c.requires.within in
    let m = at_most the_size ns i plan lt in
    let d = c.decreases in
    let q = ap the_size c.index-plans-i.is in
    omega arith

pub push_field-returns-in_ok-push_value-in-Some-clause-ok : goal.push_field-returns-in_ok-push_value-in-Some-clause-ok
push_field-returns-in_ok-push_value-in-Some-clause-ok t c =
    field_read c.args.depth c.args.at c.args.plans.now c.args.next c.in-Some.i c.index-plans-i.result c.args.reader.now c.push_value.new.reader c.args.out.now.items c.push_nulls.new.out.items c.push_value.new.out.items c.in-Some.is c.index-plans-i.is c.in_ok-push_nulls-in-Some.ensures c.in_ok-push_value-in-Some.ensures.ok

pub push_field-returns-in_ok-skip_value-in-None-clause-ok : goal.push_field-returns-in_ok-skip_value-in-None-clause-ok
push_field-returns-in_ok-skip_value-in-None-clause-ok t c =
    let r = c.in_ok-skip_value-in-None.ensures.reads in
    field_passed c.args.depth c.args.at c.args.plans.now c.args.next c.args.reader.now c.skip_value.new.reader c.args.out.now.items r.0 c.in-None.is r.1
