use Rattle.std.proofs.Common.{◌≡◌, ◌∙◌, ◌-◌, ◌+◌, suc, ◌≤◌, List as ListOf, length, map, get_or, refl, sym, ap, subst, arith, rules, true, false, Bool, pos, w64}
use mir.Val.{SFits}
use Rattle.std.proofs.lemmas.Int.{to_z-of_z}
use Rattle.avro_decode.proofs.Signed.{block_none, block_positive_as, block_negative_as}
use Rattle.std.proofs.Common.{add-one, Some}
use denote.Param.Weighed.{at_most}
use Rattle.avro_schema.proofs.schema.AvroField.TheLaws.{the_size as field_size}
use Rattle.avro_schema.proofs.schema.Schema.TheLaws.{the_size}
use Rattle.avro_decode.proofs.Fields.{shapes_length}
use Rattle.avro_decode.proofs.Members.{has_kind, has_flat_kind, no_list, list_grown, list_spare_below, record_kind, union_suits, union_reach, union_grows, union_spare, union_gives, union_size, record_suits, record_is_tight, record_reaches, record_grown, record_spare_below, record_given}
use Rattle.avro_schema.specs.declared.schema.Schema.TheViews.{the_lemmas}
use Rattle.arrow_builders.specs.declared.array.MutableArray.TheViews.{the_lemmas as builder_lemmas}
use Rattle.std.proofs.lemmas.List.{length-map, get_or_default}
use Rattle.std.proofs.lemmas.Result.{err_from_is_err_and}
use Rattle.std.proofs.Math.Seq.{map-set_same}
use Rattle.arrow_builders.specs.MutableArrays.{builder_slots, nodes}
use Rattle.arrow_builders.specs.Nested.{lists_node, marks_node}
use Rattle.arrow_builders.specs.Nodes.{Takes}
use Rattle.arrow_builders.specs.Shapes.{shape}
use Rattle.arrow_builders.specs.declared.array.MutableArray.{MutableArray, List, LargeList, Struct}
use Rattle.avro_reference.specs.Read.{push_one, read}
use Rattle.avro_schema.specs.declared.schema.Schema.{Array}
use Rattle.avro_decode.specs.Masks.{mask}
use Rattle.avro_decode.specs.Growth.{Grows, AllOffsetsReach, HaveSpare, ChildrenGrow}
use Rattle.avro_decode.specs.Suits.{Suits}
use Rattle.arrow_builders.specs.Tight.{IsTight}
use Rattle.avro_reference.proofs.Counting.{not_longer, forward_more, forward_none, moves_within, kept_then, kept_none}
use Rattle.avro_decode.proofs.Fields.{suit_length, suit_at, suit_same, part_at, part_next, part_all, children_none, children_then, children_set, reach_at, children_reach, spare_at, children_spare, record_reach, record_spare, record_grows, fields_begun, field_step, field_fault, fields_ended, push_length, record_fails}
use Rattle.avro_decode.proofs.Going.{offsets_on, offsets_then, offsets_less, list_suits, large_list_suits, item_reach, large_item_reach, items_counted, large_items_counted, list_spare, list_grows, array_fails, list_order, list_gives}
use Rattle.avro_decode.proofs.Keeping.{keeps_none, keeps_number, keeps_unread, keeps_fault, keeps_then, keeps_behind}
use Rattle.avro_decode.proofs.Nodes.{grows_wider, grows_fewer, spare_fewer}
use Rattle.avro_decode.proofs.Members.{null_gives, no_index, suits_first, suits_second, second_gives, shorter_by, null_tight, record_tight, pushed_tight, record_gives}
use Rattle.avro_reference.specs.Costs.{passed}
use Rattle.avro_flat.proofs.Pushes.{takes_none}
use Rattle.avro_flat.proofs.Items.{items-done, items-next, items-err}
use Rattle.avro_decode.proofs.Reading.{blocks-next, blocks-end, blocks-no_count, blocks-bad}
use Rattle.arrow_builders.proofs.Rows.{shape_same}
use Rattle.avro_decode.proofs.Suited.{mask_fewer, null_grows, null_fits}
use Rattle.avro_decode.proofs.Pairs.{pair_gives, pair_bad, first_no_union, second_no_union}
use Rattle.avro_skip.proofs.Unions.{two_of, members_size}
use Rattle.avro_skip.proofs.Signed.{is_zero, not_is, not_as}
use Rattle.avro_decode.proofs.decode.+decode.Goals as goal

-- ---- arrays

pub decode_array-decode_blocks-requires : goal.decode_array-decode_blocks-requires
decode_array-decode_blocks-requires g t c κs within =
    let v = c.mut_values.ensures.value in
    let d = c.decreases in
    (omega arith, (within.0, (within.1, (rw v (list_suits c.args.item.now c.args.lists.now c.requires.suits), (rw v c.requires.tight.1, rw v (item_reach c.args.item.now _ (lists_node c.args.lists.now.lists) c.args.lists.now.values.value c.requires.offsets))))))

pub decode_array-returns-in_err-decode_blocks-clause-keeps : goal.decode_array-returns-in_err-decode_blocks-clause-keeps
decode_array-returns-in_err-decode_blocks-clause-keeps g t c =
    let v = c.mut_values.ensures.value in
    let e = c.in_err-decode_blocks.ensures.keeps in
    let p = err_from_is_err_and c.from_residual.result c.from_residual.ensures.1 in
    rw (p.1, p.2) (record {
      same_shape = search rules;
      tight = tt;
      grows = list_grows c.args.item.now 0 _ _ _ _ _ (takes_none 0 0 _) (omega arith) (rw v at e.grows);
      has_capacity = λ h. e.has_capacity (rw v (list_spare c.args.item.now _ _ _ h).1);
      same = e.same;
      moves = e.moves;
      costs = tt;
    })

pub decode_array-returns-in_err-decode_blocks-clause-reads : goal.decode_array-returns-in_err-decode_blocks-clause-reads
decode_array-returns-in_err-decode_blocks-clause-reads g t c =
    let p = err_from_is_err_and c.from_residual.result c.from_residual.ensures.1 in
    rw (p.1, p.2) (array_fails _ c.args.item.now _ _ _ c.in_err-decode_blocks.ensures.reads)

pub decode_array-pushed_list-requires-clause-order : goal.decode_array-pushed_list-requires-clause-order
decode_array-pushed_list-requires-clause-order g t c =
    list_order _ (builder_slots c.args.lists.now.values.value) _ _ _ _ c.requires.tight.0 (rw c.mut_values.ensures.value at c.in_ok-decode_blocks.ensures.reads)

pub decode_array-pushed_list-requires-clause-reach : goal.decode_array-pushed_list-requires-clause-reach
decode_array-pushed_list-requires-clause-reach g t c =
    let e = c.in_ok-decode_blocks.ensures in
    items_counted false c.args.item.now _ _ c.args.lists.now.values.value c.decode_blocks.new.child (lists_node c.args.lists.now.lists) e.keeps.moves.forward (rw c.mut_values.ensures.value at e.keeps.grows) c.requires.offsets

pub decode_array-returns-clause-keeps : goal.decode_array-returns-clause-keeps
decode_array-returns-clause-keeps g t c =
    let e = c.in_ok-decode_blocks.ensures in
    let k = e.keeps in
    let s = e.shorter in
    record {
      same_shape = search rules;
      tight = search rules;
      grows = list_grows c.args.item.now 1 _ _ _ _ _ c.pushed_list.ensures.takes (omega (arith, s)) (subst (λ (b : MutableArray). Grows (mask false c.args.item.now) (passed (g.C.ByteReader.rest c.args.cursor.now) (g.C.ByteReader.rest c.decode_blocks.new.cursor)) (nodes c.args.lists.now.values.value) (nodes b)) (sym (ap (λ v. v.value) c.pushed_list.ensures.values)) (rw c.mut_values.ensures.value at k.grows));
      has_capacity = search rules;
      same = k.same;
      moves = k.moves;
      costs = search rules;
    }

pub decode_array-returns-clause-reads : goal.decode_array-returns-clause-reads
decode_array-returns-clause-reads g t c =
    list_gives c.pushed_list.result c.args.item.now (builder_slots c.args.lists.now.values.value) (builder_slots c.decode_blocks.new.child) _ _ _ c.args.lists.now.lists.lens _ _ c.requires.tight.0 (rw c.mut_values.ensures.value at c.in_ok-decode_blocks.ensures.reads) refl refl c.pushed_list.ensures.ok c.pushed_list.ensures.err

-- ---- arrays of large lists

pub decode_large_array-decode_blocks-requires : goal.decode_large_array-decode_blocks-requires
decode_large_array-decode_blocks-requires g t c κs within =
    let v = c.mut_values.ensures.value in
    let d = c.decreases in
    (omega arith, (within.0, (within.1, (rw v (large_list_suits c.args.item.now c.args.lists.now c.requires.suits), (rw v c.requires.tight.1, rw v (large_item_reach c.args.item.now _ (lists_node c.args.lists.now.lists) c.args.lists.now.values.value c.requires.offsets))))))

pub decode_large_array-returns-in_err-decode_blocks-clause-keeps : goal.decode_large_array-returns-in_err-decode_blocks-clause-keeps
decode_large_array-returns-in_err-decode_blocks-clause-keeps g t c =
    let v = c.mut_values.ensures.value in
    let e = c.in_err-decode_blocks.ensures.keeps in
    let p = err_from_is_err_and c.from_residual.result c.from_residual.ensures.1 in
    rw (p.1, p.2) (record {
      same_shape = search rules;
      tight = tt;
      grows = list_grows c.args.item.now 0 _ _ _ _ _ (takes_none 0 0 _) (omega arith) (rw v at e.grows);
      has_capacity = λ h. e.has_capacity (rw v (list_spare c.args.item.now _ _ _ h).1);
      same = e.same;
      moves = e.moves;
      costs = tt;
    })

pub decode_large_array-returns-in_err-decode_blocks-clause-reads : goal.decode_large_array-returns-in_err-decode_blocks-clause-reads
decode_large_array-returns-in_err-decode_blocks-clause-reads g t c =
    let p = err_from_is_err_and c.from_residual.result c.from_residual.ensures.1 in
    rw (p.1, p.2) (array_fails _ c.args.item.now _ _ _ c.in_err-decode_blocks.ensures.reads)

pub decode_large_array-pushed_large_list-requires-clause-order : goal.decode_large_array-pushed_large_list-requires-clause-order
decode_large_array-pushed_large_list-requires-clause-order g t c =
    list_order _ (builder_slots c.args.lists.now.values.value) _ _ _ _ c.requires.tight.0 (rw c.mut_values.ensures.value at c.in_ok-decode_blocks.ensures.reads)

pub decode_large_array-pushed_large_list-requires-clause-reach : goal.decode_large_array-pushed_large_list-requires-clause-reach
decode_large_array-pushed_large_list-requires-clause-reach g t c =
    let e = c.in_ok-decode_blocks.ensures in
    large_items_counted c.args.item.now _ _ c.args.lists.now.values.value c.decode_blocks.new.child (lists_node c.args.lists.now.lists) e.keeps.moves.forward (rw c.mut_values.ensures.value at e.keeps.grows) c.requires.offsets

pub decode_large_array-returns-clause-keeps : goal.decode_large_array-returns-clause-keeps
decode_large_array-returns-clause-keeps g t c =
    let e = c.in_ok-decode_blocks.ensures in
    let k = e.keeps in
    let s = e.shorter in
    record {
      same_shape = search rules;
      tight = search rules;
      grows = list_grows c.args.item.now 1 _ _ _ _ _ c.pushed_large_list.ensures.takes (omega (arith, s)) (subst (λ (b : MutableArray). Grows (mask false c.args.item.now) (passed (g.C.ByteReader.rest c.args.cursor.now) (g.C.ByteReader.rest c.decode_blocks.new.cursor)) (nodes c.args.lists.now.values.value) (nodes b)) (sym (ap (λ v. v.value) c.pushed_large_list.ensures.values)) (rw c.mut_values.ensures.value at k.grows));
      has_capacity = search rules;
      same = k.same;
      moves = k.moves;
      costs = search rules;
    }

pub decode_large_array-returns-clause-reads : goal.decode_large_array-returns-clause-reads
decode_large_array-returns-clause-reads g t c =
    list_gives c.pushed_large_list.result c.args.item.now (builder_slots c.args.lists.now.values.value) (builder_slots c.decode_blocks.new.child) _ _ _ c.args.lists.now.lists.lens _ _ c.requires.tight.0 (rw c.mut_values.ensures.value at c.in_ok-decode_blocks.ensures.reads) refl refl c.pushed_large_list.ensures.ok c.pushed_large_list.ensures.err

-- ---- blocks

pub decode_block_items-returns-in_default-clause-keeps : goal.decode_block_items-returns-in_default-clause-keeps
decode_block_items-returns-in_default-clause-keeps g t c = keeps_unread refl (search rules) tt

pub decode_block_items-returns-in_default-clause-reads : goal.decode_block_items-returns-in_default-clause-reads
decode_block_items-returns-in_default-clause-reads g t c =
    let r = to_z-of_z w64 c.args.count c.ranges.count in
    let a = rw r at c.in_default.ensures in
    let b = rw r at c.if-count-gt0.false in
    block_none _ _ _ c.args.count c.requires.some b a

pub decode_block_items-returns-then-count-gt0-clause-reads : goal.decode_block_items-returns-then-count-gt0-clause-reads
decode_block_items-returns-then-count-gt0-clause-reads g t c =
    let r = to_z-of_z w64 c.args.count c.ranges.count in
    let b = rw r at c.if-count-gt0.true in
    block_positive_as _ c.decode_items.result _ _ _ c.args.count _ c.ranges.count b (search (rules, to_z-of_z)) c.decode_items.ensures.reads

pub decode_block_items-returns-in-Some-clause-reads : goal.decode_block_items-returns-in-Some-clause-reads
decode_block_items-returns-in-Some-clause-reads g t c =
    let r = to_z-of_z w64 c.args.count c.ranges.count in
    let e = c.in-Some.ensures in
    let a : SFits w64 c.in-Some.items = rw e.1 e.0 in
    let b = rw r at c.if-count-gt0.false in
    block_negative_as _ c.decode_sized.result _ _ _ c.args.count c.in-Some.items _ c.requires.some b a (rw r at e.1) (search (rules, to_z-of_z)) c.decode_sized.ensures.reads

pub decode_blocks-returns-in_default-clause-keeps : goal.decode_blocks-returns-in_default-clause-keeps
decode_blocks-returns-in_default-clause-keeps g t c =
    keeps_then c.loop-count.invariant.keeps (keeps_unread c.number.ensures.same c.number.ensures.moves tt)

pub decode_blocks-returns-in_default-clause-reads : goal.decode_blocks-returns-in_default-clause-reads
decode_blocks-returns-in_default-clause-reads g t c =
    let inv = c.loop-count.invariant in
    blocks-no_count _ inv.reads.0 _ _ _ c.in_default.ensures.reads inv.reads.2

pub decode_blocks-returns-then-count-eq0-clause-keeps : goal.decode_blocks-returns-then-count-eq0-clause-keeps
decode_blocks-returns-then-count-eq0-clause-keeps g t c =
    let inv = c.loop-count.invariant in
    let n = c.in-Some.ensures in
    keeps_then inv.keeps (keeps_number n.same n.moves n.costs inv.keeps.tight)

pub decode_blocks-returns-then-count-eq0-clause-reads : goal.decode_blocks-returns-then-count-eq0-clause-reads
decode_blocks-returns-then-count-eq0-clause-reads g t c =
    let inv = c.loop-count.invariant in
    let s : SFits w64 c.in-Some.count = search rules in
    blocks-end _ inv.reads.0 _ _ _ _ _ inv.reads.1 c.in-Some.ensures.reads (is_zero c.in-Some.count s c.if-count-eq0.true) inv.reads.2

pub decode_blocks-decode_block_items-requires : goal.decode_blocks-decode_block_items-requires
decode_blocks-decode_block_items-requires g t c κs within =
    let inv = c.loop-count.invariant in
    let k = inv.keeps in
    let d = c.decreases in
    let i = c.args.item.now in
    let s : SFits w64 c.in-Some.count = search rules in
    (omega arith, (within.0, (within.1, (not_as c.in-Some.count (pos 0) s c.if-count-eq0.false, (subst (Suits i) (sym k.same_shape) c.requires.suits, (k.tight, offsets_then i _ _ _ c.args.child.now c.loop-count.child k.same_shape k.moves.forward c.in-Some.ensures.moves.forward k.grows c.requires.offsets))))))

pub decode_blocks-loop-count-init : goal.decode_blocks-loop-count-init
decode_blocks-loop-count-init g t c = record { keeps = keeps_none c.requires.tight; reads = search rules }

pub decode_blocks-loop-count-preserved : goal.decode_blocks-loop-count-preserved
decode_blocks-loop-count-preserved g t c =
    let inv = c.loop-count.invariant in
    let n = c.in-Some.ensures in
    let e = c.in_ok-decode_block_items.ensures in
    let l = not_longer _ _ e.keeps.moves.forward in
    let s = n.costs.shorter in
    let w : SFits w64 c.in-Some.count = search rules in
    record {
      keeps = keeps_then inv.keeps (keeps_then (keeps_number n.same n.moves n.costs inv.keeps.tight) e.keeps);
      reads = blocks-next _ inv.reads.0 _ _ _ _ _ _ _ inv.reads.1 (omega (arith, l, s)) n.reads (not_is c.in-Some.count (pos 0) c.if-count-eq0.false) (rw (to_z-of_z w64 c.in-Some.count w) at e.reads) inv.reads.2;
    }

pub decode_blocks-returns-in_err-decode_block_items-clause-keeps : goal.decode_blocks-returns-in_err-decode_block_items-clause-keeps
decode_blocks-returns-in_err-decode_block_items-clause-keeps g t c =
    let inv = c.loop-count.invariant in
    let n = c.in-Some.ensures in
    let p = err_from_is_err_and c.from_residual.result c.from_residual.ensures.1 in
    rw (p.1, p.2) (keeps_then inv.keeps (keeps_then (keeps_number n.same n.moves n.costs inv.keeps.tight) c.in_err-decode_block_items.ensures.keeps))

pub decode_blocks-returns-in_err-decode_block_items-clause-reads : goal.decode_blocks-returns-in_err-decode_block_items-clause-reads
decode_blocks-returns-in_err-decode_block_items-clause-reads g t c =
    let inv = c.loop-count.invariant in
    let p = err_from_is_err_and c.from_residual.result c.from_residual.ensures.1 in
    let w : SFits w64 c.in-Some.count = search rules in
    rw (p.1, p.2) (blocks-bad _ _ inv.reads.0 _ _ _ _ _ c.in-Some.ensures.reads (not_is c.in-Some.count (pos 0) c.if-count-eq0.false) (rw (to_z-of_z w64 c.in-Some.count w) at c.in_err-decode_block_items.ensures.reads) inv.reads.2)

-- ---- fields

pub decode_fields-loop-i-init : goal.decode_fields-loop-i-init
decode_fields-loop-i-init g t c =
    record {
      same = refl;
      marks = refl;
      shapes = refl;
      tight = c.requires.tight;
      forward = forward_none _;
      shorter = omega arith;
      grows = children_none _ _ _ (suit_length _ _ c.requires.suits);
      costs = kept_none _ _ _ _;
      reads = fields_begun _ _ _;
    }

pub decode_fields-mut_values-requires : goal.decode_fields-mut_values-requires
decode_fields-mut_values-requires g t c =
    let n = shapes_length _ _ c.loop-i.invariant.shapes in
    let s = suit_length _ _ c.requires.suits in
    let v = c.loop-i.records.values.ok in
    omega (arith, s, n, v.0, c.loop-i-test.true)

pub decode_fields-decode_value-requires : goal.decode_fields-decode_value-requires
decode_fields-decode_value-requires g t c κs within =
    let inv = c.loop-i.invariant in
    let v = c.mut_values.ensures.value in
    let i = c.loop-i.i in
    let fs = c.args.fields.now in
    let bs = c.loop-i.records.values.items in
    let f = c.index-fields-i.result in
    let b = c.mut_values.result.now in
    let us = suit_same fs _ bs inv.shapes c.requires.suits in
    let n = suit_length fs bs us in
    let lt = c.loop-i-test.true in
    let m = at_most field_size fs i f lt in
    let q : the_size (get_or fs i f).schema ≤ field_size (get_or fs i f) = search (rules, the_lemmas) in
    let d = c.decreases in
    let suits = subst (λ (x : MutableArray). Suits (get_or fs i f).schema (shape x)) (sym v) (suit_at fs bs i f b lt us) in
    let tight = subst IsTight (sym v) (part_at _ i bs b inv.tight (omega (arith, n, lt))).1 in
    let reach = subst (λ (x : MutableArray). AllOffsetsReach (mask true (get_or fs i f).schema) (length (g.C.ByteReader.rest c.loop-i.cursor)) x) (sym v) (reach_at _ fs bs i f b n lt (children_reach _ _ fs _ bs inv.shapes inv.forward inv.grows.each c.requires.offsets)) in
    (omega arith, (within.0, (within.1, (has_kind (get_or fs i f).schema b suits, (suits, (tight, reach))))))

pub decode_fields-returns-in_err-decode_value-clause-shapes : goal.decode_fields-returns-in_err-decode_value-clause-shapes
decode_fields-returns-in_err-decode_value-clause-shapes g t c =
    let v = c.mut_values.ensures.value in
    map-set_same shape c.loop-i.records.values.items c.loop-i.i c.decode_value.new.builder c.mut_values.result.now (c.in_err-decode_value.ensures.keeps.same_shape ∙ ap shape v) ∙ c.loop-i.invariant.shapes

pub decode_fields-returns-in_err-decode_value-clause-grows : goal.decode_fields-returns-in_err-decode_value-clause-grows
decode_fields-returns-in_err-decode_value-clause-grows g t c =
    let inv = c.loop-i.invariant in
    let v = c.mut_values.ensures.value in
    let i = c.loop-i.i in
    let fs = c.args.fields.now in
    let bs = c.loop-i.records.values.items in
    let f = c.index-fields-i.result in
    let b = c.mut_values.result.now in
    let us = suit_same fs _ bs inv.shapes c.requires.suits in
    let n = suit_length fs bs us in
    let lt = c.loop-i-test.true in
    let e = c.in_err-decode_value.ensures.keeps in
    let one : Grows (mask false (get_or fs i f).schema) (passed (g.C.ByteReader.rest c.loop-i.cursor) (g.C.ByteReader.rest c.decode_value.new.cursor)) (nodes (get_or bs i b)) (nodes c.decode_value.new.builder) =
    subst (λ (x : MutableArray). Grows (mask false (get_or fs i f).schema) (passed (g.C.ByteReader.rest c.loop-i.cursor) (g.C.ByteReader.rest c.decode_value.new.cursor)) (nodes x) (nodes c.decode_value.new.builder)) v e.grows in
    children_then _ _ _ fs _ bs _ inv.forward e.moves.forward inv.grows (children_set _ fs bs i f b c.decode_value.new.builder n lt one)

pub decode_fields-returns-in_err-decode_value-clause-has_capacity : goal.decode_fields-returns-in_err-decode_value-clause-has_capacity
decode_fields-returns-in_err-decode_value-clause-has_capacity g t c = λ h.
    let inv = c.loop-i.invariant in
    let v = c.mut_values.ensures.value in
    let i = c.loop-i.i in
    let fs = c.args.fields.now in
    let bs = c.loop-i.records.values.items in
    let f = c.index-fields-i.result in
    let b = c.mut_values.result.now in
    let us = suit_same fs _ bs inv.shapes c.requires.suits in
    let n = suit_length fs bs us in
    let lt = c.loop-i-test.true in
    let p = err_from_is_err_and c.from_residual.result c.from_residual.ensures.1 in
    let spare = subst (λ (x : MutableArray). HaveSpare (mask false (get_or fs i f).schema) (length (g.C.ByteReader.rest c.loop-i.cursor)) (nodes x)) (sym v) (spare_at _ fs bs i f b n lt (children_spare _ _ fs _ bs inv.forward inv.grows.each h)) in
    rw (p.1, p.2) (c.in_err-decode_value.ensures.keeps.has_capacity spare)

pub decode_fields-returns-in_err-decode_value-clause-moves : goal.decode_fields-returns-in_err-decode_value-clause-moves
decode_fields-returns-in_err-decode_value-clause-moves g t c =
    let inv = c.loop-i.invariant in
    moves_within _ _ _ _ _ _ _ _ inv.costs inv.forward c.in_err-decode_value.ensures.keeps.moves

pub decode_fields-returns-in_err-decode_value-clause-reads : goal.decode_fields-returns-in_err-decode_value-clause-reads
decode_fields-returns-in_err-decode_value-clause-reads g t c =
    let inv = c.loop-i.invariant in
    let v = c.mut_values.ensures.value in
    let i = c.loop-i.i in
    let fs = c.args.fields.now in
    let bs = c.loop-i.records.values.items in
    let f = c.index-fields-i.result in
    let b = c.mut_values.result.now in
    let us = suit_same fs _ bs inv.shapes c.requires.suits in
    let n = suit_length fs bs us in
    let lt = c.loop-i-test.true in
    let p = err_from_is_err_and c.from_residual.result c.from_residual.ensures.1 in
    rw (p.1, p.2) (field_fault fs i (get_or fs i f) lt (get_or_default fs i f (get_or fs i f) lt) _ _ _ _ _ _ inv.reads c.in_err-decode_value.ensures.reads)

pub decode_fields-loop-i-preserved : goal.decode_fields-loop-i-preserved
decode_fields-loop-i-preserved g t c =
    let inv = c.loop-i.invariant in
    let v = c.mut_values.ensures.value in
    let i = c.loop-i.i in
    let fs = c.args.fields.now in
    let bs = c.loop-i.records.values.items in
    let f = c.index-fields-i.result in
    let b = c.mut_values.result.now in
    let us = suit_same fs _ bs inv.shapes c.requires.suits in
    let n = suit_length fs bs us in
    let lt = c.loop-i-test.true in
    let e = c.in_ok-decode_value.ensures in
    let kept = e.keeps in
    let one : Grows (mask false (get_or fs i f).schema) (passed (g.C.ByteReader.rest c.loop-i.cursor) (g.C.ByteReader.rest c.decode_value.new.cursor)) (nodes (get_or bs i b)) (nodes c.decode_value.new.builder) =
    subst (λ (x : MutableArray). Grows (mask false (get_or fs i f).schema) (passed (g.C.ByteReader.rest c.loop-i.cursor) (g.C.ByteReader.rest c.decode_value.new.cursor)) (nodes x) (nodes c.decode_value.new.builder)) v kept.grows in
    let k = length-map c.args.records.now.values.items builder_slots in
    let s = suit_length fs _ c.requires.suits in
    let r = subst (λ (x : MutableArray). push_one (builder_slots x) (read (get_or fs i f).schema (g.C.ByteReader.rest c.loop-i.cursor)) ≡ Some (builder_slots c.decode_value.new.builder, g.C.ByteReader.rest c.decode_value.new.cursor)) v e.reads in
    let l = push_length _ _ _ _ r in
    let t = part_at _ i bs b inv.tight (omega (arith, n, lt)) in
    let after = part_next _ i bs c.decode_value.new.builder inv.tight (omega (arith, n, lt)) (omega (arith, l, t.0)) kept.tight in
    record {
      same = kept.same ∙ inv.same;
      marks = inv.marks;
      shapes = map-set_same shape bs i c.decode_value.new.builder b (kept.same_shape ∙ ap shape v) ∙ inv.shapes;
      tight = rw (add-one i) after;
      forward = forward_more _ _ _ inv.forward kept.moves.forward;
      shorter = omega (arith, e.shorter, inv.shorter);
      grows = children_then _ _ _ fs _ bs _ inv.forward kept.moves.forward inv.grows (children_set _ fs bs i f b c.decode_value.new.builder n lt one);
      costs = kept_then _ _ _ _ _ _ inv.forward kept.moves.forward inv.costs kept.costs;
      reads = field_step fs i (get_or fs i f) lt (get_or_default fs i f (get_or fs i f) lt) bs b c.decode_value.new.builder _ _ _ _ (omega (arith, n, lt)) (omega (arith, k, s, n)) inv.reads r;
    }

pub decode_fields-returns-clause-tight : goal.decode_fields-returns-clause-tight
decode_fields-returns-clause-tight g t c =
    let inv = c.loop-i.invariant in
    let s = suit_length _ _ c.requires.suits in
    let a = ap length inv.shapes in
    let l = length-map c.loop-i.records.values.items shape in
    let k = length-map c.args.records.now.values.items shape in
    part_all _ c.loop-i.i _ (omega (arith, s, a, l, k)) inv.tight

pub decode_fields-returns-clause-reads : goal.decode_fields-returns-clause-reads
decode_fields-returns-clause-reads g t c =
    let inv = c.loop-i.invariant in
    let s = suit_length _ _ c.requires.suits in
    let k = length-map c.args.records.now.values.items builder_slots in
    fields_ended _ c.loop-i.i _ _ _ _ (omega arith) (omega (arith, s, k)) (omega (arith, s, k)) inv.reads

-- ---- items

pub decode_nested_items-decode_value-requires : goal.decode_nested_items-decode_value-requires
decode_nested_items-decode_value-requires g t c κs within =
    let k = c.loop.invariant.keeps in
    let d = c.decreases in
    let i = c.args.item.now in
    (omega arith, (within.0, (within.1, (has_kind i c.loop.child (subst (Suits i) (sym k.same_shape) c.requires.suits), (subst (Suits i) (sym k.same_shape) c.requires.suits, (k.tight, offsets_on i _ _ c.args.child.now c.loop.child k.same_shape k.moves.forward k.grows c.requires.offsets))))))

pub decode_nested_items-returns-in_err-decode_value-clause-keeps : goal.decode_nested_items-returns-in_err-decode_value-clause-keeps
decode_nested_items-returns-in_err-decode_value-clause-keeps g t c =
    let p = err_from_is_err_and c.from_residual.result c.from_residual.ensures.1 in
    rw (p.1, p.2) (keeps_then c.loop.invariant.keeps c.in_err-decode_value.ensures.keeps)

pub decode_nested_items-returns-in_err-decode_value-clause-reads : goal.decode_nested_items-returns-in_err-decode_value-clause-reads
decode_nested_items-returns-in_err-decode_value-clause-reads g t c =
    let p = err_from_is_err_and c.from_residual.result c.from_residual.ensures.1 in
    let s : c.args.count - c.loop.counter ≡ suc (c.args.count - (c.loop.counter + 1)) = omega arith in
    rw (p.1, p.2) (items-err _ _ _ _ _ _ _ s c.in_err-decode_value.ensures.reads c.loop.invariant.reads)

pub decode_nested_items-loop-init : goal.decode_nested_items-loop-init
decode_nested_items-loop-init g t c = record { keeps = keeps_none c.requires.tight; reads = search rules }

pub decode_nested_items-loop-preserved : goal.decode_nested_items-loop-preserved
decode_nested_items-loop-preserved g t c =
    let inv = c.loop.invariant in
    let e = c.in_ok-decode_value.ensures in
    let s : c.args.count - c.loop.counter ≡ suc (c.args.count - (c.loop.counter + 1)) = omega arith in
    record {
      keeps = keeps_then inv.keeps e.keeps;
      reads = items-next _ _ _ _ _ _ _ _ s e.reads inv.reads;
    }

pub decode_nested_items-returns-clause-keeps : goal.decode_nested_items-returns-clause-keeps
decode_nested_items-returns-clause-keeps g t c = c.loop.invariant.keeps

pub decode_nested_items-returns-clause-reads : goal.decode_nested_items-returns-clause-reads
decode_nested_items-returns-clause-reads g t c =
    items-done _ (c.args.count - c.loop.counter) _ _ _ (omega arith) c.loop.invariant.reads

-- ---- members

pub decode_member-decode_no_union-requires : goal.decode_member-decode_no_union-requires
decode_member-decode_no_union-requires g t c κs within =
    let d = c.decreases in
    (omega arith, (within.0, (within.1, (c.requires.no_union, (has_kind c.args.schema.now c.args.builder.now c.requires.suits, (c.requires.suits, (c.requires.tight, offsets_less _ _ _ c.args.builder.now (omega arith) c.requires.offsets)))))))

pub decode_member-returns-then-null-clause-keeps : goal.decode_member-returns-then-null-clause-keeps
decode_member-returns-then-null-clause-keeps g t c =
    record {
      same_shape = search rules;
      tight = null_tight c.pushed.result c.push_null.result _ _ c.pushed.ensures.ok c.push_null.ensures.tight c.requires.tight;
      grows = null_grows _ c.args.schema.now c.args.builder.now _ c.requires.suits c.push_null.ensures.takes;
      has_capacity = λ h. c.pushed.ensures.answered (c.push_null.ensures.has_capacity (null_fits _ c.args.schema.now c.args.builder.now c.requires.suits h));
      same = refl;
      moves = search rules;
      costs = search rules;
    }

pub decode_member-returns-then-null-clause-reads : goal.decode_member-returns-then-null-clause-reads
decode_member-returns-then-null-clause-reads g t c =
    null_gives c.pushed.result c.push_null.result c.args.null c.args.schema.now (builder_slots c.args.builder.now) (builder_slots c.push_null.new.self) (g.C.ByteReader.rest c.args.cursor.now) c.if-null.true c.pushed.ensures.ok c.pushed.ensures.err c.push_null.ensures.ok

pub decode_member-returns-else-null-clause-keeps : goal.decode_member-returns-else-null-clause-keeps
decode_member-returns-else-null-clause-keeps g t c =
    let s = c.args.schema.now in
    let e = c.decode_no_union.ensures.keeps in
    record {
      same_shape = e.same_shape;
      tight = e.tight;
      grows = grows_wider _ _ _ _ _ (grows_fewer (mask true s) (mask false s) _ _ _ (mask_fewer s) e.grows) (omega arith);
      has_capacity = λ h. e.has_capacity (spare_fewer (mask true s) (mask false s) _ _ _ (mask_fewer s) (omega arith) h);
      same = e.same;
      moves = e.moves;
      costs = e.costs;
    }

pub decode_pair-returns-in-Some-clause-reads : goal.decode_pair-returns-in-Some-clause-reads
decode_pair-returns-in-Some-clause-reads g t c =
    pair_gives _ c.decode_member.result _ c.args.index c.args.null_first c.in-Some.null c.args.schema.now _ (sym (rw (to_z-of_z w64 c.args.index c.ranges.index) at c.in-Some.ensures)) c.decode_member.ensures.reads

pub decode_pair-returns-in-None-clause-keeps : goal.decode_pair-returns-in-None-clause-keeps
decode_pair-returns-in-None-clause-keeps g t c = keeps_unread refl (search rules) tt

pub decode_pair-returns-in-None-clause-reads : goal.decode_pair-returns-in-None-clause-reads
decode_pair-returns-in-None-clause-reads g t c =
    pair_bad _ c.args.index c.args.null_first c.args.schema.now _ (sym (rw (to_z-of_z w64 c.args.index c.ranges.index) at c.in-None.ensures))

-- ---- records

pub decode_record-decode_fields-requires : goal.decode_record-decode_fields-requires
decode_record-decode_fields-requires g t c κs within =
    let d = c.decreases in
    let b = c.args.records.now in
    (omega arith, (within.0, (within.1, (c.requires.suits, (record_tight b c.requires.tight, record_reach c.args.fields.now b c.requires.suits _ c.requires.offsets)))))

pub decode_record-returns-in_err-decode_fields-clause-keeps : goal.decode_record-returns-in_err-decode_fields-clause-keeps
decode_record-returns-in_err-decode_fields-clause-keeps g t c =
    let e = c.in_err-decode_fields.ensures in
    let b = c.args.records.now in
    let p = err_from_is_err_and c.from_residual.result c.from_residual.ensures.1 in
    rw (p.1, p.2) (record {
      same_shape = shape_same b c.decode_fields.new.records (ap (λ m. m.data_type) e.marks) e.shapes;
      tight = tt;
      grows = record_grows c.args.fields.now b c.requires.suits 0 _ c.decode_fields.new.records e.shapes (subst (λ m. Takes 0 0 (marks_node b.marks) (marks_node m)) (sym e.marks) (takes_none 0 0 (marks_node b.marks))) (omega arith) e.grows;
      has_capacity = λ h. e.has_capacity (record_spare c.args.fields.now b c.requires.suits _ h).1;
      same = e.same;
      moves = e.moves;
      costs = tt;
    })

pub decode_record-returns-in_err-decode_fields-clause-reads : goal.decode_record-returns-in_err-decode_fields-clause-reads
decode_record-returns-in_err-decode_fields-clause-reads g t c =
    let p = err_from_is_err_and c.from_residual.result c.from_residual.ensures.1 in
    rw (p.1, p.2) (record_fails _ c.args.fields.now _ _ c.in_err-decode_fields.ensures.reads)

pub decode_record-returns-clause-keeps : goal.decode_record-returns-clause-keeps
decode_record-returns-clause-keeps g t c =
    let e = c.in_ok-decode_fields.ensures in
    let q = c.try_push_valid.ensures in
    let b = c.args.records.now in
    let x = g.C.ByteReader.rest c.args.cursor.now in
    let y = g.C.ByteReader.rest c.decode_fields.new.cursor in
    let s = e.shorter in
    let some = c.requires.some in
    let k : ChildrenGrow (passed x y) c.args.fields.now b.values.items c.try_push_valid.new.self.values.items = subst (λ v. ChildrenGrow (passed x y) c.args.fields.now b.values.items v.items) (sym q.values) e.grows in
    record {
      same_shape = shape_same b c.try_push_valid.new.self (q.data_type ∙ ap (λ m. m.data_type) e.marks) (ap (λ v. map shape v.items) q.values ∙ e.shapes);
      tight = pushed_tight c.pushed.result c.try_push_valid.result b c.decode_fields.new.records c.try_push_valid.new.self c.pushed.ensures.ok e.marks e.tight q.values q.booleans;
      grows = record_grows c.args.fields.now b c.requires.suits 1 _ c.try_push_valid.new.self (ap (λ v. map shape v.items) q.values ∙ e.shapes) (subst (λ m. Takes 1 0 (marks_node m) (marks_node c.try_push_valid.new.self.marks)) e.marks q.takes) (omega (arith, s, some)) k;
      has_capacity = search rules;
      same = e.same;
      moves = e.moves;
      costs = search rules;
    }

pub decode_record-returns-clause-reads : goal.decode_record-returns-clause-reads
decode_record-returns-clause-reads g t c =
    let e = c.in_ok-decode_fields.ensures in
    record_gives c.pushed.result c.try_push_valid.result c.args.records.now c.decode_fields.new.records c.args.fields.now _ _ _ c.pushed.ensures.ok c.pushed.ensures.err e.marks (record_tight c.args.records.now c.requires.tight) e.reads c.try_push_valid.ensures.ok

-- ---- sized blocks

pub decode_sized-decode_items-requires : goal.decode_sized-decode_items-requires
decode_sized-decode_items-requires g t c κs within =
    let d = c.decreases in
    (omega arith, (within.0, (within.1, (c.requires.suits, (c.requires.tight, offsets_less _ _ _ c.args.child.now (not_longer _ _ c.in-Some.ensures.moves.forward) c.requires.offsets)))))

pub decode_sized-returns-in_err-decode_items-clause-keeps : goal.decode_sized-returns-in_err-decode_items-clause-keeps
decode_sized-returns-in_err-decode_items-clause-keeps g t c =
    let n = c.in-Some.ensures in
    let p = err_from_is_err_and c.from_residual.result c.from_residual.ensures.1 in
    rw (p.1, p.2) (keeps_then (keeps_number n.same n.moves n.costs c.requires.tight) c.in_err-decode_items.ensures.keeps)

pub decode_sized-returns-then-ne-clause-keeps : goal.decode_sized-returns-then-ne-clause-keeps
decode_sized-returns-then-ne-clause-keeps g t c =
    let n = c.in-Some.ensures in
    keeps_fault (keeps_then (keeps_number n.same n.moves n.costs c.requires.tight) c.in_ok-decode_items.ensures.keeps)

pub decode_sized-returns-clause-keeps : goal.decode_sized-returns-clause-keeps
decode_sized-returns-clause-keeps g t c =
    let n = c.in-Some.ensures in
    keeps_then (keeps_number n.same n.moves n.costs c.requires.tight) c.in_ok-decode_items.ensures.keeps

-- ---- unions

pub decode_union-returns-in_default-number-clause-keeps : goal.decode_union-returns-in_default-number-clause-keeps
decode_union-returns-in_default-number-clause-keeps g t c = keeps_unread c.number.ensures.same c.number.ensures.moves tt

pub decode_union-returns-in_default-number-clause-reads : goal.decode_union-returns-in_default-number-clause-reads
decode_union-returns-in_default-number-clause-reads g t c =
    no_index _ _ _ c.in_default-number.ensures.reads

pub decode_union-decode_pair-requires : goal.decode_union-decode_pair-requires
decode_union-decode_pair-requires g t c κs within =
    let ms = c.args.members.now in
    let a = c.first-item.result in
    let b = c.second-item.result in
    let two = two_of ms a b c.in-len2.len_at_least c.in-len2.len_below c.first-item.is c.second-item.is in
    let s = suits_first ms a b _ two (c.is_null.ensures.0 c.if-is_null.true) c.requires.suits in
    let d = c.decreases in
    let m = members_size ms a b two in
    let n = c.in-Some.ensures.costs.shorter in
    let r : AllOffsetsReach (mask true b) (length (g.C.ByteReader.rest c.args.cursor.now)) c.args.builder.now = subst (λ (xs : ListOf Bool). AllOffsetsReach xs (length (g.C.ByteReader.rest c.args.cursor.now)) c.args.builder.now) s.1 c.requires.offsets in
    (omega arith, (within.0, (within.1, (second_no_union ms a b _ two (c.is_null.ensures.0 c.if-is_null.true) c.requires.suits, (s.0, (c.requires.tight, offsets_less (mask true b) _ _ c.args.builder.now (omega (arith, n)) r))))))

pub decode_union-decode_pair-requires-else-is_null : goal.decode_union-decode_pair-requires-else-is_null
decode_union-decode_pair-requires-else-is_null g t c κs within =
    let ms = c.args.members.now in
    let a = c.first-item.result in
    let b = c.second-item.result in
    let two = two_of ms a b c.in-len2.len_at_least c.in-len2.len_below c.first-item.is c.second-item.is in
    let s = suits_second ms a b _ two (λ h. let q : true ≡ false = sym (c.is_null.ensures.1 h) ∙ c.if-is_null.false in absurd cc) c.requires.suits in
    let d = c.decreases in
    let m = members_size ms a b two in
    let n = c.in-Some.ensures.costs.shorter in
    let r : AllOffsetsReach (mask true a) (length (g.C.ByteReader.rest c.args.cursor.now)) c.args.builder.now = subst (λ (xs : ListOf Bool). AllOffsetsReach xs (length (g.C.ByteReader.rest c.args.cursor.now)) c.args.builder.now) s.1 c.requires.offsets in
    (omega arith, (within.0, (within.1, (first_no_union ms a b _ two (λ h. let q : true ≡ false = sym (c.is_null.ensures.1 h) ∙ c.if-is_null.false in absurd cc) c.requires.suits, (s.0, (c.requires.tight, offsets_less (mask true a) _ _ c.args.builder.now (omega (arith, n)) r))))))

pub decode_union-returns-then-is_null-clause-keeps : goal.decode_union-returns-then-is_null-clause-keeps
decode_union-returns-then-is_null-clause-keeps g t c =
    let ms = c.args.members.now in
    let a = c.first-item.result in
    let b = c.second-item.result in
    let two = two_of ms a b c.in-len2.len_at_least c.in-len2.len_below c.first-item.is c.second-item.is in
    let s = suits_first ms a b _ two (c.is_null.ensures.0 c.if-is_null.true) c.requires.suits in
    let n = c.in-Some.ensures in
    keeps_behind (sym s.1) n.same n.moves n.costs c.decode_pair.ensures.keeps

pub decode_union-returns-else-is_null-clause-keeps : goal.decode_union-returns-else-is_null-clause-keeps
decode_union-returns-else-is_null-clause-keeps g t c =
    let ms = c.args.members.now in
    let a = c.first-item.result in
    let b = c.second-item.result in
    let two = two_of ms a b c.in-len2.len_at_least c.in-len2.len_below c.first-item.is c.second-item.is in
    let s = suits_second ms a b _ two (λ h. let q : true ≡ false = sym (c.is_null.ensures.1 h) ∙ c.if-is_null.false in absurd cc) c.requires.suits in
    let n = c.in-Some.ensures in
    keeps_behind (sym s.1) n.same n.moves n.costs c.decode_pair-else-is_null.ensures.keeps

pub decode_union-returns-else-is_null-clause-reads : goal.decode_union-returns-else-is_null-clause-reads
decode_union-returns-else-is_null-clause-reads g t c =
    let ms = c.args.members.now in
    let a = c.first-item.result in
    let b = c.second-item.result in
    let two = two_of ms a b c.in-len2.len_at_least c.in-len2.len_below c.first-item.is c.second-item.is in
    let s = suits_second ms a b _ two (λ h. let q : true ≡ false = sym (c.is_null.ensures.1 h) ∙ c.if-is_null.false in absurd cc) c.requires.suits in
    let w : SFits w64 c.in-Some.index = search rules in
    second_gives _ c.decode_pair-else-is_null.result ms a b _ _ _ c.in-Some.index two c.in-Some.ensures.reads s.2 s.3 (rw (to_z-of_z w64 c.in-Some.index w) at c.decode_pair-else-is_null.ensures.reads)

-- ---- values

pub decode_value-decode_union-requires : goal.decode_value-decode_union-requires
decode_value-decode_union-requires g t c κs within =
    let d = c.decreases in
    let z = union_size c.args.schema.now c.in-Union.members c.as_slice.result.now c.in-Union.is c.as_slice.ensures in
    (omega arith, (within.0, (within.1, (union_suits c.args.schema.now c.in-Union.members c.as_slice.result.now c.in-Union.is c.as_slice.ensures _ c.requires.suits, (c.requires.tight, union_reach c.args.schema.now c.in-Union.members c.as_slice.result.now c.in-Union.is c.as_slice.ensures _ c.args.builder.now c.requires.offsets)))))

pub decode_value-returns-in-Union-clause-keeps : goal.decode_value-returns-in-Union-clause-keeps
decode_value-returns-in-Union-clause-keeps g t c =
    let e = c.decode_union.ensures.keeps in
    record {
      same_shape = e.same_shape;
      tight = e.tight;
      grows = union_grows c.args.schema.now c.in-Union.members c.as_slice.result.now c.in-Union.is c.as_slice.ensures _ _ _ e.grows;
      has_capacity = λ h. e.has_capacity (union_spare c.args.schema.now c.in-Union.members c.as_slice.result.now c.in-Union.is c.as_slice.ensures _ _ h);
      same = e.same;
      moves = e.moves;
      costs = e.costs;
    }

pub decode_value-returns-in-Union-clause-reads : goal.decode_value-returns-in-Union-clause-reads
decode_value-returns-in-Union-clause-reads g t c = union_gives c.args.schema.now c.in-Union.members c.as_slice.result.now c.in-Union.is c.as_slice.ensures _ c.decode_union.result _ _ c.decode_union.ensures.reads

-- ---- values that are no union

pub decode_no_union-decode_record-requires : goal.decode_no_union-decode_record-requires
decode_no_union-decode_record-requires g t c κs within =
    let d = c.decreases in
    let a = record_suits c.args.schema.now c.in-Record.record c.as_slice.result.now c.args.builder.now c.in-Struct.records _ c.in-Record.is c.in-Struct.is c.in-Struct.records-is c.as_slice.ensures c.requires.suits in
    ((let e = ap the_size c.in-Record.is in let a = c.as_slice.ensures in search (rules, the_lemmas)), (within.0, (within.1, (a.0, (a.1, (record_is_tight c.args.schema.now c.in-Record.record c.as_slice.result.now c.args.builder.now c.in-Struct.records _ c.in-Record.is c.in-Struct.is c.in-Struct.records-is c.as_slice.ensures c.requires.tight, record_reaches c.args.schema.now c.in-Record.record c.as_slice.result.now c.args.builder.now c.in-Struct.records _ c.in-Record.is c.in-Struct.is c.in-Struct.records-is c.as_slice.ensures _ c.requires.offsets))))))

pub decode_no_union-returns-in-Struct-clause-keeps : goal.decode_no_union-returns-in-Struct-clause-keeps
decode_no_union-returns-in-Struct-clause-keeps g t c =
    let e = c.decode_record.ensures.keeps in
    let k : Grows (mask false c.args.schema.now) (passed (g.C.ByteReader.rest c.args.cursor.now) (g.C.ByteReader.rest c.decode_record.new.cursor)) (nodes c.args.builder.now) (nodes (Struct c.decode_record.new.records)) = record_grown c.args.schema.now c.in-Record.record c.as_slice.result.now c.args.builder.now c.in-Struct.records _ c.in-Record.is c.in-Struct.is c.in-Struct.records-is c.as_slice.ensures _ _ e.grows in
    record {
      same_shape = search rules;
      tight = search rules;
      grows = search rules;
      has_capacity = λ h. e.has_capacity (record_spare_below c.args.schema.now c.in-Record.record c.as_slice.result.now c.args.builder.now c.in-Struct.records _ c.in-Record.is c.in-Struct.is c.in-Struct.records-is c.as_slice.ensures _ h);
      same = e.same;
      moves = e.moves;
      costs = e.costs;
    }

pub decode_no_union-returns-in-Struct-clause-reads : goal.decode_no_union-returns-in-Struct-clause-reads
decode_no_union-returns-in-Struct-clause-reads g t c =
    let k = record_given c.args.schema.now c.in-Record.record c.as_slice.result.now c.args.builder.now c.in-Struct.records _ c.in-Record.is c.in-Struct.is c.in-Struct.records-is c.as_slice.ensures {X = Unit {0}} (λ _. (builder_slots (Struct c.decode_record.new.records), g.C.ByteReader.rest c.decode_record.new.cursor)) c.decode_record.result _ c.decode_record.ensures.reads in
    search rules

pub decode_no_union-returns-in-List-clause-keeps : goal.decode_no_union-returns-in-List-clause-keeps
decode_no_union-returns-in-List-clause-keeps g t c =
    let e = c.decode_array.ensures.keeps in
    let k : Grows (mask false c.args.schema.now) (passed (g.C.ByteReader.rest c.args.cursor.now) (g.C.ByteReader.rest c.decode_array.new.cursor)) (nodes c.args.builder.now) (nodes (List c.decode_array.new.lists)) = list_grown c.args.schema.now _ c.args.builder.now _ _ _ (c.in-Array.is ∙ ap Array (sym c.get.ensures)) (c.in-List.is ∙ ap List (sym c.in-List.lists-is)) e.grows in
    record {
      same_shape = search (rules, e);
      tight = search (rules, e);
      grows = search rules;
      has_capacity = λ h. e.has_capacity (list_spare_below c.args.schema.now _ c.args.builder.now _ _ (c.in-Array.is ∙ ap Array (sym c.get.ensures)) (c.in-List.is ∙ ap List (sym c.in-List.lists-is)) h);
      same = e.same;
      moves = e.moves;
      costs = e.costs;
    }

pub decode_no_union-returns-in-LargeList-clause-keeps : goal.decode_no_union-returns-in-LargeList-clause-keeps
decode_no_union-returns-in-LargeList-clause-keeps g t c =
    let e = c.decode_large_array.ensures.keeps in
    let k : Grows (mask false c.args.schema.now) (passed (g.C.ByteReader.rest c.args.cursor.now) (g.C.ByteReader.rest c.decode_large_array.new.cursor)) (nodes c.args.builder.now) (nodes (LargeList c.decode_large_array.new.lists)) = list_grown c.args.schema.now _ c.args.builder.now _ _ _ (c.in-Array.is ∙ ap Array (sym c.get-in-LargeList.ensures)) (c.in-LargeList.is ∙ ap LargeList (sym c.in-LargeList.lists-is)) e.grows in
    record {
      same_shape = search (rules, e);
      tight = search (rules, e);
      grows = search rules;
      has_capacity = λ h. e.has_capacity (list_spare_below c.args.schema.now _ c.args.builder.now _ _ (c.in-Array.is ∙ ap Array (sym c.get-in-LargeList.ensures)) (c.in-LargeList.is ∙ ap LargeList (sym c.in-LargeList.lists-is)) h);
      same = e.same;
      moves = e.moves;
      costs = e.costs;
    }

pub decode_no_union-returns-in_default : goal.decode_no_union-returns-in_default
decode_no_union-returns-in_default g t c =
    let e = c.decode_flat.ensures in
    record {
      keeps = e.keeps;
      shorter = shorter_by c.decode_flat.result _ _ _ c.args.builder.now c.decode_flat.new.builder _ e.keeps.grows.each e.reads;
      reads = e.reads;
    }

pub decode_no_union-decode_flat-requires-clause-kind : goal.decode_no_union-decode_flat-requires-clause-kind
decode_no_union-decode_flat-requires-clause-kind g t c = has_flat_kind c.args.schema.now c.args.builder.now c.requires.suits

pub decode_items-decode_flat_items-requires-clause-kind : goal.decode_items-decode_flat_items-requires-clause-kind
decode_items-decode_flat_items-requires-clause-kind g t c = has_flat_kind c.args.item.now c.args.child.now c.requires.suits

pub decode_no_union-unreachable-requires : goal.decode_no_union-unreachable-requires
decode_no_union-unreachable-requires g t c =
    no_list c.args.schema.now c.in-Array.item c.args.builder.now c.in-Array.is c.requires.suits
    (λ k. let n = c.in_default-builder.not-List in search (rules, builder_lemmas))
    (λ k. let n = c.in_default-builder.not-LargeList in search (rules, builder_lemmas))

pub decode_no_union-unreachable-requires-in_default-builder-2 : goal.decode_no_union-unreachable-requires-in_default-builder-2
decode_no_union-unreachable-requires-in_default-builder-2 g t c =
    let k = record_kind c.args.schema.now c.in-Record.record c.args.builder.now c.in-Record.is c.requires.suits in
    let n = c.in_default-builder-2.not-Struct in
    search (rules, builder_lemmas)
