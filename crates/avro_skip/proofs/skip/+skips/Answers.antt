use Rattle.std.proofs.Common.{◌≡◌, ◌∙◌, ◌-◌, ◌+◌, suc, ◌≤◌, get_or, refl, ap, subst, arith, rules, pos, negsuc, w64}
use mir.Val.{SFits}
use denote.Param.Weighed.{at_most}
use Rattle.std.proofs.lemmas.Int.{to_z-of_z}
use Rattle.std.proofs.lemmas.Result.{err_from_is_err_and}
use Rattle.avro_schema.proofs.schema.AvroField.TheLaws.{the_size as field_size}
use Rattle.avro_schema.proofs.schema.Schema.TheLaws.{the_size}
use Rattle.avro_schema.specs.declared.schema.Schema.TheViews.{the_lemmas}
use Rattle.avro_schema.specs.Listed.{CarriedMembersOf}
use Rattle.avro_reference.specs.Skip.{Bad, skip}
use Rattle.avro_reference.proofs.Counting.{not_longer, forward_none, forward_more, moves_within, number_first}
use Rattle.avro_skip.proofs.Signed.{is_zero, is_least, not_is, not_as, block_none, block_positive, block_negative}
use Rattle.avro_skip.proofs.Steps.{items_begun, items_next, items_ended, items_failed, fields_begun, fields_next, fields_ended, fields_failed, blocks_no_count, blocks_fault, blocks_begun, blocks_next, blocks_ended, blocks_fail}
use Rattle.avro_skip.proofs.Unions.{two_of, members_size, first_member, second_member, union_carried, union_passes, array_carried, array_passes, record_carried, record_passes, record_shorter}
use Rattle.avro_skip.proofs.skip.+skips.Goals as goal

-- ---- a value's arms

pub skip_value-skip_union-requires : goal.skip_value-skip_union-requires
skip_value-skip_union-requires g t c κs within =
    let d = c.decreases in
    ((let e = ap the_size c.in-Union.is in let a = c.as_slice.ensures in search (rules, the_lemmas)), (within.0, (within.1, union_carried c.args.schema.now c.in-Union.members c.as_slice.result.now c.in-Union.is c.as_slice.ensures c.requires.carried)))

pub skip_value-returns-in-Union-clause-passes : goal.skip_value-returns-in-Union-clause-passes
skip_value-returns-in-Union-clause-passes g t c =
    union_passes c.args.schema.now c.in-Union.members c.as_slice.result.now c.in-Union.is c.as_slice.ensures g.A.ByteReader.rest g.A.ByteReader.shown g.A.ByteReader.calls c.args.cursor.now c.skip_union.new.cursor c.skip_union.result (g.A.ByteReader.rest c.args.cursor.now) c.skip_union.ensures.passes

-- ---- a value that is no union

pub skip_no_union-skip_fields-requires : goal.skip_no_union-skip_fields-requires
skip_no_union-skip_fields-requires g t c κs within =
    let d = c.decreases in
    ((let e = ap the_size c.in-Record.is in let a = c.as_slice.ensures in search (rules, the_lemmas)), (within.0, (within.1, (record_carried c.args.schema.now c.in-Record.record c.as_slice.result.now c.in-Record.is c.as_slice.ensures c.requires.carried).1)))

pub skip_no_union-returns-in-Record-clause-shorter : goal.skip_no_union-returns-in-Record-clause-shorter
skip_no_union-returns-in-Record-clause-shorter g t c =
    let a = record_carried c.args.schema.now c.in-Record.record c.as_slice.result.now c.in-Record.is c.as_slice.ensures c.requires.carried in
    record_shorter c.skip_fields.result _ _ _ a.0 c.skip_fields.ensures.shorter

pub skip_no_union-returns-in-Record-clause-passes : goal.skip_no_union-returns-in-Record-clause-passes
skip_no_union-returns-in-Record-clause-passes g t c =
    record_passes c.args.schema.now c.in-Record.record c.as_slice.result.now c.in-Record.is c.as_slice.ensures g.A.ByteReader.rest g.A.ByteReader.shown g.A.ByteReader.calls c.args.cursor.now c.skip_fields.new.cursor c.skip_fields.result (g.A.ByteReader.rest c.args.cursor.now) c.skip_fields.ensures.passes

pub skip_no_union-skip_blocks-requires : goal.skip_no_union-skip_blocks-requires
skip_no_union-skip_blocks-requires g t c κs within =
    let d = c.decreases in
    ((let e = ap the_size c.in-Array.is in let a = c.get.ensures in search (rules, the_lemmas)), (within.0, (within.1, array_carried c.args.schema.now c.in-Array.item c.get.result.now c.in-Array.is c.get.ensures c.requires.carried)))

pub skip_no_union-returns-in-Array-clause-passes : goal.skip_no_union-returns-in-Array-clause-passes
skip_no_union-returns-in-Array-clause-passes g t c =
    array_passes c.args.schema.now c.in-Array.item c.get.result.now c.in-Array.is c.get.ensures g.A.ByteReader.rest g.A.ByteReader.shown g.A.ByteReader.calls c.args.cursor.now c.skip_blocks.new.cursor c.skip_blocks.result (g.A.ByteReader.rest c.args.cursor.now) c.skip_blocks.ensures.passes

-- ---- unions

pub skip_union-skip_member-requires : goal.skip_union-skip_member-requires
skip_union-skip_member-requires g t c κs within =
    let ms = c.args.members.now in
    let a = c.first-item.result in
    let b = c.second-item.result in
    let two = two_of ms a b c.in-len2.len_at_least c.in-len2.len_below c.first-item.is c.second-item.is in
    let m = members_size ms a b two in
    let d = c.decreases in
    (omega arith, (within.0, (within.1, first_member a b (subst CarriedMembersOf two c.requires.carried))))

pub skip_union-skip_member-requires-then-member-eq1 : goal.skip_union-skip_member-requires-then-member-eq1
skip_union-skip_member-requires-then-member-eq1 g t c κs within =
    let ms = c.args.members.now in
    let a = c.first-item.result in
    let b = c.second-item.result in
    let two = two_of ms a b c.in-len2.len_at_least c.in-len2.len_below c.first-item.is c.second-item.is in
    let m = members_size ms a b two in
    let d = c.decreases in
    (omega arith, (within.0, (within.1, second_member a b (subst CarriedMembersOf two c.requires.carried))))

pub skip_union-returns-then-member-eq0-clause-moves : goal.skip_union-returns-then-member-eq0-clause-moves
skip_union-returns-then-member-eq0-clause-moves g t c =
    number_first _ _ _ _ _ _ c.in-Some.ensures.costs c.in-Some.ensures.moves c.skip_member.ensures.moves

pub skip_union-returns-then-member-eq1-clause-moves : goal.skip_union-returns-then-member-eq1-clause-moves
skip_union-returns-then-member-eq1-clause-moves g t c =
    number_first _ _ _ _ _ _ c.in-Some.ensures.costs c.in-Some.ensures.moves c.skip_member-then-member-eq1.ensures.moves

-- ---- fields

pub skip_fields-skip_value-requires : goal.skip_fields-skip_value-requires
skip_fields-skip_value-requires g t c κs within =
    let i = c.loop-i.i in
    let fs = c.args.fields.now in
    let f = c.index-fields-i.result in
    let lt = c.loop-i-test.true in
    let m = at_most field_size fs i f lt in
    let q : the_size (get_or fs i f).schema ≤ field_size (get_or fs i f) = search (rules, the_lemmas) in
    let d = c.decreases in
    (omega arith, (within.0, (within.1, c.requires.carried i f lt)))

pub skip_fields-loop-i-init : goal.skip_fields-loop-i-init
skip_fields-loop-i-init g t c =
    record {
      same = refl;
      forward = forward_none _;
      shorter = omega arith;
      underway = fields_begun g.A.ByteReader.rest g.A.ByteReader.shown g.A.ByteReader.calls c.args.fields.now c.args.cursor.now;
    }

pub skip_fields-returns-in_err-skip_value-clause-moves : goal.skip_fields-returns-in_err-skip_value-clause-moves
skip_fields-returns-in_err-skip_value-clause-moves g t c =
    let inv = c.loop-i.invariant in
    moves_within _ _ _ _ _ _ _ _ inv.underway.2 inv.forward c.in_err-skip_value.ensures.moves

pub skip_fields-returns-in_err-skip_value-clause-passes : goal.skip_fields-returns-in_err-skip_value-clause-passes
skip_fields-returns-in_err-skip_value-clause-passes g t c =
    let inv = c.loop-i.invariant in
    let p = err_from_is_err_and c.from_residual.result c.from_residual.ensures.1 in
    rw (p.1, p.2) (fields_failed g.A.ByteReader.rest g.A.ByteReader.shown g.A.ByteReader.calls c.args.fields.now c.loop-i.i c.index-fields-i.result c.args.cursor.now c.loop-i.cursor _ c.loop-i-test.true inv.underway c.in_err-skip_value.ensures.passes)

pub skip_fields-loop-i-preserved : goal.skip_fields-loop-i-preserved
skip_fields-loop-i-preserved g t c =
    let inv = c.loop-i.invariant in
    let e = c.in_ok-skip_value.ensures in
    record {
      same = e.same ∙ inv.same;
      forward = forward_more _ _ _ inv.forward e.moves.forward;
      shorter = omega (arith, e.shorter, inv.shorter);
      underway = fields_next g.A.ByteReader.rest g.A.ByteReader.shown g.A.ByteReader.calls c.args.fields.now c.loop-i.i c.index-fields-i.result c.args.cursor.now c.loop-i.cursor c.skip_value.new.cursor c.loop-i-test.true inv.underway e.passes;
    }

pub skip_fields-returns-clause-passes : goal.skip_fields-returns-clause-passes
skip_fields-returns-clause-passes g t c =
    fields_ended g.A.ByteReader.rest g.A.ByteReader.shown g.A.ByteReader.calls c.args.fields.now c.loop-i.i c.args.cursor.now c.loop-i.cursor (omega (arith, c.loop-i-test.false)) c.loop-i.invariant.underway

-- ---- items

pub skip_items-skip_value-requires : goal.skip_items-skip_value-requires
skip_items-skip_value-requires g t c κs within =
    let d = c.decreases in
    (omega arith, (within.0, (within.1, c.requires.carried)))

pub skip_items-loop-init : goal.skip_items-loop-init
skip_items-loop-init g t c =
    record {
      same = refl;
      forward = forward_none _;
      underway = items_begun g.A.ByteReader.rest g.A.ByteReader.shown g.A.ByteReader.calls (skip c.args.item.now) _ c.args.count c.args.cursor.now (omega arith);
    }

pub skip_items-returns-in_err-skip_value-clause-moves : goal.skip_items-returns-in_err-skip_value-clause-moves
skip_items-returns-in_err-skip_value-clause-moves g t c =
    let inv = c.loop.invariant in
    moves_within _ _ _ _ _ _ _ _ inv.underway.2 inv.forward c.in_err-skip_value.ensures.moves

pub skip_items-returns-in_err-skip_value-clause-passes : goal.skip_items-returns-in_err-skip_value-clause-passes
skip_items-returns-in_err-skip_value-clause-passes g t c =
    let inv = c.loop.invariant in
    let p = err_from_is_err_and c.from_residual.result c.from_residual.ensures.1 in
    let s : c.args.count - c.loop.counter ≡ suc (c.args.count - (c.loop.counter + 1)) = omega arith in
    rw (p.1, p.2) (items_failed g.A.ByteReader.rest g.A.ByteReader.shown g.A.ByteReader.calls (skip c.args.item.now) _ _ c.args.count c.args.cursor.now c.loop.cursor _ s inv.underway c.in_err-skip_value.ensures.passes)

pub skip_items-loop-preserved : goal.skip_items-loop-preserved
skip_items-loop-preserved g t c =
    let inv = c.loop.invariant in
    let e = c.in_ok-skip_value.ensures in
    let s : c.args.count - c.loop.counter ≡ suc (c.args.count - (c.loop.counter + 1)) = omega arith in
    record {
      same = e.same ∙ inv.same;
      forward = forward_more _ _ _ inv.forward e.moves.forward;
      underway = items_next g.A.ByteReader.rest g.A.ByteReader.shown g.A.ByteReader.calls (skip c.args.item.now) _ _ c.args.count c.args.cursor.now c.loop.cursor c.skip_value.new.cursor s inv.underway e.passes;
    }

pub skip_items-returns-clause-passes : goal.skip_items-returns-clause-passes
skip_items-returns-clause-passes g t c =
    items_ended g.A.ByteReader.rest g.A.ByteReader.shown g.A.ByteReader.calls (skip c.args.item.now) (c.args.count - c.loop.counter) c.args.count c.args.cursor.now c.loop.cursor (omega arith) c.loop.invariant.underway

-- ---- blocks

pub skip_blocks-loop-count-init : goal.skip_blocks-loop-count-init
skip_blocks-loop-count-init g t c =
    record {
      same = refl;
      forward = forward_none _;
      underway = blocks_begun g.A.ByteReader.rest g.A.ByteReader.shown g.A.ByteReader.calls (skip c.args.item.now) c.args.cursor.now;
    }

pub skip_blocks-returns-in_default-clause-moves : goal.skip_blocks-returns-in_default-clause-moves
skip_blocks-returns-in_default-clause-moves g t c =
    let inv = c.loop-count.invariant in
    moves_within _ _ _ _ _ _ _ _ inv.underway.2.2 inv.forward c.number.ensures.moves

pub skip_blocks-returns-in_default-clause-passes : goal.skip_blocks-returns-in_default-clause-passes
skip_blocks-returns-in_default-clause-passes g t c =
    blocks_fail g.A.ByteReader.rest g.A.ByteReader.shown g.A.ByteReader.calls (skip c.args.item.now) c.args.cursor.now c.loop-count.cursor Bad c.loop-count.invariant.underway (λ fuel before lt. blocks_no_count (skip c.args.item.now) _ before fuel c.in_default.ensures.reads)

pub skip_blocks-returns-then-count-eq0-clause-moves : goal.skip_blocks-returns-then-count-eq0-clause-moves
skip_blocks-returns-then-count-eq0-clause-moves g t c =
    let inv = c.loop-count.invariant in
    moves_within _ _ _ _ _ _ _ _ inv.underway.2.2 inv.forward c.in-Some.ensures.moves

pub skip_blocks-returns-then-count-eq0-clause-passes : goal.skip_blocks-returns-then-count-eq0-clause-passes
skip_blocks-returns-then-count-eq0-clause-passes g t c =
    let n = c.in-Some.ensures in
    let s : SFits w64 c.in-Some.count = search rules in
    blocks_ended g.A.ByteReader.rest g.A.ByteReader.shown g.A.ByteReader.calls (skip c.args.item.now) c.args.cursor.now c.loop-count.cursor c.number.new.self c.in-Some.count c.loop-count.invariant.underway n.reads n.costs (is_zero c.in-Some.count s c.if-count-eq0.true)

pub skip_blocks-skip_block_items-requires : goal.skip_blocks-skip_block_items-requires
skip_blocks-skip_block_items-requires g t c κs within =
    let d = c.decreases in
    let s : SFits w64 c.in-Some.count = search rules in
    (omega arith, (within.0, (within.1, (c.requires.carried, not_as c.in-Some.count (pos 0) s c.if-count-eq0.false))))

pub skip_blocks-returns-in_err-skip_block_items-clause-moves : goal.skip_blocks-returns-in_err-skip_block_items-clause-moves
skip_blocks-returns-in_err-skip_block_items-clause-moves g t c =
    let inv = c.loop-count.invariant in
    let n = c.in-Some.ensures in
    moves_within _ _ _ _ _ _ _ _ inv.underway.2.2 inv.forward (number_first _ _ _ _ _ _ n.costs n.moves c.in_err-skip_block_items.ensures.moves)

pub skip_blocks-returns-in_err-skip_block_items-clause-passes : goal.skip_blocks-returns-in_err-skip_block_items-clause-passes
skip_blocks-returns-in_err-skip_block_items-clause-passes g t c =
    let inv = c.loop-count.invariant in
    let n = c.in-Some.ensures in
    let p = err_from_is_err_and c.from_residual.result c.from_residual.ensures.1 in
    let s : SFits w64 c.in-Some.count = search rules in
    let e = rw (to_z-of_z w64 c.in-Some.count s) at c.in_err-skip_block_items.ensures.passes in
    rw (p.1, p.2) (blocks_fail g.A.ByteReader.rest g.A.ByteReader.shown g.A.ByteReader.calls (skip c.args.item.now) c.args.cursor.now c.loop-count.cursor _ inv.underway (λ fuel before lt. blocks_fault (skip c.args.item.now) _ before fuel c.in-Some.count _ _ lt n.reads (not_is c.in-Some.count (pos 0) c.if-count-eq0.false) e))

pub skip_blocks-loop-count-preserved : goal.skip_blocks-loop-count-preserved
skip_blocks-loop-count-preserved g t c =
    let inv = c.loop-count.invariant in
    let n = c.in-Some.ensures in
    let e = c.in_ok-skip_block_items.ensures in
    let s : SFits w64 c.in-Some.count = search rules in
    record {
      same = e.same ∙ n.same ∙ inv.same;
      forward = forward_more _ _ _ inv.forward (forward_more _ _ _ n.moves.forward e.moves.forward);
      underway = blocks_next g.A.ByteReader.rest g.A.ByteReader.shown g.A.ByteReader.calls (skip c.args.item.now) c.args.cursor.now c.loop-count.cursor c.number.new.self c.skip_block_items.new.cursor c.in-Some.count inv.underway n.reads n.costs (not_is c.in-Some.count (pos 0) c.if-count-eq0.false) (not_longer _ _ e.moves.forward) (rw (to_z-of_z w64 c.in-Some.count s) at e.passes);
    }

-- ---- the items of a block

pub skip_block_items-returns-then-count-gt0-clause-passes : goal.skip_block_items-returns-then-count-gt0-clause-passes
skip_block_items-returns-then-count-gt0-clause-passes g t c =
    let r = to_z-of_z w64 c.args.count c.ranges.count in
    let b = rw r at c.if-count-gt0.true in
    block_positive g.A.ByteReader.rest g.A.ByteReader.shown g.A.ByteReader.calls c.args.cursor.now c.skip_items.new.cursor c.skip_items.result (skip c.args.item.now) (g.A.ByteReader.rest c.args.cursor.now) c.args.count _ c.ranges.count b (search (rules, to_z-of_z)) c.skip_items.ensures.passes

pub skip_block_items-returns-then-count-eqminus9223372036854775808-clause-passes :
    goal.skip_block_items-returns-then-count-eqminus9223372036854775808-clause-passes
skip_block_items-returns-then-count-eqminus9223372036854775808-clause-passes g t c =
    block_none (skip c.args.item.now) _ c.args.count (is_least c.args.count c.ranges.count c.if-count-eqminus9223372036854775808.true)

pub skip_block_items-returns-else-count-eqminus9223372036854775808-clause-passes :
    goal.skip_block_items-returns-else-count-eqminus9223372036854775808-clause-passes
skip_block_items-returns-else-count-eqminus9223372036854775808-clause-passes g t c =
    let r = to_z-of_z w64 c.args.count c.ranges.count in
    let b = rw r at c.if-count-gt0.false in
    block_negative g.A.ByteReader.rest g.A.ByteReader.shown g.A.ByteReader.calls c.args.cursor.now c.skip_sized_items.new.cursor c.skip_sized_items.result (skip c.args.item.now) (g.A.ByteReader.rest c.args.cursor.now) c.args.count c.ranges.count c.requires.some b (not_is c.args.count (negsuc 9223372036854775807) c.if-count-eqminus9223372036854775808.false) c.skip_sized_items.ensures.passes
