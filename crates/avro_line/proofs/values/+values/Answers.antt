-- Each turn adds a comma where one is wanted and an item, or a key and a value.
use Rattle.std.proofs.Common.{refl, arith}
use Rattle.std.proofs.lemmas.Bool.{false≢true}
use Rattle.std.proofs.lemmas.Bool.Decides.{nat_tests}
use Rattle.avro_line.proofs.Items.{items_begun, items_next, items_ended, empty_shown, if_array}
use Rattle.avro_line.proofs.Lines.{fields_begun, fields_next, record_ended}
use Rattle.avro_line.proofs.Members.{if_array_value, if_record_value, if_union_value, null_shown, if_member}
use Rattle.avro_line.proofs.values.+values.Goals as goal

pub push_value-returns-in-Union : goal.push_value-returns-in-Union
push_value-returns-in-Union g t c = if_union_value c.push_union.result c.args.schema.now c.in-Union.members c.as_slice.result.now c.args.form.now c.args.columns.now _ _ _ _ c.in-Union.is c.as_slice.ensures c.push_union.ensures

pub push_no_union-returns-in-Array : goal.push_no_union-returns-in-Array
push_no_union-returns-in-Array g t c = if_array_value c.push_array.result c.args.schema.now c.in-Array.item c.get.result.now c.args.form.now c.args.columns.now _ _ _ _ c.in-Array.is c.get.ensures c.push_array.ensures

pub push_no_union-returns-in-Record : goal.push_no_union-returns-in-Record
push_no_union-returns-in-Record g t c = if_record_value c.push_record.result c.args.schema.now c.in-Record.record c.as_slice.result.now c.args.form.now c.args.columns.now _ _ _ _ c.in-Record.is c.as_slice.ensures c.push_record.ensures

pub push_union-returns-then-is_null : goal.push_union-returns-then-is_null
push_union-returns-then-is_null g t c = null_shown c.args.members.now c.in_ok-member.member.now c.args.form.now c.args.columns.now _ _ _ _ c.in_ok-member.ensures (c.if-is_null.ensures.0 refl) c.in_ok-push_null.ensures.ok

pub push_union-returns : goal.push_union-returns
push_union-returns g t c = if_member c.args.members.now c.in_ok-member.member.now c.args.form.now c.args.columns.now c.push_no_union.result _ _ _ _ _ c.in_ok-member.ensures (λ n. false≢true (c.if-is_null.ensures.1 n)) c.push_no_union.ensures

pub push_array-returns-then-count-eq0 : goal.push_array-returns-then-count-eq0
push_array-returns-then-count-eq0 g t c = empty_shown c.args.item.now c.args.form.now c.args.columns.now _ _ _ _ c.in-Some.count c.in-Some.ensures.reads c.if-count-eq0.true c.in_ok-push.ensures.ok

pub push_array-returns : goal.push_array-returns
push_array-returns g t c = if_array c.args.item.now c.args.form.now c.args.columns.now c.push_end.result _ _ _ _ _ _ _ _ c.in-Some.count c.in-Some.ensures.reads c.if-count-eq0.false c.in_ok-push-2.ensures.ok c.in_ok-push_items.ensures c.push_end.ensures.end c.push_end.ensures.ok

pub push_items-loop-k-init : goal.push_items-loop-k-init
push_items-loop-k-init g t c = λ u is f w. items_begun c.args.item.now u c.args.count _ _

pub push_items-loop-k-preserved : goal.push_items-loop-k-preserved
push_items-loop-k-preserved g t c = λ u is f w. items_next c.args.item.now c.args.form.now c.args.columns.now u c.args.count c.loop-k.k _ _ _ _ _ _ _ c.loop-k-test.true is f w (c.loop-k.invariant u is f w) c.in_ok-push_comma.ensures.ok c.in_ok-push_value.ensures

pub push_items-returns : goal.push_items-returns
push_items-returns g t c = λ u is f w. items_ended c.args.item.now u c.args.count c.loop-k.k _ _ _ _ (omega (arith, c.loop-k-test.false)) (c.loop-k.invariant u is f w)

pub push_record-loop-field-init : goal.push_record-loop-field-init
push_record-loop-field-init g t c = fields_begun c.args.avro_fields.now c.args.columns.now _ _

pub push_record-loop-field-preserved : goal.push_record-loop-field-preserved
push_record-loop-field-preserved g t c =
    fields_next c.args.avro_fields.now c.args.columns.now c.loop-field.field-index c.field-item.result c.loop-field.rest.now c.in_ok-column.column.now c.in_ok-column.within.now c.in_ok-column.after.now _ _ _ _ _ _ _ c.loop-field-test.true c.field-item.is c.loop-field.invariant c.in_ok-column.ensures c.in_ok-push_key.ensures.ok c.in_ok-push_value.ensures

pub push_record-returns : goal.push_record-returns
push_record-returns g t c =
    record_ended c.args.avro_fields.now c.args.columns.now c.loop-field.field-index c.loop-field.rest.now _ _ _ _ _ (λ e. absurd (grind (arith, nat_tests, e, c.is_empty.ensures, c.if-is_empty.false))) (omega (arith, c.loop-field-test.false)) c.loop-field.invariant c.in_ok-push.ensures.ok
