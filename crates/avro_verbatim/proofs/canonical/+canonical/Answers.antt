use Rattle.std.proofs.Common.{◌≡◌, ◌∙◌, ◌-◌, ◌+◌, ℕ, suc, ◌∷◌, flat_map, get_or, Bor, List, ap, refl, subst, arith}
use Rattle.std.proofs.lemmas.Option.{IfSome_then}
use Rattle.avro_schema.specs.declared.schema.AvroField.{AvroField}
use Rattle.avro_schema.specs.declared.schema.Schema.{Schema, Array}
use Rattle.avro_encode.specs.Listed.{PairsFieldsOf, plain_fields_of}
use Rattle.avro_encode.specs.Pairs.{Pairs}
use Rattle.avro_encode.specs.Plain.{plain}
use Rattle.avro_verbatim.specs.Begins.{BeginsWithFields, BeginsWithItems, BeginsWithRows, BeginsWithSlot, HoldsMany}
use Rattle.avro_verbatim.proofs.Values.{held_of_two, items_taken, no_field, no_items, no_longer, none_left, null_of_two, one_field, of_union, one_more, record_taken, some_items, taken, value_as}
use Rattle.avro_verbatim.proofs.canonical.+canonical.Goals as goal
use Rattle.avro_verbatim.proofs.canonical.+canonical.Goals.{skip_value-in-Union+in-len2+else-not-is_null_first+in-Some+else-index-eq0+else-index-ne2, skip_value-in_default}

-- ---- rows and records

pub rows_len-loop-preserved : goal.rows_len-loop-preserved
rows_len-loop-preserved t c =
    let fields = c.args.fields.now in
    let all = c.args.number_of_rows in
    let next : all - c.loop.counter ≡ suc (all - (c.loop.counter + 1)) = omega arith in
    one_more (PairsFieldsOf fields) (plain_fields_of fields) (BeginsWithRows fields all c.args.bytes.now) (all - c.loop.counter) (all - (c.loop.counter + 1)) c.loop.rest.now c.in_ok-rest.rest.now next c.in_ok-rest.ensures c.loop.invariant

pub rows_len-overflow_sub-result : goal.rows_len-overflow_sub-result
rows_len-overflow_sub-result t c =
    let fields = c.args.fields.now in
    let all = c.args.number_of_rows in
    no_longer (HoldsMany (PairsFieldsOf fields) all) (flat_map (plain_fields_of fields)) c.args.bytes.now c.loop.rest.now
    (none_left (PairsFieldsOf fields) (plain_fields_of fields) (BeginsWithRows fields all c.args.bytes.now) (all - c.loop.counter) c.loop.rest.now (omega arith) c.loop.invariant)

pub rows_len-returns : goal.rows_len-returns
rows_len-returns t c =
    let fields = c.args.fields.now in
    let all = c.args.number_of_rows in
    taken (HoldsMany (PairsFieldsOf fields) all) (flat_map (plain_fields_of fields)) c.args.bytes.now c.loop.rest.now
    (none_left (PairsFieldsOf fields) (plain_fields_of fields) (BeginsWithRows fields all c.args.bytes.now) (all - c.loop.counter) c.loop.rest.now (omega arith) c.loop.invariant)

pub skip_fields-loop-field-preserved : goal.skip_fields-loop-field-preserved
skip_fields-loop-field-preserved t c =
    let same : BeginsWithSlot (get_or c.args.fields.now c.loop-field.field-index c.field-item.result).schema c.loop-field.rest.now c.in_ok-rest.rest.now =
    subst (λ (f : AvroField). BeginsWithSlot f.schema c.loop-field.rest.now c.in_ok-rest.rest.now) c.field-item.is c.in_ok-rest.ensures in
    one_field c.args.fields.now c.loop-field.field-index (BeginsWithFields c.args.fields.now c.args.bytes.now) c.loop-field.rest.now c.loop-field.invariant c.field-item.result c.in_ok-rest.rest.now c.loop-field-test.true same

pub skip_fields-returns : goal.skip_fields-returns
skip_fields-returns t c =
    no_field c.args.fields.now c.loop-field.field-index (BeginsWithFields c.args.fields.now c.args.bytes.now) c.loop-field.rest.now c.loop-field.invariant (omega (arith, c.loop-field-test.false))

pub skip_no_union-returns-in_ok-len-in-Record : goal.skip_no_union-returns-in_ok-len-in-Record
skip_no_union-returns-in_ok-len-in-Record t c =
    record_taken c.args.schema.now c.in-Record.record c.as_slice.result.now c.args.bytes.now c.in_ok-len-in-Record.len c.in-Record.is c.as_slice.ensures c.in_ok-len-in-Record.ensures.1

-- ---- unions

pub skip_value-returns-then-index-eq0 : goal.skip_value-returns-then-index-eq0
skip_value-returns-then-index-eq0 t c =
    of_union c.args.schema.now c.in-Union.members c.as_slice.result.now c.args.bytes.now c.in-Some.more.now c.in-Union.is c.as_slice.ensures
    (null_of_two c.as_slice.result.now c.first-item.result c.second-item.result c.in-len2.len_at_least c.in-len2.len_below c.first-item.is c.second-item.is (c.if-not-is_null_first.ensures.null refl) (c.if-not-is_null_first.ensures.no_union refl)
    c.args.bytes.now c.in-Some.more.now (c.in-Some.ensures.cases.0 ∙ ap (λ (b : ℕ). b ∷ c.in-Some.more.now) c.if-index-eq0.true))

pub skip_value-returns : goal.skip_value-returns
skip_value-returns t c =
    IfSome_then c.skip_no_union.result c.skip_no_union.ensures
    (λ rest h. elim c.match-schema.branch [
      | skip_value-in-Union+in-len2+else-not-is_null_first+in-Some+else-index-eq0+else-index-ne2 w ↦
          let slice = w.as_slice.result.now in
          let mid = w.in-Some.more.now in
          let value = value_as c.match-schema.held.now w.second-item.result c.match-schema.rest.now mid rest.now (ap (λ (z : Bor Schema). z.now) w.held-is) (ap (λ (z : Bor (List ℕ)). z.now) w.rest-is) h in
          of_union c.args.schema.now w.in-Union.members slice c.args.bytes.now rest.now w.in-Union.is w.as_slice.ensures
          (held_of_two slice w.first-item.result w.second-item.result w.in-len2.len_at_least w.in-len2.len_below w.first-item.is w.second-item.is (w.if-not-is_null_first.ensures.null refl) (w.if-not-is_null_first.ensures.no_union refl)
          c.args.bytes.now mid rest.now (w.in-Some.ensures.cases.0 ∙ ap (λ (b : ℕ). b ∷ mid) w.if-index-ne2.false) value)
      | skip_value-in_default w ↦ value_as c.match-schema.held.now c.args.schema.now c.match-schema.rest.now c.args.bytes.now rest.now (ap (λ (z : Bor Schema). z.now) w.held-is) (ap (λ (z : Bor (List ℕ)). z.now) w.rest-is) h
    ])

-- ---- arrays

pub array_len-returns-in-Some : goal.array_len-returns-in-Some
array_len-returns-in-Some t c =
    taken (Pairs (Array c.args.item.now)) (plain (Array c.args.item.now)) c.args.bytes.now c.in-Some.rest.now
    (some_items c.args.item.now c.args.bytes.now c.in_ok-count.items.now c.in_ok-after.after.now c.in-Some.rest.now c.in_ok-count.count c.in_ok-count.ensures (omega (arith, c.if-count-eq0.false)) c.in_ok-after.ensures
    (c.in-Some.ensures.cases.0 ∙ ap (λ (b : ℕ). b ∷ c.in-Some.rest.now) c.if-end-eq0.true))

pub skip_array-returns-in-Some : goal.skip_array-returns-in-Some
skip_array-returns-in-Some t c = no_items c.args.item.now c.args.bytes.now c.in-Some.rest.now c.in-Some.end.now c.in-Some.ensures.cases.0 c.if-end-eq0.true

pub skip_items-returns-in-Record : goal.skip_items-returns-in-Record
skip_items-returns-in-Record t c =
    items_taken c.args.item.now c.in-Record.record c.as_slice.result.now c.args.count c.args.bytes.now c.in_ok-len.len c.in-Record.is c.as_slice.ensures c.in_ok-len.ensures.1

pub skip_values-loop-preserved : goal.skip_values-loop-preserved
skip_values-loop-preserved t c =
    let next : c.args.count - c.loop.counter ≡ suc (c.args.count - (c.loop.counter + 1)) = omega arith in
    one_more (Pairs c.args.item.now) (plain c.args.item.now) (BeginsWithItems c.args.item.now c.args.count c.args.bytes.now) (c.args.count - c.loop.counter) (c.args.count - (c.loop.counter + 1)) c.loop.rest.now c.in_ok-rest.rest.now next c.in_ok-rest.ensures c.loop.invariant

pub skip_values-returns : goal.skip_values-returns
skip_values-returns t c =
    none_left (Pairs c.args.item.now) (plain c.args.item.now) (BeginsWithItems c.args.item.now c.args.count c.args.bytes.now) (c.args.count - c.loop.counter) c.loop.rest.now (omega arith) c.loop.invariant
