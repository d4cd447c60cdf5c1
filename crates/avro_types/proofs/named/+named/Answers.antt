-- Each field or member more is named, and its names are counted.
use Rattle.std.proofs.Common.{◌∙◌, refl, arith}
use Rattle.avro_types.specs.Listed.{named_all, named_members, nameless_in_all, nameless_in_members}
use Rattle.avro_types.specs.Named.{named, nameless_in}
use Rattle.avro_types.proofs.Renamed.{one_more, counted_more, all_done, all_counted, array_is, map_is, union_is, array_count, map_count, union_count, record_is, record_count}
use Rattle.avro_types.proofs.named.+named.Goals as goal

pub named_fields-loop-field-preserved : goal.named_fields-loop-field-preserved
named_fields-loop-field-preserved t c =
    let inv = c.loop-field.invariant in
    let e = c.in_ok-field.ensures in
    record {
      named = rw c.in_ok-push.ensures.items (one_more (λ f. nameless_in f.schema) nameless_in_all named_all (λ k f. record { name = f.name; doc = f.doc; schema = named k f.schema }) refl (λ x xs. refl) (λ k. refl) (λ k x xs. refl)
          _ _ _ _ c.loop-field.field-index c.field-item.result _ _ c.loop-field-test.true c.field-item.is inv.named e.named e.count);
      count = counted_more (λ f. nameless_in f.schema) nameless_in_all named_all (λ k f. record { name = f.name; doc = f.doc; schema = named k f.schema }) refl (λ x xs. refl) (λ k. refl) (λ k x xs. refl)
          _ c.loop-field.field-index _ _ _ c.field-item.result c.loop-field-test.true c.field-item.is inv.count e.count;
    }

pub named_fields-returns-clause-named : goal.named_fields-returns-clause-named
named_fields-returns-clause-named t c =
    c.from_vec.ensures ∙ all_done (λ f. nameless_in f.schema) nameless_in_all named_all (λ k f. record { name = f.name; doc = f.doc; schema = named k f.schema }) refl (λ x xs. refl) (λ k. refl) (λ k x xs. refl)
    _ _ _ c.loop-field.field-index _ (omega (arith, c.loop-field-test.false)) c.loop-field.invariant.named

pub named_fields-returns-clause-count : goal.named_fields-returns-clause-count
named_fields-returns-clause-count t c =
    all_counted (λ f. nameless_in f.schema) nameless_in_all named_all (λ k f. record { name = f.name; doc = f.doc; schema = named k f.schema }) refl (λ x xs. refl) (λ k. refl) (λ k x xs. refl)
    _ c.loop-field.field-index _ _ (omega (arith, c.loop-field-test.false)) c.loop-field.invariant.count

pub named_members-loop-member-preserved : goal.named_members-loop-member-preserved
named_members-loop-member-preserved t c =
    let inv = c.loop-member.invariant in
    let e = c.in_ok-member.ensures in
    record {
      named = rw c.in_ok-push.ensures.items (one_more nameless_in nameless_in_members named_members named refl (λ x xs. refl) (λ k. refl) (λ k x xs. refl)
          _ _ _ _ c.loop-member.member-index c.member-item.result _ _ c.loop-member-test.true c.member-item.is inv.named e.named e.count);
      count = counted_more nameless_in nameless_in_members named_members named refl (λ x xs. refl) (λ k. refl) (λ k x xs. refl)
          _ c.loop-member.member-index _ _ _ c.member-item.result c.loop-member-test.true c.member-item.is inv.count e.count;
    }

pub named_members-returns-clause-named : goal.named_members-returns-clause-named
named_members-returns-clause-named t c =
    c.from_vec.ensures ∙ all_done nameless_in nameless_in_members named_members named refl (λ x xs. refl) (λ k. refl) (λ k x xs. refl)
    _ _ _ c.loop-member.member-index _ (omega (arith, c.loop-member-test.false)) c.loop-member.invariant.named

pub named_members-returns-clause-count : goal.named_members-returns-clause-count
named_members-returns-clause-count t c =
    all_counted nameless_in nameless_in_members named_members named refl (λ x xs. refl) (λ k. refl) (λ k x xs. refl)
    _ c.loop-member.member-index _ _ (omega (arith, c.loop-member-test.false)) c.loop-member.invariant.count

pub named_record-returns-clause-named : goal.named_record-returns-clause-named
named_record-returns-clause-named t c =
    record_is c.args.fixed_types.now c.args.root.now _ _ _ _ _ c.in_ok-try_clone.ensures.copy c.in_ok-cloned.ensures.copy c.in_ok-cloned-2.ensures.copy c.as_slice.ensures c.in_ok-named_fields.ensures.named

pub named_record-returns-clause-count : goal.named_record-returns-clause-count
named_record-returns-clause-count t c = record_count _ _ c.args.root.now _ c.as_slice.ensures c.in_ok-named_fields.ensures.count

pub named_schema-returns-in_ok-new-in-Array-clause-named : goal.named_schema-returns-in_ok-new-in-Array-clause-named
named_schema-returns-in_ok-new-in-Array-clause-named t c =
    array_is c.args.fixed_types.now c.args.schema.now c.in-Array.item _ _ _ c.in-Array.is c.get.ensures c.in_ok-item-in-Array.ensures.named c.in_ok-new-in-Array.ensures.holds

pub named_schema-returns-in_ok-new-in-Array-clause-count : goal.named_schema-returns-in_ok-new-in-Array-clause-count
named_schema-returns-in_ok-new-in-Array-clause-count t c = array_count _ _ c.args.schema.now c.in-Array.item _ c.in-Array.is c.get.ensures c.in_ok-item-in-Array.ensures.count

pub named_schema-returns-in_ok-new-in-Map-clause-named : goal.named_schema-returns-in_ok-new-in-Map-clause-named
named_schema-returns-in_ok-new-in-Map-clause-named t c =
    map_is c.args.fixed_types.now c.args.schema.now c.in-Map.value _ _ _ c.in-Map.is c.get-in-Map.ensures c.in_ok-value-in-Map.ensures.named c.in_ok-new-in-Map.ensures.holds

pub named_schema-returns-in_ok-new-in-Map-clause-count : goal.named_schema-returns-in_ok-new-in-Map-clause-count
named_schema-returns-in_ok-new-in-Map-clause-count t c = map_count _ _ c.args.schema.now c.in-Map.value _ c.in-Map.is c.get-in-Map.ensures c.in_ok-value-in-Map.ensures.count

pub named_schema-returns-in_ok-members-in-Union-clause-named : goal.named_schema-returns-in_ok-members-in-Union-clause-named
named_schema-returns-in_ok-members-in-Union-clause-named t c =
    union_is c.args.fixed_types.now c.args.schema.now c.in-Union.members _ _ c.in-Union.is c.as_slice.ensures c.in_ok-members-in-Union.ensures.named

pub named_schema-returns-in_ok-members-in-Union-clause-count : goal.named_schema-returns-in_ok-members-in-Union-clause-count
named_schema-returns-in_ok-members-in-Union-clause-count t c = union_count _ _ c.args.schema.now c.in-Union.members _ c.in-Union.is c.as_slice.ensures c.in_ok-members-in-Union.ensures.count
