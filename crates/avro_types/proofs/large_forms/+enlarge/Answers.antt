use Rattle.std.proofs.Common.{◌∙◌, map, take, sym, ap, arith}
use Rattle.std.proofs.lemmas.List.{take_all}
use Rattle.arrow_core.specs.declared.types.DataType.TheVariants as types
use Rattle.avro_types.specs.Enlarged.{large_form, enlarged}
use Rattle.avro_types.proofs.Enlarging.{more_large, large_of_list, large_of_large_list, large_of_fixed_list, large_of_map, large_of_extension, large_of_struct, large_of_union}
use Rattle.avro_types.proofs.large_forms.+enlarge.Goals as goal

pub enlarge_type-returns-in_ok-enlarge_item-in-List-clause-large : goal.enlarge_type-returns-in_ok-enlarge_item-in-List-clause-large
enlarge_type-returns-in_ok-enlarge_item-in-List-clause-large t c =
    ap types.LargeList c.in_ok-enlarge_item-in-List.ensures.large ∙ sym (ap large_form c.in-List.is ∙ large_of_list c.in-List.item)

pub enlarge_type-returns-in_ok-enlarge_item-in-LargeList-clause-large : goal.enlarge_type-returns-in_ok-enlarge_item-in-LargeList-clause-large
enlarge_type-returns-in_ok-enlarge_item-in-LargeList-clause-large t c =
    ap types.LargeList c.in_ok-enlarge_item-in-LargeList.ensures.large ∙ sym (ap large_form c.in-LargeList.is ∙ large_of_large_list c.in-LargeList.item)

pub enlarge_type-returns-in_ok-enlarge_item-in-FixedSizeList-clause-large : goal.enlarge_type-returns-in_ok-enlarge_item-in-FixedSizeList-clause-large
enlarge_type-returns-in_ok-enlarge_item-in-FixedSizeList-clause-large t c =
    ap (λ f. types.FixedSizeList f c.in-FixedSizeList.size) c.in_ok-enlarge_item-in-FixedSizeList.ensures.large ∙ sym (ap large_form c.in-FixedSizeList.is ∙ large_of_fixed_list c.in-FixedSizeList.item c.in-FixedSizeList.size)

pub enlarge_type-returns-in_ok-enlarge_fields-in-Struct-clause-large : goal.enlarge_type-returns-in_ok-enlarge_fields-in-Struct-clause-large
enlarge_type-returns-in_ok-enlarge_fields-in-Struct-clause-large t c =
    ap types.Struct c.in_ok-enlarge_fields-in-Struct.ensures.large ∙ sym (ap large_form c.in-Struct.is ∙ large_of_struct c.in-Struct.fields)

pub enlarge_type-returns-in_ok-enlarge_item-in-Map-clause-large : goal.enlarge_type-returns-in_ok-enlarge_item-in-Map-clause-large
enlarge_type-returns-in_ok-enlarge_item-in-Map-clause-large t c =
    ap (λ f. types.Map f c.in-Map.sorted) c.in_ok-enlarge_item-in-Map.ensures.large ∙ sym (ap large_form c.in-Map.is ∙ large_of_map c.in-Map.entries c.in-Map.sorted)

pub enlarge_type-returns-in_ok-copy_ids-in-Union-clause-large : goal.enlarge_type-returns-in_ok-copy_ids-in-Union-clause-large
enlarge_type-returns-in_ok-copy_ids-in-Union-clause-large t c =
    (λ i. types.Union (c.in_ok-enlarge_fields-in-Union.ensures.large i) (c.in_ok-copy_ids-in-Union.ensures.copy i) c.in-Union.mode) ∙ sym (ap large_form c.in-Union.is ∙ large_of_union c.in-Union.fields c.in-Union.ids c.in-Union.mode)

pub enlarge_type-returns-in_ok-copy_text-in-Extension-clause-large : goal.enlarge_type-returns-in_ok-copy_text-in-Extension-clause-large
enlarge_type-returns-in_ok-copy_text-in-Extension-clause-large t c =
    (λ i. types.Extension (c.in_ok-try_clone-in-Extension.ensures.copy i) (c.in_ok-enlarge_inner-in-Extension.ensures.large i) (c.in_ok-copy_text-in-Extension.ensures.copy i)) ∙ sym (ap large_form c.in-Extension.is ∙ large_of_extension c.in-Extension.name c.in-Extension.inner c.in-Extension.metadata)

pub enlarge_fields-loop-field-preserved : goal.enlarge_fields-loop-field-preserved
enlarge_fields-loop-field-preserved t c =
    let inv = c.loop-field.invariant in
    (more_large _ c.loop-field.field-index c.field-item.result c.in_ok-field.field _ _ c.loop-field-test.true inv.0 c.field-item.is c.in_ok-field.ensures.large c.in_ok-push.ensures.items, inv.1)

pub enlarge_fields-returns-clause-large : goal.enlarge_fields-returns-clause-large
enlarge_fields-returns-clause-large t c =
    let inv = c.loop-field.invariant in
    c.from_vec.ensures ∙ inv.0 ∙ ap (map enlarged) (take_all c.loop-field.field-index _ (omega (arith, c.loop-field-test.false)) ∙ inv.1)
