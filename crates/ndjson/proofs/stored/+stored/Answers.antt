use Rattle.std.proofs.Common.{◌≡◌, subst, sym, List}
use Rattle.std.proofs.lemmas.Result.{IfOk-weaker}
use Rattle.arrow_core.specs.declared.types.DataType.TheVariants as types
use Rattle.arrow_core.specs.declared.types.Field.{Field}
use Rattle.json_line.proofs.Making.{taken-all}
use Rattle.ndjson.specs.LineColumns.{AreStoredFor, IsStoredType}
use Rattle.ndjson.proofs.Readings.{stored_more}
use Rattle.ndjson.proofs.StoredTypes.{large_list_stored, list_stored, sized_list_stored, struct_stored, value_stored}
use Rattle.ndjson.proofs.stored.+stored.Goals as goal

pub stored_type-returns-in_ok-new-in-List-clause-stored : goal.stored_type-returns-in_ok-new-in-List-clause-stored
stored_type-returns-in_ok-new-in-List-clause-stored t c =
    subst (λ (f : Field). IsStoredType c.args.data_type.now (types.List f)) (sym c.in_ok-new-in-List.ensures.holds)
    (list_stored c.args.data_type.now c.in-List.item c.get.result.now c.in_ok-item-in-List.item c.in-List.is c.get.ensures c.in_ok-item-in-List.ensures.stored.data_type)

pub stored_type-returns-in_ok-new-in-LargeList-clause-stored : goal.stored_type-returns-in_ok-new-in-LargeList-clause-stored
stored_type-returns-in_ok-new-in-LargeList-clause-stored t c =
    subst (λ (f : Field). IsStoredType c.args.data_type.now (types.LargeList f)) (sym c.in_ok-new-in-LargeList.ensures.holds)
    (large_list_stored c.args.data_type.now c.in-LargeList.item c.get-in-LargeList.result.now c.in_ok-item-in-LargeList.item c.in-LargeList.is c.get-in-LargeList.ensures c.in_ok-item-in-LargeList.ensures.stored.data_type)

pub stored_type-returns-in_ok-new-in-FixedSizeList-clause-stored : goal.stored_type-returns-in_ok-new-in-FixedSizeList-clause-stored
stored_type-returns-in_ok-new-in-FixedSizeList-clause-stored t c =
    subst (λ (f : Field). IsStoredType c.args.data_type.now (types.FixedSizeList f c.in-FixedSizeList.size)) (sym c.in_ok-new-in-FixedSizeList.ensures.holds)
    (sized_list_stored c.args.data_type.now c.in-FixedSizeList.item c.get-in-FixedSizeList.result.now c.in_ok-item-in-FixedSizeList.item c.in-FixedSizeList.size c.in-FixedSizeList.is c.get-in-FixedSizeList.ensures c.in_ok-item-in-FixedSizeList.ensures.stored.data_type)

pub stored_type-returns-in_ok-fields-in-Struct-clause-stored : goal.stored_type-returns-in_ok-fields-in-Struct-clause-stored
stored_type-returns-in_ok-fields-in-Struct-clause-stored t c =
    subst (λ (fs : List Field). IsStoredType c.args.data_type.now (types.Struct fs)) (sym c.from_vec.ensures)
    (struct_stored c.args.data_type.now c.in-Struct.fields c.as_slice.result.now c.in_ok-fields-in-Struct.fields.items c.in-Struct.is c.as_slice.ensures c.in_ok-fields-in-Struct.ensures.stored)

pub stored_fields-loop-field-preserved : goal.stored_fields-loop-field-preserved
stored_fields-loop-field-preserved t c =
    stored_more c.args.fields.now c.loop-field.field-index c.field-item.result c.in_ok-field.field c.loop-field.stored.items _ c.loop-field-test.true c.field-item.is c.in_ok-field.ensures.stored c.in_ok-push.ensures.items c.loop-field.invariant

pub stored_fields-returns-clause-stored : goal.stored_fields-returns-clause-stored
stored_fields-returns-clause-stored t c =
    subst (λ (fs : List Field). AreStoredFor fs c.loop-field.stored.items) (taken-all c.args.fields.now c.loop-field.field-index c.loop-field-test.false) c.loop-field.invariant

pub stored_type-returns-in-Dictionary-clause-stored : goal.stored_type-returns-in-Dictionary-clause-stored
stored_type-returns-in-Dictionary-clause-stored t c =
    IfOk-weaker c.try_clone.result (λ x. x ≡ c.get-in-Dictionary.result.now) (IsStoredType c.args.data_type.now)
    (λ x e. value_stored c.args.data_type.now c.in-Dictionary.field-0 c.in-Dictionary.value c.get-in-Dictionary.result.now x c.in-Dictionary.field-2 c.in-Dictionary.is c.get-in-Dictionary.ensures e) c.try_clone.ensures.copy
