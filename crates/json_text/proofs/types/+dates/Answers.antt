-- A list, a struct and a dictionary hold dates where what stands in them does.
use Rattle.std.proofs.Common.{ap, sym, ◌∙◌, false, true, arith}
use Rattle.arrow_core.specs.declared.types.DataType.TheVariants as types
use Rattle.arrow_core.specs.declared.types.Field.{Field}
use Rattle.json_text.specs.Refusals.{in_range}
use Rattle.json_text.proofs.Beneath.{list_without_dates, fixed_list_without_dates, struct_without_dates, dictionary_without_dates, on_false_map, one_more_without_dates}
use Rattle.json_text.proofs.types.+dates.Goals as goal

pub holds_dates-returns-in-Struct : goal.holds_dates-returns-in-Struct
holds_dates-returns-in-Struct t c = on_false_map _ _ _ (λ h. struct_without_dates _ _ (c.in-Struct.is ∙ ap types.Struct (sym c.as_slice.ensures)) h) c.hold_dates.ensures

pub holds_dates-returns-in-List : goal.holds_dates-returns-in-List
holds_dates-returns-in-List t c = on_false_map _ _ _ (λ h. list_without_dates false _ _ c.in-List.is (λ x. ap (λ (f : Field). in_range f.data_type x) (sym c.get.ensures) ∙ h x)) c.holds_dates.ensures

pub holds_dates-returns-in-LargeList : goal.holds_dates-returns-in-LargeList
holds_dates-returns-in-LargeList t c = on_false_map _ _ _ (λ h. list_without_dates true _ _ c.in-LargeList.is (λ x. ap (λ (f : Field). in_range f.data_type x) (sym c.get-in-LargeList.ensures) ∙ h x)) c.holds_dates-in-LargeList.ensures

pub holds_dates-returns-in-FixedSizeList : goal.holds_dates-returns-in-FixedSizeList
holds_dates-returns-in-FixedSizeList t c = on_false_map _ _ _ (λ h. fixed_list_without_dates _ _ _ c.in-FixedSizeList.is (λ x. ap (λ (f : Field). in_range f.data_type x) (sym c.get-in-FixedSizeList.ensures) ∙ h x)) c.holds_dates-in-FixedSizeList.ensures

pub holds_dates-returns-in-Dictionary : goal.holds_dates-returns-in-Dictionary
holds_dates-returns-in-Dictionary t c = on_false_map _ _ _ (λ h. dictionary_without_dates _ _ _ _ c.in-Dictionary.is (λ x. ap (λ z. in_range z x) (sym c.get-in-Dictionary.ensures) ∙ h x)) c.holds_dates-in-Dictionary.ensures

pub hold_dates-loop-field-preserved : goal.hold_dates-loop-field-preserved
hold_dates-loop-field-preserved t c =
    one_more_without_dates c.args.fields.now c.loop-field.field-index c.field-item.result (omega arith) c.field-item.is c.loop-field.invariant (rw c.if-holds_dates.false at c.holds_dates.ensures)
