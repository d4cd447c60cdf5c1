-- A list and a dictionary have the columns of their items and values, and a struct those of its fields.
use Rattle.std.proofs.Common.{ap, sym, ◌∙◌, subst, true, false, arith}
use Rattle.std.proofs.lemmas.Result.{IfOk-weaker}
use Rattle.arrow_core.specs.declared.types.DataType.{DataType}
use Rattle.arrow_core.specs.declared.types.DataType.TheVariants as types
use Rattle.arrow_core.specs.declared.types.Field.{Field}
use Rattle.json_text.specs.Columns.{AreWithin}
use Rattle.json_text.proofs.ColumnLemmas.{within_list, within_fixed_list, within_dictionary, within_struct, one_more_field}
use Rattle.json_text.proofs.columns.+columns.Goals as goal

pub columns_within-returns-in-List : goal.columns_within-returns-in-List
columns_within-returns-in-List t c = IfOk-weaker c.columns_within.result _ _ (λ cs h. within_list false _ _ cs.items c.in-List.is (subst (λ (f : Field). AreWithin f.data_type cs.items) c.get.ensures h)) c.columns_within.ensures

pub columns_within-returns-in-LargeList : goal.columns_within-returns-in-LargeList
columns_within-returns-in-LargeList t c = IfOk-weaker c.columns_within-in-LargeList.result _ _ (λ cs h. within_list true _ _ cs.items c.in-LargeList.is (subst (λ (f : Field). AreWithin f.data_type cs.items) c.get-in-LargeList.ensures h)) c.columns_within-in-LargeList.ensures

pub columns_within-returns-in-FixedSizeList : goal.columns_within-returns-in-FixedSizeList
columns_within-returns-in-FixedSizeList t c = IfOk-weaker c.columns_within-in-FixedSizeList.result _ _ (λ cs h. within_fixed_list _ _ _ cs.items c.in-FixedSizeList.is (subst (λ (f : Field). AreWithin f.data_type cs.items) c.get-in-FixedSizeList.ensures h)) c.columns_within-in-FixedSizeList.ensures

pub columns_within-returns-in-Dictionary : goal.columns_within-returns-in-Dictionary
columns_within-returns-in-Dictionary t c = IfOk-weaker c.columns_within-in-Dictionary.result _ _ (λ cs h. within_dictionary _ _ _ _ cs.items c.in-Dictionary.is (subst (λ (u : DataType). AreWithin u cs.items) c.get-in-Dictionary.ensures h)) c.columns_within-in-Dictionary.ensures

pub columns_within-returns-in-Struct : goal.columns_within-returns-in-Struct
columns_within-returns-in-Struct t c = IfOk-weaker c.columns_of.result _ _ (λ cs h. within_struct _ _ cs.items (c.in-Struct.is ∙ ap types.Struct (sym c.as_slice.ensures)) h) c.columns_of.ensures

pub columns_of-loop-field-preserved : goal.columns_of-loop-field-preserved
columns_of-loop-field-preserved t c =
    one_more_field c.args.fields.now c.loop-field.field-index c.field-item.result _ c.loop-field.columns.items _ (omega arith) c.field-item.is c.as_str.ensures c.loop-field.invariant c.in_ok-add_column.ensures.ok
