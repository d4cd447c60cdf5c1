-- The integers of a list and a dictionary are those of its items and values.
use Rattle.std.proofs.Common.{subst, true, false}
use Rattle.arrow_core.specs.declared.types.DataType.{DataType}
use Rattle.arrow_core.specs.declared.types.Field.{Field}
use Rattle.json_text.specs.Columns.{IsForm}
use Rattle.json_text.proofs.ColumnLemmas.{of_list, of_fixed_list, of_dictionary}
use Rattle.json_text.proofs.integers.+integer_form.Goals as goal

pub returns-in-List : goal.returns-in-List
returns-in-List t c = of_list false _ _ _ c.in-List.is (subst (λ (f : Field). IsForm c.integer_form.result f.data_type) c.get.ensures c.integer_form.ensures)

pub returns-in-LargeList : goal.returns-in-LargeList
returns-in-LargeList t c = of_list true _ _ _ c.in-LargeList.is (subst (λ (f : Field). IsForm c.integer_form-in-LargeList.result f.data_type) c.get-in-LargeList.ensures c.integer_form-in-LargeList.ensures)

pub returns-in-FixedSizeList : goal.returns-in-FixedSizeList
returns-in-FixedSizeList t c = of_fixed_list _ _ _ _ c.in-FixedSizeList.is (subst (λ (f : Field). IsForm c.integer_form-in-FixedSizeList.result f.data_type) c.get-in-FixedSizeList.ensures c.integer_form-in-FixedSizeList.ensures)

pub returns-in-Dictionary : goal.returns-in-Dictionary
returns-in-Dictionary t c = of_dictionary _ _ _ _ _ c.in-Dictionary.is (subst (λ (u : DataType). IsForm c.integer_form-in-Dictionary.result u) c.get-in-Dictionary.ensures c.integer_form-in-Dictionary.ensures)
