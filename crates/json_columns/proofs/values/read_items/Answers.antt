use Rattle.std.proofs.Common.{inl, inr, ap, sym, ◌∙◌}
use Rattle.arrow_core.specs.declared.types.DataType.TheVariants as types
use Rattle.json_columns.proofs.Refusing.{listed_column, listed_refusal}
use Rattle.json_columns.proofs.values.read_items.Goals as goal

pub returns-in-List-clause-column : goal.returns-in-List-clause-column
returns-in-List-clause-column c = listed_column c.args.items.now c.args.data_type.now c.get.result.now c.read_values.result (inl (c.in-List.is ∙ ap types.List (sym c.get.ensures))) c.read_values.ensures.distinct c.read_values.ensures.readable c.read_values.ensures.data_type c.read_values.ensures.slots c.read_values.ensures.counted

pub returns-in-List-clause-err : goal.returns-in-List-clause-err
returns-in-List-clause-err c = listed_refusal c.args.items.now c.args.data_type.now c.get.result.now c.read_values.result (inl (c.in-List.is ∙ ap types.List (sym c.get.ensures))) c.read_values.ensures.err

pub returns-in-LargeList-clause-column : goal.returns-in-LargeList-clause-column
returns-in-LargeList-clause-column c = listed_column c.args.items.now c.args.data_type.now c.get-in-LargeList.result.now c.read_values-in-LargeList.result (inr (c.in-LargeList.is ∙ ap types.LargeList (sym c.get-in-LargeList.ensures))) c.read_values-in-LargeList.ensures.distinct c.read_values-in-LargeList.ensures.readable c.read_values-in-LargeList.ensures.data_type c.read_values-in-LargeList.ensures.slots c.read_values-in-LargeList.ensures.counted

pub returns-in-LargeList-clause-err : goal.returns-in-LargeList-clause-err
returns-in-LargeList-clause-err c = listed_refusal c.args.items.now c.args.data_type.now c.get-in-LargeList.result.now c.read_values-in-LargeList.result (inr (c.in-LargeList.is ∙ ap types.LargeList (sym c.get-in-LargeList.ensures))) c.read_values-in-LargeList.ensures.err
