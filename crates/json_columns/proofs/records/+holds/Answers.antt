-- The type of lists is tested by that of its items.
use Rattle.std.proofs.Common.{ap, sym, ◌∙◌}
use Rattle.arrow_core.specs.declared.types.Field.{Field}
use Rattle.json_columns.specs.Records.{holds_more}
use Rattle.json_columns.proofs.RecordLaws.{list_holds, fixed_list_holds}
use Rattle.json_columns.proofs.records.+holds.Goals as goal

pub returns-in-List : goal.returns-in-List
returns-in-List t c = c.holds_more.ensures ∙ ap (λ (f : Field). holds_more f.data_type) c.get.ensures ∙ sym (ap holds_more c.in-List.is ∙ list_holds c.in-List.item)

pub returns-in-FixedSizeList : goal.returns-in-FixedSizeList
returns-in-FixedSizeList t c =
    c.holds_more-in-FixedSizeList.ensures ∙ ap (λ (f : Field). holds_more f.data_type) c.get-in-FixedSizeList.ensures ∙ sym (ap holds_more c.in-FixedSizeList.is ∙ fixed_list_holds c.in-FixedSizeList.item c.in-FixedSizeList.field-1)
