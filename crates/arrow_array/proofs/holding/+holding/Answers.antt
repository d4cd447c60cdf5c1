-- The type of lists holds what that of its items holds, and a struct's what its fields' hold.
use Rattle.std.proofs.Common.{ap, sym, ◌∙◌, false, true}
use Rattle.arrow_core.specs.declared.types.DataType.TheVariants as types
use Rattle.arrow_core.specs.declared.types.Field.{Field}
use Rattle.arrow_array.specs.HoldsDictionary.{holds_dictionary}
use Rattle.arrow_array.proofs.HoldsDictionary.{fixed_list_holds, list_holds, struct_holds}
use Rattle.arrow_array.proofs.holding.+holding.Goals as goal

pub holds_dictionary-returns-in-List : goal.holds_dictionary-returns-in-List
holds_dictionary-returns-in-List t c = c.holds_dictionary.ensures ∙ ap (λ (f : Field). holds_dictionary f.data_type) c.get.ensures ∙ sym (ap holds_dictionary c.in-List.is ∙ list_holds false c.in-List.item)

pub holds_dictionary-returns-in-LargeList : goal.holds_dictionary-returns-in-LargeList
holds_dictionary-returns-in-LargeList t c = c.holds_dictionary-in-LargeList.ensures ∙ ap (λ (f : Field). holds_dictionary f.data_type) c.get-in-LargeList.ensures ∙ sym (ap holds_dictionary c.in-LargeList.is ∙ list_holds true c.in-LargeList.item)

pub holds_dictionary-returns-in-FixedSizeList : goal.holds_dictionary-returns-in-FixedSizeList
holds_dictionary-returns-in-FixedSizeList t c =
    c.holds_dictionary-in-FixedSizeList.ensures ∙ ap (λ (f : Field). holds_dictionary f.data_type) c.get-in-FixedSizeList.ensures
    ∙ sym (ap holds_dictionary c.in-FixedSizeList.is ∙ fixed_list_holds c.in-FixedSizeList.item c.in-FixedSizeList.field-1)

pub holds_dictionary-returns-in-Struct : goal.holds_dictionary-returns-in-Struct
holds_dictionary-returns-in-Struct t c = c.any_holds_dictionary.ensures ∙ sym (ap holds_dictionary (c.in-Struct.is ∙ ap types.Struct (sym c.as_slice.ensures)) ∙ struct_holds c.as_slice.result.now)
