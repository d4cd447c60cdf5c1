-- What lists and structs hold is what their children hold.
use Rattle.std.proofs.Common.{◌∙◌, sym, ap, false, true}
use Rattle.arrow_array.specs.HoldsDictionary.{holds_dictionary}
use Rattle.arrow_array.proofs.HoldsDictionary.{of_children, of_fixed_items, of_items}
use Rattle.arrow_array.proofs.ListSlots.{list_dictionaries_are, list_types_are}
use Rattle.arrow_array.proofs.Windows.{nested_dictionaries_are, nested_types_are}
use Rattle.arrow_array.proofs.+plain.Goals as goal

pub list::ListArray::holds_no_dictionary-returns : goal.list::ListArray::holds_no_dictionary-returns
list::ListArray::holds_no_dictionary-returns t c = λ e.
    let child = rw c.get.ensures at c.holds_no_dictionary.ensures in
    sym (list_dictionaries_are c.self.view_is) ∙ child (of_items false _ _ c.self.invariant.kind (ap holds_dictionary (list_types_are c.self.view_is) ∙ e))

pub list::LargeListArray::holds_no_dictionary-returns : goal.list::LargeListArray::holds_no_dictionary-returns
list::LargeListArray::holds_no_dictionary-returns t c = λ e.
    let child = rw c.get.ensures at c.holds_no_dictionary.ensures in
    sym (list_dictionaries_are c.self.view_is) ∙ child (of_items true _ _ c.self.invariant.kind (ap holds_dictionary (list_types_are c.self.view_is) ∙ e))

pub fixed_size_list::FixedSizeListArray::holds_no_dictionary-returns : goal.fixed_size_list::FixedSizeListArray::holds_no_dictionary-returns
fixed_size_list::FixedSizeListArray::holds_no_dictionary-returns t c = λ e.
    let child = rw c.get.ensures at c.holds_no_dictionary.ensures in
    sym (nested_dictionaries_are c.self.view_is) ∙ child (of_fixed_items _ _ c.self.invariant.fits.kind (ap holds_dictionary (nested_types_are c.self.view_is) ∙ e))

pub structs::StructArray::holds_no_dictionary-returns : goal.structs::StructArray::holds_no_dictionary-returns
structs::StructArray::holds_no_dictionary-returns t c = λ e.
    let children = rw c.as_slice.ensures.value at c.all_hold_no_dictionary.ensures in
    sym (nested_dictionaries_are c.self.view_is) ∙ of_children _ _ _ c.self.invariant.kind children (ap holds_dictionary (nested_types_are c.self.view_is) ∙ e)
