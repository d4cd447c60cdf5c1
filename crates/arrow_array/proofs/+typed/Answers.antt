use Rattle.std.proofs.Common.{pos}
use Rattle.arrow_array.specs.Arrays.{array_slots}
use Rattle.arrow_array.specs.Dictionaries.{keys_slots}
use Rattle.arrow_array.proofs.Dictionaries.{dictionary_slots_are, dictionary_types_are}
use Rattle.arrow_array.proofs.ListSlots.{list_slots_are, list_types_are}
use Rattle.arrow_array.proofs.Typed.{dictionary_typed, fixed_lists_typed, lists_typed, structs_typed}
use Rattle.arrow_array.proofs.Windows.{nested_slots_are, nested_types_are}
use Rattle.arrow_array.proofs.+typed.Goals as goal

pub list::ListArray::slots_are_typed-returns : goal.list::ListArray::slots_are_typed-returns
list::ListArray::slots_are_typed-returns t c =
    let offsets = rw c.as_slice.ensures at c.tell_offset_ranges.ensures in
    let child = rw c.get.ensures at c.slots_are_typed.ensures in
    rw (← list_types_are c.self.view_is) (lists_typed c.self.invariant (list_slots_are c.self.view_is) (λ k n l e. offsets k (pos 0) l n e) child)

pub list::LargeListArray::slots_are_typed-returns : goal.list::LargeListArray::slots_are_typed-returns
list::LargeListArray::slots_are_typed-returns t c =
    let offsets = rw c.as_slice.ensures at c.tell_offset_ranges.ensures in
    let child = rw c.get.ensures at c.slots_are_typed.ensures in
    rw (← list_types_are c.self.view_is) (lists_typed c.self.invariant (list_slots_are c.self.view_is) (λ k n l e. offsets k (pos 0) l n e) child)

pub fixed_size_list::FixedSizeListArray::slots_are_typed-returns : goal.fixed_size_list::FixedSizeListArray::slots_are_typed-returns
fixed_size_list::FixedSizeListArray::slots_are_typed-returns t c =
    let child = rw c.get.ensures at c.slots_are_typed.ensures in
    rw (← nested_types_are c.self.view_is) (fixed_lists_typed (array_slots c.self.inside.values) c.self.invariant (nested_slots_are c.self.view_is) child)

pub structs::StructArray::slots_are_typed-returns : goal.structs::StructArray::slots_are_typed-returns
structs::StructArray::slots_are_typed-returns t c =
    let children = rw c.as_slice.ensures.value at c.all_are_typed.ensures in
    rw (← nested_types_are c.self.view_is) (structs_typed c.self.invariant (nested_slots_are c.self.view_is) children)

pub dictionary::DictionaryArray::slots_are_typed-returns : goal.dictionary::DictionaryArray::slots_are_typed-returns
dictionary::DictionaryArray::slots_are_typed-returns t c =
    let child = rw c.get.ensures at c.slots_are_typed.ensures in
    rw (← dictionary_types_are c.self.view_is)
    (dictionary_typed _ _ _ c.self.invariant.kind (array_slots c.self.inside.values) (keys_slots c.self.inside.keys) _ (dictionary_slots_are c.self.view_is) c.self.invariant.keys_fit child)
