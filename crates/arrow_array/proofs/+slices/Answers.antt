use mathlib.Core.Path.{ap, ◌∙◌}
use denote.Param.Weighed.{most}
use Rattle.std.proofs.Common.{[], ◌∷◌, ◌≡◌, ◌+◌, ◌*◌, ◌<◌, arith, add-one, length, take, drop}
use Rattle.arrow_core.specs.declared.types.DataType.{size-DataType}
use Rattle.arrow_array.specs.Arrays.{array_slots, array_type}
use Rattle.arrow_array.specs.Columns.{NestedColumn}
use Rattle.arrow_array.specs.Dictionaries.{keys_slots}
use Rattle.arrow_array.specs.FixedLists.{list_size}
use Rattle.arrow_array.specs.Falls.{fixed_list_falls, struct_falls, sizes_below}
use Rattle.arrow_array.specs.declared.dictionary.DictionaryArray.TheDeep.{deep-Array, size-Array}
use Rattle.arrow_array.proofs.Cuts.{bytes_within}
use Rattle.arrow_array.proofs.Dictionaries.{dictionary_slots_are, dictionary_types_are, dictionary_keys_are, dictionary_items_are, count_keys, keys_cut, slots_cut}
use Rattle.arrow_array.proofs.FixedLists.{count_fixed, cut_fixed, cut_fixed_parts}
use Rattle.arrow_array.proofs.ListSlots.{list_slots_are, list_types_are, list_offsets_are, list_items_are, count_lists, cut_list_parts, cut_lists, whole}
use Rattle.arrow_array.proofs.Records.{count_records, cut_struct, cut_records, one_more_cut, capacity}
use Rattle.arrow_array.proofs.Windows.{nested_slots_are, nested_types_are}
use Rattle.arrow_array.proofs.+slices.Goals as goal

pub list::ListArray::slice-slice_with_type-parts-requires-clause-fits : goal.list::ListArray::slice-slice_with_type-parts-requires-clause-fits
list::ListArray::slice-slice_with_type-parts-requires-clause-fits t c = rw (c.len-len.ensures, ← count_lists c.self.invariant (list_slots_are c.self.view_is)) c.self.invariant.validity_fits

pub list::ListArray::slice-slice_and_next-requires : goal.list::ListArray::slice-slice_and_next-requires
list::ListArray::slice-slice_and_next-requires t c =
    omega (arith, c.requires, count_lists c.self.invariant (list_slots_are c.self.view_is), c.self.invariant.offsets_fit.filled)

pub list::ListArray::slice-invariant_of-result : goal.list::ListArray::slice-invariant_of-result
list::ListArray::slice-invariant_of-result t c =
    let l : c.args.offset + c.args.count < length c.self.inside.offsets = omega (arith, c.requires, count_lists c.self.invariant (list_slots_are c.self.view_is), c.self.invariant.offsets_fit.filled) in
    let first = rw c.in_ok-offsets.ensures.first at c.both-shared.ensures.first in
    let second = rw c.in_ok-offsets.ensures.first at c.both-shared.ensures.second in
    let offsets = rw first at c.slice_and_next.ensures.values in
    let child = rw second at c.boxed-values.ensures.value in
    let slots = rw child at c.slice.ensures.slots in
    let type = rw child at c.slice.ensures.data_type in
    let items : array_slots c.in_ok-offsets.values ≡ array_slots c.self.inside.values = slots ∙ whole _ _ c.len.ensures ∙ ap array_slots c.get-child.ensures in
    let kind : array_type c.in_ok-offsets.values ≡ array_type c.self.inside.values = type ∙ ap array_type c.get-child.ensures in
    let data_type = rw c.in_ok-offsets.ensures.second at c.slice_with_type-parts.ensures.data_type in
    let cut = rw c.in_ok-offsets.ensures.second at c.slice_with_type-parts.ensures.cut in
    rw (offsets, items, kind) (cut_list_parts _ _ _ _ _ _ c.self.invariant c.args.offset c.args.count l c.in_ok-offsets.validity cut c.in_ok-offsets.data_type data_type)

pub list::ListArray::slice-returns-clause-data_type : goal.list::ListArray::slice-returns-clause-data_type
list::ListArray::slice-returns-clause-data_type t c =
    let data_type = rw c.in_ok-offsets.ensures.second at c.slice_with_type-parts.ensures.data_type in
    data_type ∙ list_types_are c.self.view_is

pub list::ListArray::slice-returns-clause-slots : goal.list::ListArray::slice-returns-clause-slots
list::ListArray::slice-returns-clause-slots t c =
    let l : c.args.offset + c.args.count < length c.self.inside.offsets = omega (arith, c.requires, count_lists c.self.invariant (list_slots_are c.self.view_is), c.self.invariant.offsets_fit.filled) in
    let first = rw c.in_ok-offsets.ensures.first at c.both-shared.ensures.first in
    let second = rw c.in_ok-offsets.ensures.first at c.both-shared.ensures.second in
    let offsets = rw first at c.slice_and_next.ensures.values in
    let child = rw second at c.boxed-values.ensures.value in
    let slots = rw child at c.slice.ensures.slots in
    let items : array_slots c.in_ok-offsets.values ≡ array_slots c.self.inside.values = slots ∙ whole _ _ c.len.ensures ∙ ap array_slots c.get-child.ensures in
    let cut = rw c.in_ok-offsets.ensures.second at c.slice_with_type-parts.ensures.cut in
    rw (offsets, items) (cut_lists _ _ _ _ _ _ c.self.invariant c.args.offset c.args.count l c.in_ok-offsets.validity cut _ (list_slots_are c.self.view_is))

pub list::ListArray::slice-returns-clause-offsets : goal.list::ListArray::slice-returns-clause-offsets
list::ListArray::slice-returns-clause-offsets t c =
    let first = rw c.in_ok-offsets.ensures.first at c.both-shared.ensures.first in
    let offsets = rw first at c.slice_and_next.ensures.values in
    offsets ∙ ap (λ z. take (c.args.count + 1) (drop c.args.offset z)) (list_offsets_are c.self.view_is)

pub list::ListArray::slice-returns-clause-items : goal.list::ListArray::slice-returns-clause-items
list::ListArray::slice-returns-clause-items t c =
    let second = rw c.in_ok-offsets.ensures.first at c.both-shared.ensures.second in
    let child = rw second at c.boxed-values.ensures.value in
    let slots = rw child at c.slice.ensures.slots in
    slots ∙ whole _ _ c.len.ensures ∙ ap array_slots c.get-child.ensures ∙ list_items_are c.self.view_is

pub list::LargeListArray::slice-slice_with_type-parts-requires-clause-fits : goal.list::LargeListArray::slice-slice_with_type-parts-requires-clause-fits
list::LargeListArray::slice-slice_with_type-parts-requires-clause-fits t c = rw (c.len-len.ensures, ← count_lists c.self.invariant (list_slots_are c.self.view_is)) c.self.invariant.validity_fits

pub list::LargeListArray::slice-slice_and_next-requires : goal.list::LargeListArray::slice-slice_and_next-requires
list::LargeListArray::slice-slice_and_next-requires t c =
    omega (arith, c.requires, count_lists c.self.invariant (list_slots_are c.self.view_is), c.self.invariant.offsets_fit.filled)

pub list::LargeListArray::slice-invariant_of-result : goal.list::LargeListArray::slice-invariant_of-result
list::LargeListArray::slice-invariant_of-result t c =
    let l : c.args.offset + c.args.count < length c.self.inside.offsets = omega (arith, c.requires, count_lists c.self.invariant (list_slots_are c.self.view_is), c.self.invariant.offsets_fit.filled) in
    let first = rw c.in_ok-offsets.ensures.first at c.both-shared.ensures.first in
    let second = rw c.in_ok-offsets.ensures.first at c.both-shared.ensures.second in
    let offsets = rw first at c.slice_and_next.ensures.values in
    let child = rw second at c.boxed-values.ensures.value in
    let slots = rw child at c.slice.ensures.slots in
    let type = rw child at c.slice.ensures.data_type in
    let items : array_slots c.in_ok-offsets.values ≡ array_slots c.self.inside.values = slots ∙ whole _ _ c.len.ensures ∙ ap array_slots c.get-child.ensures in
    let kind : array_type c.in_ok-offsets.values ≡ array_type c.self.inside.values = type ∙ ap array_type c.get-child.ensures in
    let data_type = rw c.in_ok-offsets.ensures.second at c.slice_with_type-parts.ensures.data_type in
    let cut = rw c.in_ok-offsets.ensures.second at c.slice_with_type-parts.ensures.cut in
    rw (offsets, items, kind) (cut_list_parts _ _ _ _ _ _ c.self.invariant c.args.offset c.args.count l c.in_ok-offsets.validity cut c.in_ok-offsets.data_type data_type)

pub list::LargeListArray::slice-returns-clause-data_type : goal.list::LargeListArray::slice-returns-clause-data_type
list::LargeListArray::slice-returns-clause-data_type t c =
    let data_type = rw c.in_ok-offsets.ensures.second at c.slice_with_type-parts.ensures.data_type in
    data_type ∙ list_types_are c.self.view_is

pub list::LargeListArray::slice-returns-clause-slots : goal.list::LargeListArray::slice-returns-clause-slots
list::LargeListArray::slice-returns-clause-slots t c =
    let l : c.args.offset + c.args.count < length c.self.inside.offsets = omega (arith, c.requires, count_lists c.self.invariant (list_slots_are c.self.view_is), c.self.invariant.offsets_fit.filled) in
    let first = rw c.in_ok-offsets.ensures.first at c.both-shared.ensures.first in
    let second = rw c.in_ok-offsets.ensures.first at c.both-shared.ensures.second in
    let offsets = rw first at c.slice_and_next.ensures.values in
    let child = rw second at c.boxed-values.ensures.value in
    let slots = rw child at c.slice.ensures.slots in
    let items : array_slots c.in_ok-offsets.values ≡ array_slots c.self.inside.values = slots ∙ whole _ _ c.len.ensures ∙ ap array_slots c.get-child.ensures in
    let cut = rw c.in_ok-offsets.ensures.second at c.slice_with_type-parts.ensures.cut in
    rw (offsets, items) (cut_lists _ _ _ _ _ _ c.self.invariant c.args.offset c.args.count l c.in_ok-offsets.validity cut _ (list_slots_are c.self.view_is))

pub list::LargeListArray::slice-returns-clause-offsets : goal.list::LargeListArray::slice-returns-clause-offsets
list::LargeListArray::slice-returns-clause-offsets t c =
    let first = rw c.in_ok-offsets.ensures.first at c.both-shared.ensures.first in
    let offsets = rw first at c.slice_and_next.ensures.values in
    offsets ∙ ap (λ z. take (c.args.count + 1) (drop c.args.offset z)) (list_offsets_are c.self.view_is)

pub list::LargeListArray::slice-returns-clause-items : goal.list::LargeListArray::slice-returns-clause-items
list::LargeListArray::slice-returns-clause-items t c =
    let second = rw c.in_ok-offsets.ensures.first at c.both-shared.ensures.second in
    let child = rw second at c.boxed-values.ensures.value in
    let slots = rw child at c.slice.ensures.slots in
    slots ∙ whole _ _ c.len.ensures ∙ ap array_slots c.get-child.ensures ∙ list_items_are c.self.view_is

pub structs::StructArray::slice-slice_with_type-parts-requires-clause-within : goal.structs::StructArray::slice-slice_with_type-parts-requires-clause-within
structs::StructArray::slice-slice_with_type-parts-requires-clause-within t c = omega (arith, c.requires, count_records c.self.invariant (nested_slots_are c.self.view_is))

pub structs::StructArray::slice-slice_all-values-requires : goal.structs::StructArray::slice-slice_all-values-requires
structs::StructArray::slice-slice_all-values-requires t c =
    let n = count_records c.self.invariant (nested_slots_are c.self.view_is) in
    let d = c.decreases in
    let k = struct_falls c.self.inside.data_type c.self.inside.values.items c.self.inside.count c.self.invariant.kind in (
      omega (arith, d, k, ap (λ z. most size-Array z) c.as_slice.ensures.value, ap (λ z. most deep-Array z) c.as_slice.ensures.value, ap (λ (a : NestedColumn). size-DataType a.data_type) c.self.view_is, sizes_below c.self.inside.values.items),
      rw c.as_slice.ensures.value (capacity _ _ _ _ c.self.invariant.kind (omega (arith, n, c.requires))),
    )

pub structs::StructArray::slice-invariant_of-result : goal.structs::StructArray::slice-invariant_of-result
structs::StructArray::slice-invariant_of-result t c =
    let n = count_records c.self.invariant (nested_slots_are c.self.view_is) in
    let cuts = rw (c.in_ok-values.ensures.first, c.as_slice.ensures.value) at c.slice_all-values.ensures.cuts in
    let data_type = rw c.in_ok-values.ensures.second at c.slice_with_type-parts.ensures.data_type in
    let cut = rw c.in_ok-values.ensures.second at c.slice_with_type-parts.ensures.cut in
    cut_struct _ _ c.self.inside.count c.args.offset c.args.count _ _ _ _ c.self.invariant data_type (omega (arith, n, c.requires)) cuts cut

pub structs::StructArray::slice-returns-clause-data_type : goal.structs::StructArray::slice-returns-clause-data_type
structs::StructArray::slice-returns-clause-data_type t c =
    let data_type = rw c.in_ok-values.ensures.second at c.slice_with_type-parts.ensures.data_type in
    data_type ∙ nested_types_are c.self.view_is

pub structs::StructArray::slice-returns-clause-slots : goal.structs::StructArray::slice-returns-clause-slots
structs::StructArray::slice-returns-clause-slots t c =
    let n = count_records c.self.invariant (nested_slots_are c.self.view_is) in
    let cuts = rw (c.in_ok-values.ensures.first, c.as_slice.ensures.value) at c.slice_all-values.ensures.cuts in
    let cut = rw c.in_ok-values.ensures.second at c.slice_with_type-parts.ensures.cut in
    cut_records c.self.inside.data_type c.self.inside.count c.args.offset c.args.count c.self.inside.values.items c.in_ok-values.values.items _ c.in_ok-values.validity _ c.self.invariant (nested_slots_are c.self.view_is) (omega (arith, n, c.requires)) cuts cut

pub structs::slice_all-loop-array-preserved : goal.structs::slice_all-loop-array-preserved
structs::slice_all-loop-array-preserved t c =
    rw (add-one c.loop-array.array-index, c.in_ok-push.ensures.items) (one_more_cut _ _ _ _ _ _ _ c.loop-array-test.true c.array-item.is c.in_ok-slice.ensures.data_type c.in_ok-slice.ensures.slots c.loop-array.invariant)

pub fixed_size_list::FixedSizeListArray::slice-slice_with_type-parts-requires-clause-fits : goal.fixed_size_list::FixedSizeListArray::slice-slice_with_type-parts-requires-clause-fits
fixed_size_list::FixedSizeListArray::slice-slice_with_type-parts-requires-clause-fits t c = rw c.self.invariant.count_is c.self.invariant.fits.validity_fits

pub fixed_size_list::FixedSizeListArray::slice-slice_with_type-parts-requires-clause-within : goal.fixed_size_list::FixedSizeListArray::slice-slice_with_type-parts-requires-clause-within
fixed_size_list::FixedSizeListArray::slice-slice_with_type-parts-requires-clause-within t c = omega (arith, c.requires, count_fixed (array_slots c.self.inside.values) c.self.invariant (nested_slots_are c.self.view_is))

pub fixed_size_list::FixedSizeListArray::slice-overflow_mul-offset : goal.fixed_size_list::FixedSizeListArray::slice-overflow_mul-offset
fixed_size_list::FixedSizeListArray::slice-overflow_mul-offset t c =
    let n = count_fixed (array_slots c.self.inside.values) c.self.invariant (nested_slots_are c.self.view_is) in
    let b = bytes_within c.args.offset c.args.count (list_size c.self.inside.data_type) (length (array_slots c.self.inside.values)) (omega (arith, n, c.requires, c.self.invariant.count_is)) in
    rw c.self.invariant.size_is (omega (arith, b, c.self.invariant.bounded))

pub fixed_size_list::FixedSizeListArray::slice-overflow_mul-count : goal.fixed_size_list::FixedSizeListArray::slice-overflow_mul-count
fixed_size_list::FixedSizeListArray::slice-overflow_mul-count t c =
    let n = count_fixed (array_slots c.self.inside.values) c.self.invariant (nested_slots_are c.self.view_is) in
    let b = bytes_within c.args.offset c.args.count (list_size c.self.inside.data_type) (length (array_slots c.self.inside.values)) (omega (arith, n, c.requires, c.self.invariant.count_is)) in
    rw c.self.invariant.size_is (omega (arith, b, c.self.invariant.bounded))

pub fixed_size_list::FixedSizeListArray::slice-slice-requires : goal.fixed_size_list::FixedSizeListArray::slice-slice-requires
fixed_size_list::FixedSizeListArray::slice-slice-requires t c =
    let n = count_fixed (array_slots c.self.inside.values) c.self.invariant (nested_slots_are c.self.view_is) in
    let d = c.decreases in
    let k = fixed_list_falls c.self.inside.data_type c.self.inside.values c.self.invariant.fits.kind in (
      omega (arith, d, k, ap size-Array c.get-child.ensures, ap deep-Array c.get-child.ensures, ap (λ (a : NestedColumn). size-DataType a.data_type) c.self.view_is, sizes_below (c.self.inside.values ∷ [])),
      rw (c.get-child.ensures, c.self.invariant.size_is) (bytes_within c.args.offset c.args.count (list_size c.self.inside.data_type) (length (array_slots c.self.inside.values)) (omega (arith, n, c.requires, c.self.invariant.count_is))),
    )

pub fixed_size_list::FixedSizeListArray::slice-invariant_of-result : goal.fixed_size_list::FixedSizeListArray::slice-invariant_of-result
fixed_size_list::FixedSizeListArray::slice-invariant_of-result t c =
    let n = count_fixed (array_slots c.self.inside.values) c.self.invariant (nested_slots_are c.self.view_is) in
    let child = rw c.in_ok-values.ensures.first at c.boxed-values.ensures.value in
    let slots = rw child at c.slice.ensures.slots in
    let items = slots ∙ ap (λ a. take (c.args.count * c.self.inside.size) (drop (c.args.offset * c.self.inside.size) (array_slots a))) c.get-child.ensures in
    let data_type = rw c.in_ok-values.ensures.second at c.slice_with_type-parts.ensures.data_type in
    let cut = rw c.in_ok-values.ensures.second at c.slice_with_type-parts.ensures.cut in
    let type = rw child at c.slice.ensures.data_type in
    let kind = type ∙ ap array_type c.get-child.ensures in
    cut_fixed_parts _ _ (array_slots c.self.inside.values) _ _ _ c.self.invariant c.args.offset c.args.count (omega (arith, n, c.requires)) c.in_ok-values.validity cut (array_slots c.in_ok-values.values) items _ _ data_type kind

pub fixed_size_list::FixedSizeListArray::slice-returns-clause-slots : goal.fixed_size_list::FixedSizeListArray::slice-returns-clause-slots
fixed_size_list::FixedSizeListArray::slice-returns-clause-slots t c =
    let n = count_fixed (array_slots c.self.inside.values) c.self.invariant (nested_slots_are c.self.view_is) in
    let child = rw c.in_ok-values.ensures.first at c.boxed-values.ensures.value in
    let slots = rw child at c.slice.ensures.slots in
    let items = slots ∙ ap (λ a. take (c.args.count * c.self.inside.size) (drop (c.args.offset * c.self.inside.size) (array_slots a))) c.get-child.ensures in
    let data_type = rw c.in_ok-values.ensures.second at c.slice_with_type-parts.ensures.data_type in
    let cut = rw c.in_ok-values.ensures.second at c.slice_with_type-parts.ensures.cut in
    cut_fixed _ (array_type c.self.inside.values) (array_slots c.self.inside.values) _ _ _ c.self.invariant c.args.offset c.args.count (omega (arith, n, c.requires)) c.in_ok-values.validity cut (array_slots c.in_ok-values.values) items _ _ data_type (nested_slots_are c.self.view_is)

pub fixed_size_list::FixedSizeListArray::slice-returns-clause-data_type : goal.fixed_size_list::FixedSizeListArray::slice-returns-clause-data_type
fixed_size_list::FixedSizeListArray::slice-returns-clause-data_type t c =
    let data_type = rw c.in_ok-values.ensures.second at c.slice_with_type-parts.ensures.data_type in
    data_type ∙ nested_types_are c.self.view_is

pub dictionary::DictionaryArray::slice-slice-requires-2 : goal.dictionary::DictionaryArray::slice-slice-requires-2
dictionary::DictionaryArray::slice-slice-requires-2 t c = omega (arith, c.requires, count_keys _ _ _ (dictionary_slots_are c.self.view_is))

pub dictionary::DictionaryArray::slice-invariant_of-result : goal.dictionary::DictionaryArray::slice-invariant_of-result
dictionary::DictionaryArray::slice-invariant_of-result t c =
    let n = count_keys _ _ _ (dictionary_slots_are c.self.view_is) in
    let child = rw c.in_ok-values.ensures.first at c.boxed-values.ensures.value in
    let first = rw c.in_ok-values.ensures.second at c.both-parts.ensures.first in
    let second = rw c.in_ok-values.ensures.second at c.both-parts.ensures.second in
    let data_type = rw first at c.try_clone.ensures.copy in
    let key_type = rw second at c.slice-2.ensures.integer_type in
    let keys = rw second at c.slice-2.ensures.slots in
    let slots = rw child at c.slice.ensures.slots in
    let type = rw child at c.slice.ensures.data_type in
    let items : array_slots c.in_ok-values.values ≡ array_slots c.self.inside.values = slots ∙ whole _ _ c.len.ensures ∙ ap array_slots c.get-child.ensures in
    let kind : array_type c.in_ok-values.values ≡ array_type c.self.inside.values = type ∙ ap array_type c.get-child.ensures in
    rw (key_type, keys, items, kind) record {
      kind = (c.self.invariant.kind.0, data_type ∙ c.self.invariant.kind.1);
      keys_fit = keys_cut _ c.args.offset c.args.count (keys_slots c.self.inside.keys) (omega (arith, n, c.requires)) c.self.invariant.keys_fit;
    }

pub dictionary::DictionaryArray::slice-returns-clause-data_type : goal.dictionary::DictionaryArray::slice-returns-clause-data_type
dictionary::DictionaryArray::slice-returns-clause-data_type t c =
    let first = rw c.in_ok-values.ensures.second at c.both-parts.ensures.first in
    let data_type = rw first at c.try_clone.ensures.copy in
    data_type ∙ dictionary_types_are c.self.view_is

pub dictionary::DictionaryArray::slice-returns-clause-slots : goal.dictionary::DictionaryArray::slice-returns-clause-slots
dictionary::DictionaryArray::slice-returns-clause-slots t c =
    let child = rw c.in_ok-values.ensures.first at c.boxed-values.ensures.value in
    let second = rw c.in_ok-values.ensures.second at c.both-parts.ensures.second in
    let keys = rw second at c.slice-2.ensures.slots in
    let slots = rw child at c.slice.ensures.slots in
    let items : array_slots c.in_ok-values.values ≡ array_slots c.self.inside.values = slots ∙ whole _ _ c.len.ensures ∙ ap array_slots c.get-child.ensures in
    rw (keys, items) (slots_cut _ c.args.offset c.args.count (keys_slots c.self.inside.keys) _ (dictionary_slots_are c.self.view_is))

pub dictionary::DictionaryArray::slice-returns-clause-keys : goal.dictionary::DictionaryArray::slice-returns-clause-keys
dictionary::DictionaryArray::slice-returns-clause-keys t c =
    let second = rw c.in_ok-values.ensures.second at c.both-parts.ensures.second in
    let keys = rw second at c.slice-2.ensures.slots in
    keys ∙ ap (λ z. take c.args.count (drop c.args.offset z)) (dictionary_keys_are c.self.view_is)

pub dictionary::DictionaryArray::slice-returns-clause-items : goal.dictionary::DictionaryArray::slice-returns-clause-items
dictionary::DictionaryArray::slice-returns-clause-items t c =
    let child = rw c.in_ok-values.ensures.first at c.boxed-values.ensures.value in
    let slots = rw child at c.slice.ensures.slots in
    slots ∙ whole _ _ c.len.ensures ∙ ap array_slots c.get-child.ensures ∙ dictionary_items_are c.self.view_is
