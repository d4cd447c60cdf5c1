-- A column of lists or structs is made of the column of what stands beneath.
use Rattle.std.proofs.Common.{ap, sym, ◌∙◌, false, true, rules}
use Rattle.std.proofs.lemmas.Result.{err_from_is_err_and}
use Rattle.arrow_array.specs.Arrays.{array_slots}
use Rattle.arrow_array.specs.Dictionaries.{IsDictionaryOf}
use Rattle.arrow_core.proofs.types.DataType.TheLaws.{the_size}
use Rattle.arrow_core.proofs.types.Field.TheLaws.{the_size as field_size}
use Rattle.arrow_core.specs.declared.types.DataType.TheVariants as types
use Rattle.arrow_core.specs.declared.types.DataType.TheViews.{the_lemmas}
use Rattle.json_flat.specs.Columns.{lent, means}
use Rattle.json_columns.specs.Faults.{TooMany, TooManyFields, TooManyListed}
use Rattle.json_flat.specs.Reading.{list_in, reading, sized_list_in}
use Rattle.json_columns.proofs.ByFields.{list_ok, list_err, list_too_many, large_list_ok, large_list_err, large_list_too_many, struct_ok, struct_err, struct_too_many, list_item_readable, large_list_item_readable, struct_fields_readable, dictionary_err, dictionary_item, dictionary_ok, sized_err, sized_item, sized_ok}
use Rattle.json_columns.proofs.Counting.{always, dictionary_too_many, few_fields, few_listed, few_more, few_of, not_as, sized_too_many}
use Rattle.json_columns.proofs.FieldColumns.{one_column, struct_children, some_column, field_fault, member_column, member_fault, members_fault}
use Rattle.json_columns.proofs.FirstValues.{no_dictionary, of_child, of_children, one_array_more}
use Rattle.json_columns.proofs.ListColumns.{items_enough, lists_column, gathered_fault, count_fault, memory_fault}
use Rattle.json_columns.proofs.Rows.{structs_column}
use Rattle.json_columns.specs.Gathered.{all_sized, members_named}
use Rattle.json_columns.proofs.SizedLists as sized
use Rattle.json_columns.proofs.column.+columns.Goals as goal

pub read_column-read_lists-requires : goal.read_column-read_lists-requires
read_column-read_lists-requires t c =
    let kind = c.in-List.is ∙ ap types.List (sym c.get.ensures) in
    (let e = ap the_size c.in-List.is in let a = ap field_size c.get.ensures in let d = c.decreases in search (rules, the_lemmas), (kind, (list_item_readable c.args.data_type.now c.get.result.now kind c.requires.readable, c.requires.null)))

pub read_column-returns-in-List-clause-slots : goal.read_column-returns-in-List-clause-slots
read_column-returns-in-List-clause-slots t c =
    list_ok c.args.data_type.now c.get.result.now (lent c.args.values.now) c.read_lists.result (c.in-List.is ∙ ap types.List (sym c.get.ensures)) c.read_lists.ensures.slots

pub read_column-returns-in-List-clause-err : goal.read_column-returns-in-List-clause-err
read_column-returns-in-List-clause-err t c =
    list_err c.args.data_type.now c.get.result.now (lent c.args.values.now) c.read_lists.result (c.in-List.is ∙ ap types.List (sym c.get.ensures)) c.read_lists.ensures.err

pub read_column-returns-in-List-clause-counted : goal.read_column-returns-in-List-clause-counted
read_column-returns-in-List-clause-counted t c =
    not_as c.read_lists.result _ _ (ap (λ z. TooMany z (lent c.args.values.now)) (c.in-List.is ∙ ap types.List (sym c.get.ensures)) ∙ list_too_many c.get.result.now (lent c.args.values.now)) c.read_lists.ensures.counted

pub read_column-read_large_lists-requires : goal.read_column-read_large_lists-requires
read_column-read_large_lists-requires t c =
    let kind = c.in-LargeList.is ∙ ap types.LargeList (sym c.get-in-LargeList.ensures) in
    (let e = ap the_size c.in-LargeList.is in let a = ap field_size c.get-in-LargeList.ensures in let d = c.decreases in search (rules, the_lemmas), (kind, (large_list_item_readable c.args.data_type.now c.get-in-LargeList.result.now kind c.requires.readable, c.requires.null)))

pub read_column-returns-in-LargeList-clause-slots : goal.read_column-returns-in-LargeList-clause-slots
read_column-returns-in-LargeList-clause-slots t c =
    large_list_ok c.args.data_type.now c.get-in-LargeList.result.now (lent c.args.values.now) c.read_large_lists.result (c.in-LargeList.is ∙ ap types.LargeList (sym c.get-in-LargeList.ensures)) c.read_large_lists.ensures.slots

pub read_column-returns-in-LargeList-clause-err : goal.read_column-returns-in-LargeList-clause-err
read_column-returns-in-LargeList-clause-err t c =
    large_list_err c.args.data_type.now c.get-in-LargeList.result.now (lent c.args.values.now) c.read_large_lists.result (c.in-LargeList.is ∙ ap types.LargeList (sym c.get-in-LargeList.ensures)) c.read_large_lists.ensures.err

pub read_column-returns-in-LargeList-clause-counted : goal.read_column-returns-in-LargeList-clause-counted
read_column-returns-in-LargeList-clause-counted t c =
    not_as c.read_large_lists.result _ _ (ap (λ z. TooMany z (lent c.args.values.now)) (c.in-LargeList.is ∙ ap types.LargeList (sym c.get-in-LargeList.ensures)) ∙ large_list_too_many c.get-in-LargeList.result.now (lent c.args.values.now)) c.read_large_lists.ensures.counted

pub read_column-read_structs-requires : goal.read_column-read_structs-requires
read_column-read_structs-requires t c =
    let kind = c.in-Struct.is ∙ ap types.Struct (sym c.as_slice.ensures) in
    (let e = ap the_size c.in-Struct.is in let a = c.as_slice.ensures in let d = c.decreases in search (rules, the_lemmas), (kind, (struct_fields_readable c.args.data_type.now c.as_slice.result.now kind c.requires.readable, c.requires.null)))

pub read_column-returns-in-Struct-clause-slots : goal.read_column-returns-in-Struct-clause-slots
read_column-returns-in-Struct-clause-slots t c =
    struct_ok c.args.data_type.now c.as_slice.result.now (lent c.args.values.now) c.read_structs.result (c.in-Struct.is ∙ ap types.Struct (sym c.as_slice.ensures)) c.read_structs.ensures.slots

pub read_column-returns-in-Struct-clause-err : goal.read_column-returns-in-Struct-clause-err
read_column-returns-in-Struct-clause-err t c =
    struct_err c.args.data_type.now c.as_slice.result.now (lent c.args.values.now) c.read_structs.result (c.in-Struct.is ∙ ap types.Struct (sym c.as_slice.ensures)) c.read_structs.ensures.err

pub read_column-returns-in-Struct-clause-counted : goal.read_column-returns-in-Struct-clause-counted
read_column-returns-in-Struct-clause-counted t c =
    not_as c.read_structs.result _ _ (ap (λ z. TooMany z (lent c.args.values.now)) (c.in-Struct.is ∙ ap types.Struct (sym c.as_slice.ensures)) ∙ struct_too_many c.as_slice.result.now (lent c.args.values.now)) c.read_structs.ensures.counted

pub read_into_lists-returns-in_err-items-clause-err : goal.read_into_lists-returns-in_err-items-clause-err
read_into_lists-returns-in_err-items-clause-err t c =
    let p = err_from_is_err_and c.from_residual.result c.from_residual.ensures.1 in
    rw (p.1, p.2) (count_fault false c.args.item.now (lent c.args.values.now) _ c.in_err-items.ensures.err)

pub read_into_lists-returns-in_err-column-clause-err : goal.read_into_lists-returns-in_err-column-clause-err
read_into_lists-returns-in_err-column-clause-err t c =
    let p = err_from_is_err_and c.from_residual-in_err-column.result c.from_residual-in_err-column.ensures.1 in
    rw (p.1, p.2) (gathered_fault false c.args.item.now (lent c.args.values.now) (lent c.as_slice.result.now) _ (ap lent c.as_slice.ensures.value ∙ c.in_ok-items.ensures.items) c.in_err-column.ensures.err)

pub read_into_lists-list_array-requires-clause-kind : goal.read_into_lists-list_array-requires-clause-kind
read_into_lists-list_array-requires-clause-kind t c =
    (c.args.item.now, c.in_ok-items.ensures.data_type ∙ c.requires.kind, sym c.in_ok-column.ensures.data_type)

pub read_into_lists-list_array-requires-clause-within : goal.read_into_lists-list_array-requires-clause-within
read_into_lists-list_array-requires-clause-within t c =
    items_enough (reading c.args.item.now.data_type) (lent c.args.values.now) (lent c.as_slice.result.now) _ (array_slots c.in_ok-column.column) c.in_ok-items.ensures.lens (ap lent c.as_slice.ensures.value ∙ c.in_ok-items.ensures.items) c.in_ok-column.ensures.slots

pub read_into_lists-returns-clause-slots : goal.read_into_lists-returns-clause-slots
read_into_lists-returns-clause-slots t c =
    lists_column (reading c.args.item.now.data_type) (lent c.args.values.now) (lent c.as_slice.result.now) _ (array_slots c.in_ok-column.column) c.list_array.result c.in_ok-items.ensures.lens (ap lent c.as_slice.ensures.value ∙ c.in_ok-items.ensures.items) c.in_ok-column.ensures.slots c.list_array.ensures.slots

pub read_into_lists-returns-clause-dictionaries : goal.read_into_lists-returns-clause-dictionaries
read_into_lists-returns-clause-dictionaries t c = of_child c.list_array.result c.in_ok-column.column c.list_array.ensures.dictionaries c.in_ok-column.ensures.dictionaries

pub read_into_lists-returns-clause-counted : goal.read_into_lists-returns-clause-counted
read_into_lists-returns-clause-counted t c =
    always c.list_array.result (TooManyListed false c.args.item.now (lent c.args.values.now) → ⊥)
    (few_listed false c.args.item.now (lent c.args.values.now) (lent c.as_slice.result.now) (ap lent c.as_slice.ensures.value ∙ c.in_ok-items.ensures.items) c.in_ok-items.ensures.counted c.in_ok-column.ensures.counted)

pub read_into_lists-returns-clause-err : goal.read_into_lists-returns-clause-err
read_into_lists-returns-clause-err t c =
    memory_fault (list_in (means (reading c.args.item.now.data_type))) (TooManyListed false c.args.item.now (lent c.args.values.now)) (lent c.args.values.now) c.list_array.result c.list_array.ensures.memory

pub read_into_large_lists-returns-in_err-items-clause-err : goal.read_into_large_lists-returns-in_err-items-clause-err
read_into_large_lists-returns-in_err-items-clause-err t c =
    let p = err_from_is_err_and c.from_residual.result c.from_residual.ensures.1 in
    rw (p.1, p.2) (count_fault true c.args.item.now (lent c.args.values.now) _ c.in_err-items.ensures.err)

pub read_into_large_lists-returns-in_err-column-clause-err : goal.read_into_large_lists-returns-in_err-column-clause-err
read_into_large_lists-returns-in_err-column-clause-err t c =
    let p = err_from_is_err_and c.from_residual-in_err-column.result c.from_residual-in_err-column.ensures.1 in
    rw (p.1, p.2) (gathered_fault true c.args.item.now (lent c.args.values.now) (lent c.as_slice.result.now) _ (ap lent c.as_slice.ensures.value ∙ c.in_ok-items.ensures.items) c.in_err-column.ensures.err)

pub read_into_large_lists-large_list_array-requires-clause-kind : goal.read_into_large_lists-large_list_array-requires-clause-kind
read_into_large_lists-large_list_array-requires-clause-kind t c =
    (c.args.item.now, c.in_ok-items.ensures.data_type ∙ c.requires.kind, sym c.in_ok-column.ensures.data_type)

pub read_into_large_lists-large_list_array-requires-clause-within : goal.read_into_large_lists-large_list_array-requires-clause-within
read_into_large_lists-large_list_array-requires-clause-within t c =
    items_enough (reading c.args.item.now.data_type) (lent c.args.values.now) (lent c.as_slice.result.now) _ (array_slots c.in_ok-column.column) c.in_ok-items.ensures.lens (ap lent c.as_slice.ensures.value ∙ c.in_ok-items.ensures.items) c.in_ok-column.ensures.slots

pub read_into_large_lists-returns-clause-slots : goal.read_into_large_lists-returns-clause-slots
read_into_large_lists-returns-clause-slots t c =
    lists_column (reading c.args.item.now.data_type) (lent c.args.values.now) (lent c.as_slice.result.now) _ (array_slots c.in_ok-column.column) c.large_list_array.result c.in_ok-items.ensures.lens (ap lent c.as_slice.ensures.value ∙ c.in_ok-items.ensures.items) c.in_ok-column.ensures.slots c.large_list_array.ensures.slots

pub read_into_large_lists-returns-clause-dictionaries : goal.read_into_large_lists-returns-clause-dictionaries
read_into_large_lists-returns-clause-dictionaries t c = of_child c.large_list_array.result c.in_ok-column.column c.large_list_array.ensures.dictionaries c.in_ok-column.ensures.dictionaries

pub read_into_large_lists-returns-clause-counted : goal.read_into_large_lists-returns-clause-counted
read_into_large_lists-returns-clause-counted t c =
    always c.large_list_array.result (TooManyListed true c.args.item.now (lent c.args.values.now) → ⊥)
    (few_listed true c.args.item.now (lent c.args.values.now) (lent c.as_slice.result.now) (ap lent c.as_slice.ensures.value ∙ c.in_ok-items.ensures.items) c.in_ok-items.ensures.counted c.in_ok-column.ensures.counted)

pub read_into_large_lists-returns-clause-err : goal.read_into_large_lists-returns-clause-err
read_into_large_lists-returns-clause-err t c =
    memory_fault (list_in (means (reading c.args.item.now.data_type))) (TooManyListed true c.args.item.now (lent c.args.values.now)) (lent c.args.values.now) c.large_list_array.result c.large_list_array.ensures.memory

pub read_fields-returns-in_err-column-clause-err : goal.read_fields-returns-in_err-column-clause-err
read_fields-returns-in_err-column-clause-err t c =
    let p = err_from_is_err_and c.from_residual.result c.from_residual.ensures.1 in
    rw (p.1, p.2) (field_fault c.args.fields.now (lent c.args.values.now) c.loop-near.near c.index-fields-near.result _ c.loop-near-test.true c.index-fields-near.is c.in_err-column.ensures.err)

pub read_fields-loop-near-preserved : goal.read_fields-loop-near-preserved
read_fields-loop-near-preserved t c =
    let inv = c.loop-near.invariant in
    let column = c.in_ok-column.column in
    record {
      columns = one_column c.args.fields.now (lent c.args.values.now) c.loop-near.near c.index-fields-near.result _ _ column c.loop-near-test.true c.index-fields-near.is inv.columns c.in_ok-column.ensures.column c.in_ok-push.ensures.items;
      dictionaries = one_array_more _ _ column inv.dictionaries c.in_ok-column.ensures.dictionaries c.in_ok-push.ensures.items;
      counted = few_more c.args.fields.now (lent c.args.values.now) c.loop-near.near c.index-fields-near.result c.loop-near-test.true c.index-fields-near.is inv.counted c.in_ok-column.ensures.counted;
    }

pub read_fields-returns-clause-counted : goal.read_fields-returns-clause-counted
read_fields-returns-clause-counted t c = few_fields c.args.fields.now (lent c.args.values.now) c.loop-near.near c.loop-near-test.false c.loop-near.invariant.counted

pub read_members-returns-clause-column : goal.read_members-returns-clause-column
read_members-returns-clause-column t c =
    member_column c.args.field.now (lent c.args.values.now) (lent c.as_slice.result.now) c.read_column.result (ap lent c.as_slice.ensures.value ∙ c.in_ok-members.ensures.members ∙ ap (λ n. members_named n (lent c.args.values.now)) c.as_str.ensures) c.read_column.ensures.data_type c.read_column.ensures.slots

pub read_members-returns-clause-err : goal.read_members-returns-clause-err
read_members-returns-clause-err t c =
    member_fault c.args.field.now (lent c.args.values.now) (lent c.as_slice.result.now) c.read_column.result (ap lent c.as_slice.ensures.value ∙ c.in_ok-members.ensures.members ∙ ap (λ n. members_named n (lent c.args.values.now)) c.as_str.ensures) c.read_column.ensures.err

pub read_structs-returns-in_err-columns-clause-err : goal.read_structs-returns-in_err-columns-clause-err
read_structs-returns-in_err-columns-clause-err t c =
    let p = err_from_is_err_and c.from_residual.result c.from_residual.ensures.1 in
    rw (p.1, p.2) (members_fault c.args.fields.now (lent c.args.values.now) _ c.in_err-columns.ensures.err)

pub read_structs-struct_array-requires-clause-filled : goal.read_structs-struct_array-requires-clause-filled
read_structs-struct_array-requires-clause-filled t c = some_column c.args.fields.now (lent c.args.values.now) c.in_ok-columns.columns.items c.requires.readable c.in_ok-columns.ensures.columns

pub read_structs-struct_array-requires-clause-kind : goal.read_structs-struct_array-requires-clause-kind
read_structs-struct_array-requires-clause-kind t c =
    (c.args.fields.now, c.in_ok-marks.ensures.data_type ∙ c.requires.kind, struct_children c.args.fields.now (lent c.args.values.now) _ c.in_ok-columns.columns.items c.in_ok-marks.ensures.booleans c.in_ok-columns.ensures.columns)

pub read_structs-returns-clause-slots : goal.read_structs-returns-clause-slots
read_structs-returns-clause-slots t c =
    structs_column c.args.fields.now (lent c.args.values.now) c.in_ok-columns.columns.items _ c.struct_array.result c.in_ok-columns.ensures.columns c.in_ok-marks.ensures.booleans c.struct_array.ensures.slots

pub read_structs-returns-clause-counted : goal.read_structs-returns-clause-counted
read_structs-returns-clause-counted t c = always c.struct_array.result (TooManyFields c.args.fields.now (lent c.args.values.now) → ⊥) c.in_ok-columns.ensures.counted

pub read_structs-returns-clause-dictionaries : goal.read_structs-returns-clause-dictionaries
read_structs-returns-clause-dictionaries t c = of_children c.struct_array.result c.in_ok-columns.columns.items c.struct_array.ensures.dictionaries c.in_ok-columns.ensures.dictionaries

pub read_column-read_sized_lists-requires : goal.read_column-read_sized_lists-requires
read_column-read_sized_lists-requires t c =
    let kind = c.in-FixedSizeList.is ∙ ap (λ f. types.FixedSizeList f c.in-FixedSizeList.size) (sym c.get-in-FixedSizeList.ensures) in
    let p = sized_item c.args.data_type.now c.get-in-FixedSizeList.result.now c.in-FixedSizeList.size kind c.requires.readable in
    (let e = ap the_size c.in-FixedSizeList.is in let a = ap field_size c.get-in-FixedSizeList.ensures in let d = c.decreases in search (rules, the_lemmas), (kind, (p.0, (p.1, c.requires.null))))

pub read_column-returns-in-FixedSizeList-clause-slots : goal.read_column-returns-in-FixedSizeList-clause-slots
read_column-returns-in-FixedSizeList-clause-slots t c =
    sized_ok c.args.data_type.now c.get-in-FixedSizeList.result.now c.in-FixedSizeList.size (c.in-FixedSizeList.is ∙ ap (λ f. types.FixedSizeList f c.in-FixedSizeList.size) (sym c.get-in-FixedSizeList.ensures)) (lent c.args.values.now) c.read_sized_lists.result c.read_sized_lists.ensures.slots

pub read_column-returns-in-FixedSizeList-clause-err : goal.read_column-returns-in-FixedSizeList-clause-err
read_column-returns-in-FixedSizeList-clause-err t c =
    sized_err c.args.data_type.now c.get-in-FixedSizeList.result.now c.in-FixedSizeList.size (c.in-FixedSizeList.is ∙ ap (λ f. types.FixedSizeList f c.in-FixedSizeList.size) (sym c.get-in-FixedSizeList.ensures)) (lent c.args.values.now) c.read_sized_lists.result c.read_sized_lists.ensures.err

pub read_column-returns-in-FixedSizeList-clause-counted : goal.read_column-returns-in-FixedSizeList-clause-counted
read_column-returns-in-FixedSizeList-clause-counted t c =
    not_as c.read_sized_lists.result _ _ (ap (λ z. TooMany z (lent c.args.values.now)) (c.in-FixedSizeList.is ∙ ap (λ f. types.FixedSizeList f c.in-FixedSizeList.size) (sym c.get-in-FixedSizeList.ensures)) ∙ sized_too_many c.get-in-FixedSizeList.result.now c.in-FixedSizeList.size (lent c.args.values.now)) c.read_sized_lists.ensures.counted

pub read_into_sized_lists-returns-in_err-column-clause-err : goal.read_into_sized_lists-returns-in_err-column-clause-err
read_into_sized_lists-returns-in_err-column-clause-err t c =
    let p = err_from_is_err_and c.from_residual-in_err-column.result c.from_residual-in_err-column.ensures.1 in
    rw (p.1, p.2) (sized.item_fault c.args.size c.args.item.now (lent c.args.values.now) (lent c.as_slice.result.now) _ (ap lent c.as_slice.ensures.value ∙ c.in_ok-items.ensures.items) c.in_err-column.ensures.err)

pub read_into_sized_lists-fixed_list_array-requires-clause-filled : goal.read_into_sized_lists-fixed_list_array-requires-clause-filled
read_into_sized_lists-fixed_list_array-requires-clause-filled t c = sized.filled_is _ c.args.item.now c.args.size (c.in_ok-items.ensures.data_type ∙ c.requires.kind) c.requires.filled

pub read_into_sized_lists-fixed_list_array-requires-clause-kind : goal.read_into_sized_lists-fixed_list_array-requires-clause-kind
read_into_sized_lists-fixed_list_array-requires-clause-kind t c = sized.kind_is _ c.args.item.now c.args.size (c.in_ok-items.ensures.data_type ∙ c.requires.kind) _ c.in_ok-column.ensures.data_type

pub read_into_sized_lists-fixed_list_array-requires-clause-whole : goal.read_into_sized_lists-fixed_list_array-requires-clause-whole
read_into_sized_lists-fixed_list_array-requires-clause-whole t c =
    sized.whole_is _ c.args.item.now c.args.size (c.in_ok-items.ensures.data_type ∙ c.requires.kind) _ _
    (sized.items_enough (reading c.args.item.now.data_type) c.args.size (lent c.args.values.now) (lent c.as_slice.result.now) _ (array_slots c.in_ok-column.column) c.in_ok-items.ensures.booleans (ap lent c.as_slice.ensures.value ∙ c.in_ok-items.ensures.items) c.in_ok-column.ensures.slots)

pub read_into_sized_lists-returns-clause-slots : goal.read_into_sized_lists-returns-clause-slots
read_into_sized_lists-returns-clause-slots t c =
    sized.lists_column (reading c.args.item.now.data_type) c.args.size (lent c.args.values.now) (lent c.as_slice.result.now) _ (array_slots c.in_ok-column.column) c.fixed_list_array.result c.in_ok-items.ensures.booleans (ap lent c.as_slice.ensures.value ∙ c.in_ok-items.ensures.items) c.in_ok-column.ensures.slots
    (sized.slots_are _ c.args.item.now c.args.size (c.in_ok-items.ensures.data_type ∙ c.requires.kind) _ (array_slots c.in_ok-column.column) c.fixed_list_array.result c.fixed_list_array.ensures.slots)

pub read_into_sized_lists-returns-clause-dictionaries : goal.read_into_sized_lists-returns-clause-dictionaries
read_into_sized_lists-returns-clause-dictionaries t c = of_child c.fixed_list_array.result c.in_ok-column.column c.fixed_list_array.ensures.dictionaries c.in_ok-column.ensures.dictionaries

pub read_into_sized_lists-returns-clause-counted : goal.read_into_sized_lists-returns-clause-counted
read_into_sized_lists-returns-clause-counted t c =
    let sized = all_sized c.args.size (lent c.args.values.now) in
    always c.fixed_list_array.result (TooMany c.args.item.now.data_type sized → ⊥)
    (few_of c.args.item.now.data_type sized (lent c.as_slice.result.now) (ap lent c.as_slice.ensures.value ∙ c.in_ok-items.ensures.items) c.in_ok-column.ensures.counted)

pub read_into_sized_lists-returns-clause-err : goal.read_into_sized_lists-returns-clause-err
read_into_sized_lists-returns-clause-err t c =
    memory_fault (sized_list_in c.args.size (means (reading c.args.item.now.data_type))) (TooMany c.args.item.now.data_type (all_sized c.args.size (lent c.args.values.now))) (lent c.args.values.now) c.fixed_list_array.result c.fixed_list_array.ensures.memory

pub read_column-read_dictionary-requires : goal.read_column-read_dictionary-requires
read_column-read_dictionary-requires t c =
    let kind : IsDictionaryOf c.in-Dictionary.key c.args.data_type.now c.get-in-Dictionary.result.now = (c.in-Dictionary.field-2, c.in-Dictionary.is ∙ ap (λ v. types.Dictionary c.in-Dictionary.key v c.in-Dictionary.field-2) (sym c.get-in-Dictionary.ensures)) in
    record { kind = kind; value_type = dictionary_item c.args.data_type.now c.get-in-Dictionary.result.now c.in-Dictionary.key kind c.requires.readable }

pub read_column-returns-in-Dictionary-clause-slots : goal.read_column-returns-in-Dictionary-clause-slots
read_column-returns-in-Dictionary-clause-slots t c =
    let kind : IsDictionaryOf c.in-Dictionary.key c.args.data_type.now c.get-in-Dictionary.result.now = (c.in-Dictionary.field-2, c.in-Dictionary.is ∙ ap (λ v. types.Dictionary c.in-Dictionary.key v c.in-Dictionary.field-2) (sym c.get-in-Dictionary.ensures)) in
    dictionary_ok c.args.data_type.now c.get-in-Dictionary.result.now c.in-Dictionary.key kind (lent c.args.values.now) c.read_dictionary.result c.read_dictionary.ensures.slots

pub read_column-returns-in-Dictionary-clause-err : goal.read_column-returns-in-Dictionary-clause-err
read_column-returns-in-Dictionary-clause-err t c =
    let kind : IsDictionaryOf c.in-Dictionary.key c.args.data_type.now c.get-in-Dictionary.result.now = (c.in-Dictionary.field-2, c.in-Dictionary.is ∙ ap (λ v. types.Dictionary c.in-Dictionary.key v c.in-Dictionary.field-2) (sym c.get-in-Dictionary.ensures)) in
    dictionary_err c.args.data_type.now c.get-in-Dictionary.result.now c.in-Dictionary.key kind (lent c.args.values.now) c.read_dictionary.result c.read_dictionary.ensures.err

pub read_column-returns-in-Dictionary-clause-counted : goal.read_column-returns-in-Dictionary-clause-counted
read_column-returns-in-Dictionary-clause-counted t c =
    let kind = c.in-Dictionary.is ∙ ap (λ v. types.Dictionary c.in-Dictionary.key v c.in-Dictionary.field-2) (sym c.get-in-Dictionary.ensures) in
    not_as c.read_dictionary.result _ _ (ap (λ z. TooMany z (lent c.args.values.now)) kind ∙ dictionary_too_many c.in-Dictionary.key c.get-in-Dictionary.result.now c.in-Dictionary.field-2 (lent c.args.values.now)) c.read_dictionary.ensures.counted

pub read_column-returns-in_default-clause-dictionaries : goal.read_column-returns-in_default-clause-dictionaries
read_column-returns-in_default-clause-dictionaries t c = no_dictionary c.read_flat.result c.read_flat.ensures.dictionaries
