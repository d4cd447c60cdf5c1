use Rattle.avro_verbatim.proofs.Alikes.{of_array, of_record, of_union, union_is}
use Rattle.avro_verbatim.proofs.alike.+alike.Goals as goal

pub is_alike-returns-in-Record-Record : goal.is_alike-returns-in-Record-Record
is_alike-returns-in-Record-Record t c told =
    of_record c.args.source.now c.args.target.now c.in-Record-Record.source c.in-Record-Record.target c.as_slice.result.now c.as_slice-in-Record-Record.result.now c.in-Record-Record.is-0 c.in-Record-Record.is-1 c.as_slice.ensures c.as_slice-in-Record-Record.ensures (c.are_alike.ensures told)

pub is_alike-returns-in-Array-Array : goal.is_alike-returns-in-Array-Array
is_alike-returns-in-Array-Array t c told =
    of_array c.args.source.now c.args.target.now c.in-Array-Array.source c.in-Array-Array.target c.get.result.now c.get-in-Array-Array.result.now c.in-Array-Array.is-0 c.in-Array-Array.is-1 c.get.ensures c.get-in-Array-Array.ensures (c.is_alike.ensures told)

pub is_union_alike-returns-in-Null-Null : goal.is_union_alike-returns-in-Null-Null
is_union_alike-returns-in-Null-Null t c told =
    let a = union_is c.args.sources.now c.source_null-item.result c.source-item.result c.in-len2.len_at_least c.in-len2.len_below c.source_null-item.is c.source-item.is c.in-Null-Null.is-0 in
    let b = union_is c.args.targets.now c.target_null-item.result c.target-item.result c.in-len2-targets.len_at_least c.in-len2-targets.len_below c.target_null-item.is c.target-item.is c.in-Null-Null.is-1 in
    of_union c.args.sources.now c.args.targets.now c.source-item.result c.target-item.result a b (c.is_alike.ensures told)
