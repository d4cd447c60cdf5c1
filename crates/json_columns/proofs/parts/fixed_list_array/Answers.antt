use Rattle.std.proofs.Common.{◌∙◌, length}
use Rattle.std.proofs.lemmas.Result.{err_from_is_err_and}
use Rattle.arrow_array.specs.Arrays.{array_slots, array_type}
use Rattle.json_columns.proofs.Lists.{only_memory}
use Rattle.json_columns.proofs.SizedLists.{sized_array_slots, sized_parts}
use Rattle.json_columns.proofs.parts.fixed_list_array.Goals as goal

pub returns-in_err-array-clause-memory : goal.returns-in_err-array-clause-memory
returns-in_err-array-clause-memory c =
    let p = err_from_is_err_and c.from_residual-in_err-array.result c.from_residual-in_err-array.ensures.1 in
    let d = c.in_ok-data_type in
    let parts = sized_parts c.args.marks.now.data_type d.data_type (array_type c.args.items) c.args.marks.now.booleans (length (array_slots c.args.items)) d.validity d.ensures.same_type d.ensures.validity c.requires.filled c.requires.kind c.requires.whole in
    rw (p.1, p.2) (only_memory _ _ parts c.in_err-array.ensures.err)

pub returns-clause-slots : goal.returns-clause-slots
returns-clause-slots c =
    let d = c.in_ok-data_type in
    c.in_ok-array.ensures.slots
    ∙ sized_array_slots c.args.marks.now.data_type d.data_type (array_type c.args.items) c.args.marks.now.booleans (length (array_slots c.args.items)) d.validity d.ensures.same_type d.ensures.validity c.requires.filled c.requires.kind c.requires.whole (array_slots c.args.items)
