use Rattle.std.proofs.Common.{◌∙◌}
use Rattle.std.proofs.lemmas.Result.{err_from_is_err_and}
use Rattle.json_columns.proofs.Lists.{only_memory, struct_parts, struct_array_slots}
use Rattle.json_columns.proofs.parts.struct_array.Goals as goal

pub returns-in_err-array-clause-memory : goal.returns-in_err-array-clause-memory
returns-in_err-array-clause-memory c =
    let p = err_from_is_err_and c.from_residual-in_err-array.result c.from_residual-in_err-array.ensures.1 in
    let d = c.in_ok-data_type in
    let parts = struct_parts c.args.marks.now.data_type d.data_type c.args.columns.items c.args.marks.now.booleans d.validity d.ensures.same_type d.ensures.validity c.requires.filled c.requires.kind in
    rw (p.1, p.2) (only_memory _ _ parts c.in_err-array.ensures.err)

pub returns-clause-slots : goal.returns-clause-slots
returns-clause-slots c =
    let d = c.in_ok-data_type in
    c.in_ok-array.ensures.slots
    ∙ struct_array_slots c.args.marks.now.data_type d.data_type c.args.columns.items c.args.marks.now.booleans d.validity d.ensures.same_type d.ensures.validity c.requires.filled c.requires.kind
