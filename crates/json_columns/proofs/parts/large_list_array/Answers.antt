use Rattle.std.proofs.Common.{◌≡◌, ◌∙◌, sym, subst, length, true, arith}
use Rattle.std.proofs.lemmas.List.{map-id}
use Rattle.std.proofs.lemmas.Result.{err_from_is_err_and}
use Rattle.arrow_array.specs.Arrays.{array_slots, array_type}
use Rattle.arrow_array.specs.Offsets.{AreRising}
use Rattle.json_columns.proofs.Lists.{list_parts, list_array_slots, only_memory}
use Rattle.json_columns.proofs.parts.large_list_array.Goals as goal

pub try_from_rising-requires : goal.try_from_rising-requires
try_from_rising-requires c = subst AreRising (map-id c.in_ok-data_type.offsets.items) c.in_ok-data_type.ensures.rising

pub returns-in_err-array-clause-memory : goal.returns-in_err-array-clause-memory
returns-in_err-array-clause-memory c =
    let p = err_from_is_err_and c.from_residual-in_err-array.result c.from_residual-in_err-array.ensures.1 in
    let d = c.in_ok-data_type in
    let os = sym (map-id d.offsets.items) ∙ d.ensures.offsets in
    let parts = list_parts true c.args.lists.now.data_type d.data_type (array_type c.args.items) c.args.lists.now.lens d.offsets.items (array_slots c.args.items) d.validity d.ensures.same_type os d.ensures.validity c.requires.within c.requires.kind in
    rw (p.1, p.2) (only_memory _ _ parts c.in_err-array.ensures.err)

pub returns-clause-slots : goal.returns-clause-slots
returns-clause-slots c =
    let d = c.in_ok-data_type in
    let os = sym (map-id d.offsets.items) ∙ d.ensures.offsets in
    let count : d.offsets.len ≡ length d.offsets.items = omega (arith, d.offsets.ok.0) in
    c.in_ok-array.ensures.slots
    ∙ list_array_slots true c.args.lists.now.data_type d.data_type (array_type c.args.items) c.args.lists.now.lens d.offsets.items (array_slots c.args.items) d.validity d.ensures.same_type os d.ensures.validity c.requires.within d.offsets.len count
