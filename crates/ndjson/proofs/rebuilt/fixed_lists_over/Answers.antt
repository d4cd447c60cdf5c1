use Rattle.std.proofs.Common.{◌≡◌, ◌∙◌, rules}
use Rattle.arrow_array.specs.FixedLists.{list_size}
use Rattle.ndjson.proofs.SlotLaws.{fixed_lists_again}
use Rattle.ndjson.proofs.rebuilt.fixed_lists_over.Goals as goal

pub returns-clause-slots : goal.returns-clause-slots
returns-clause-slots c =
    let l = c.args.lists.now in
    let a = c.in_ok-array.ensures in
    let same : list_size c.in_ok-data_type.data_type ≡ list_size l.data_type = search rules in
    a.slots ∙ fixed_lists_again _ _ l.slots _ c.in_ok-validity.validity same a.fits.filled c.requires.count (c.in_ok-validity.ensures l.slots c.validity.ensures) c.requires.slots
