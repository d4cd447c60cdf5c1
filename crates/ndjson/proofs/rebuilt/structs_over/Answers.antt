use Rattle.std.proofs.Common.{◌∙◌, map}
use Rattle.arrow_array.specs.Arrays.{array_slots}
use Rattle.arrow_array.specs.Structs.{record_at}
use Rattle.ndjson.proofs.SlotLaws.{slots_again}
use Rattle.ndjson.proofs.rebuilt.structs_over.Goals as goal

pub returns-clause-slots : goal.returns-clause-slots
returns-clause-slots c =
    let s = c.args.structs.now in
    let a = c.in_ok-array.ensures in
    a.slots ∙ slots_again (record_at (map array_slots c.args.values.items)) c.in_ok-validity.validity s.slots _ (c.requires.count a.fits.filled) (c.in_ok-validity.ensures s.slots c.validity.ensures) c.requires.slots
