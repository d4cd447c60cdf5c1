use Rattle.std.proofs.Common.{refl, arith, None}
use Rattle.arrow_array.proofs.Cuts.{cut_made_slots}
use Rattle.arrow_array.proofs.Fits.{nulls}
use Rattle.arrow_array.proofs.Windows.{slots_are, count_slots}
use Rattle.arrow_array.specs.Slots.{null_at}
use Rattle.arrow_array.proofs.null.NullArray.slice.Goals as goal

pub returns-clause-slots : goal.returns-clause-slots
returns-clause-slots c =
    let w = nulls c.self.inside.count in
    let n = count_slots w (slots_are c.self.view_is) in
    cut_made_slots w (slots_are c.self.view_is) null_at None c.args._offset c.args.count c.args.count refl (omega (arith, n, c.requires)) tt (λ j l. refl)
