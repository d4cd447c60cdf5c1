use Rattle.std.proofs.Common.{refl, arith}
use Rattle.arrow_array.proofs.Fits.{nulls}
use Rattle.arrow_array.proofs.Windows.{slots_are, count_slots, read_slot}
use Rattle.arrow_array.proofs.null.NullArray.is_valid.Goals as goal

pub returns-clause-held : goal.returns-clause-held
returns-clause-held c =
    let w = nulls c.self.inside.count in
    let n = count_slots w (slots_are c.self.view_is) in
    rw (read_slot w (slots_are c.self.view_is) c.args.i (omega (arith, n, c.requires))) refl
