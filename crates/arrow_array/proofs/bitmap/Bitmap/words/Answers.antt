use Rattle.std.proofs.Common.{ℕ, ◌-◌, ◌/◌, List, length, drop, take_all, length-drop, arith}
use Rattle.std.specs.Arc.{arc_slice_items}
use Rattle.arrow_array.proofs.Bits.{covered, rebased}
use Rattle.arrow_array.proofs.bitmap.Bitmap.words.Goals as goal

pub returns-clause-covered : goal.returns-clause-covered
returns-clause-covered c =
    let xs : List ℕ = arc_slice_items c.self.inside.words in
    let n : ℕ = c.self.inside.start / 64 in
    rw c.as_slice.ensures.value (rw (take_all (length xs - n) (drop n xs) (omega (arith, length-drop n xs))) (covered _ _ _ _ c.self.view_is c.self.invariant.0))

pub returns-clause-booleans : goal.returns-clause-booleans
returns-clause-booleans c =
    let xs : List ℕ = arc_slice_items c.self.inside.words in let n : ℕ = c.self.inside.start / 64 in
    rw c.as_slice.ensures.value (rw (take_all (length xs - n) (drop n xs) (omega (arith, length-drop n xs))) (rebased _ _ _ _ c.self.view_is))
