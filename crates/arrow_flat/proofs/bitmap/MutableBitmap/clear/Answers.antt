use Rattle.std.proofs.Common.{◌≡◌, ◌-◌, arith, length, ap, Bool, vec_capacity}
use Rattle.arrow_array.specs.Bits.{booleans_of}
use Rattle.arrow_flat.specs.Bits.{bit_capacity}
use Rattle.arrow_flat.specs.Capacity.{Growing}
use Rattle.arrow_flat.proofs.Bits.{length-booleans}
use Rattle.arrow_flat.proofs.bitmap.MutableBitmap.clear.Goals as goal

pub returns-clause-capacity : goal.returns-clause-capacity
returns-clause-capacity c =
    let w = c.self.inside.words in
    let n = c.self.inside.count in
    let s : bit_capacity (vec_capacity w) - n ≡ c.args.self.now.spare = ap (λ (g : Growing Bool). g.spare) c.self.view_is in
    let l : length (booleans_of w.items 0 n) ≡ length c.args.self.now.items = ap (λ (g : Growing Bool). length g.items) c.self.view_is in
    let i = c.self.invariant in
    rw c.clear.ensures.capacity (omega (arith, s, l, length-booleans w.items 0 n, w.ok.0, i.enough, i.fits))
