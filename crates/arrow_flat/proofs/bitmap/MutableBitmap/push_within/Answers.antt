use Rattle.std.proofs.Common.{◌≡◌, ◌-◌, ◌∙◌, ◌∷◌, [], ◌++◌, Bool, List, length, arith, ap, vec_capacity}
use Rattle.arrow_array.specs.Bits.{booleans_of}
use Rattle.arrow_flat.specs.Bits.{bit_capacity}
use Rattle.arrow_flat.specs.Capacity.{Growing}
use Rattle.arrow_flat.proofs.Bits.{Written, booleans-written, length-booleans}
use Rattle.arrow_flat.proofs.bitmap.MutableBitmap.push_within.Goals as goal

pub returns : goal.returns
returns c =
    let w = c.self.inside.words in
    let n = c.self.inside.count in
    let inv = c.self.invariant in
    let items : booleans_of w.items 0 n ≡ c.args.self.now.items = ap (λ (g : Growing Bool). g.items) c.self.view_is in
    let spare : bit_capacity (vec_capacity w) - n ≡ c.args.self.now.spare = ap (λ (g : Growing Bool). g.spare) c.self.view_is in
    let written : Written w.items c.write_bit.new.words.items n c.args.value = record {
      within = omega (arith, inv.enough, c.if-self-eq0.false, c.write_bit.ensures.len, w.ok.0);
      tight = omega (arith, inv.tight, c.write_bit.ensures.len, w.ok.0);
      same = c.write_bit.ensures.others;
      here = c.write_bit.ensures.written;
    } in
    let count = ap length items in
    let l = length-booleans w.items 0 n in (
      omega (arith, count, l, c.if-self-eq0.false),
      booleans-written _ _ _ _ written ∙ ap (λ (ts : List Bool). ts ++ c.args.value ∷ []) items,
      rw c.write_bit.ensures.capacity (omega (arith, spare, inv.enough, inv.fits, c.if-self-eq0.false, w.ok.0)),
    )
