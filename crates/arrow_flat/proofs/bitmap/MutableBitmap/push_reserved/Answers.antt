use Rattle.std.proofs.Common.{◌≡◌, ◌+◌, ◌-◌, ◌^◌, ◌≤◌, ◌∙◌, ◌∷◌, [], ◌++◌, Bool, List, arith, ap, vec_capacity}
use Rattle.arrow_array.specs.Bits.{booleans_of}
use Rattle.arrow_flat.specs.Bits.{bit_capacity}
use Rattle.arrow_flat.specs.Capacity.{Growing}
use Rattle.arrow_flat.proofs.Bits.{Written, HoldBits-push, booleans-written}
use Rattle.arrow_flat.proofs.bitmap.MutableBitmap.push_reserved.Goals as goal

written : (c : goal.After-self-1) → Written c.self.inside.words.items c.write_bit.new.words.items c.self.inside.count c.args.value
written c = record {
  within = omega arith;
  tight = omega arith;
  same = λ k ne. c.write_bit.ensures.others k ne ∙ c.add_word.ensures.same k;
  here = c.write_bit.ensures.written;
}

pub invariant_of-self : goal.invariant_of-self
invariant_of-self c =
    let s : bit_capacity (vec_capacity c.self.inside.words) - c.self.inside.count ≡ c.args.self.now.spare = ap (λ (g : Growing Bool). g.spare) c.self.view_is in
    let f : c.self.inside.count + 65 ≤ 2 ^ 63 = omega (arith, c.requires, s) in
    HoldBits-push _ _ _ _ c.self.invariant (written c) f

pub returns-clause-items : goal.returns-clause-items
returns-clause-items c =
    let i : booleans_of c.self.inside.words.items 0 c.self.inside.count ≡ c.args.self.now.items = ap (λ (g : Growing Bool). g.items) c.self.view_is in
    booleans-written _ _ _ _ (written c) ∙ ap (λ (ts : List Bool). ts ++ c.args.value ∷ []) i
